use mathlib.Core.Path.{◌≡◌, ap, ◌∙◌}
use mathlib.Core.List.{List}
use Prim.Native.Nat.{ℕ, ◌+◌, ◌-◌}
use native.Mathlib.Omega.{arith}
use lib.ListN.{take, drop}
use Rattle.model.specs.Image.{timers_at}
use Rattle.convert.proofs.ConvertingLaws.{timers-alone}
use Rattle.convert.proofs.converting.convert_entry.Goals as goal

pub returns : goal.returns
returns c =
    let image = c.args.image.now in
    let at = c.args.at in
    let bytes = rw c.unwrap-entry.ensures at c.as_array.ensures.cases in
    let long : at + 560 - at ≡ 560 = omega arith in
    let read = c.timers_at.ensures ∙ ap (λ (l : List ℕ). timers_at l 0) bytes.same ∙ ap (λ (n : ℕ). timers_at (take n (drop at image)) 0) long ∙ timers-alone image at in
    rw (c.put_timers.ensures, c.timers_in.ensures, ap (λ (t : ℕ × ℕ). t.0) c.timers_meant-timers.ensures, ap (λ (t : ℕ × ℕ). t.1) c.timers_meant-timers.ensures, read)

use mathlib.Core.Path.{ap, ◌∙◌}
use mathlib.Core.List.{List}
use Prim.Native.Nat.{ℕ}
use native.Mathlib.Omega.{arith}
use lib.Dec.{eqb}
use lib.ListN.{length}
use Rattle.model.specs.Image.{Saved, saved_at}
use Rattle.image.proofs.ChainLaws.{last-saved}
use Rattle.image.proofs.ImageAnswers.{disk_last}
use Rattle.image.proofs.refusal.same_disk.Goals as goal

pub returns-in-Some : goal.returns-in-Some
returns-in-Some c =
    let a = c.args in
    let some = c.in-Some.ensures.cases.0 in
    ap (λ (n : ℕ). eqb n a.native) (c.native_of.ensures ∙ ap (λ (l : List ℕ). (saved_at l 0).native) c.in-Some.ensures.cases.1.same ∙ ap (λ (s : Saved). s.native) (last-saved a.chain.now _))
    ∙ disk_last a.native a.chain.now (length a.chain.now) c.requires (λ e. omega (arith, some, e))

use mathlib.Core.Path.{ap, ◌∙◌}
use mathlib.Core.List.{List}
use Prim.Native.Nat.{ℕ}
use native.Mathlib.Omega.{arith}
use Rattle.model.specs.Image.{form_of, Saved, saved_at}
use Rattle.image.proofs.ChainLaws.{form-newest, last-saved}
use Rattle.image.proofs.chain.chain_form.Goals as goal

pub returns-in-Some : goal.returns-in-Some
returns-in-Some c =
    let chain = c.args.chain.now in
    c.form_of.ensures
    ∙ ap (λ (l : List ℕ). form_of (saved_at l 0).timers) c.in-Some.ensures.cases.1.same
    ∙ ap (λ (s : Saved). form_of s.timers) (last-saved chain _)
    ∙ form-newest chain _ c.requires (λ e. let some = c.in-Some.ensures.cases.0 in omega (arith, some, e))

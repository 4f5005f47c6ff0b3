use mathlib.Core.Path.{ap, ◌∙◌}
use mathlib.Core.List.{List}
use Prim.Native.Nat.{ℕ}
use native.Mathlib.Omega.{arith}
use Rattle.model.specs.Image.{Saved, saved_at}
use Rattle.store.specs.Record.{encode}
use Rattle.store.specs.Entries.{restored_contents}
use Rattle.image.proofs.ChainLaws.{last-saved}
use Rattle.restore.proofs.RestoreLaws.{restored-blank, restored_last}
use Rattle.restore.proofs.newest.put_restored.Goals as goal

pub returns-in-None : goal.returns-in-None
returns-in-None c =
    let a = c.args in
    let none = c.in-None.ensures.cases in
    c.restore_blank.ensures ∙ ap (λ (s : Saved). encode (restored_contents s)) (restored-blank a.native a.chain.now _ (omega (arith, c.requires.whole, none)))

pub returns-in-Some : goal.returns-in-Some
returns-in-Some c =
    let a = c.args in
    let some = c.in-Some.ensures.cases.0 in
    c.restore_entry.ensures
    ∙ ap (λ (l : List ℕ). encode (restored_contents (saved_at l 0))) c.in-Some.ensures.cases.1.same
    ∙ ap (λ (s : Saved). encode (restored_contents s)) (last-saved a.chain.now _ ∙ restored_last a.native a.chain.now _ c.requires.whole (λ e. omega (arith, some, e)))

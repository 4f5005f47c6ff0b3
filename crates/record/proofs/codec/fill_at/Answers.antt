use mathlib.Core.Path.{◌∙◌}
use Rattle.store.specs.Record.{fill_of, decode}
use Rattle.record.proofs.codec.fill_at.Goals as goal

pub returns : goal.returns
unfolding decode
returns c =
    c.fill_of.ensures
    ∙ (λ i. fill_of (c.get.ensures i) (c.get-2.ensures i) (c.get-3.ensures i) (c.get-4.ensures i))

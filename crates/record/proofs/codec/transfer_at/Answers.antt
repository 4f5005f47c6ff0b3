use mathlib.Core.Path.{◌∙◌}
use Rattle.store.specs.Record.{transfer_of}
use Rattle.record.proofs.codec.transfer_at.Goals as goal

pub returns : goal.returns
returns c = c.transfer_of.ensures ∙ (λ i. transfer_of (c.get.ensures i) (c.get-2.ensures i) (c.get-3.ensures i))

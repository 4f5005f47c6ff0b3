use Rattle.store.specs.Record.{decode}
use Rattle.record.proofs.codec.visible_at.Goals as goal

pub returns : goal.returns
unfolding decode
returns c = c.get.ensures

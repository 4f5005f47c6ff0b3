use Rattle.store.specs.Record.{decode}
use Rattle.record.proofs.codec.native_at.Goals as goal

pub returns : goal.returns
unfolding decode
returns c = c.get.ensures

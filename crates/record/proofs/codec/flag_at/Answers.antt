use mathlib.Core.Path.{ap}
use Rattle.store.specs.Record.{flag_of}
use Rattle.record.proofs.codec.flag_at.Goals as goal

pub returns : goal.returns
returns c = ap flag_of c.get.ensures

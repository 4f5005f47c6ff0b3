use mathlib.Core.Path.{◌∙◌, ap}
use Rattle.store.specs.Record.{stage_of}
use Rattle.record.proofs.codec.stage_at.Goals as goal

pub returns : goal.returns
returns c = c.stage_of.ensures ∙ ap stage_of c.get.ensures

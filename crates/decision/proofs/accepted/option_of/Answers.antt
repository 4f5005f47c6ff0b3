use mathlib.Core.Path.{ap, ◌∙◌}
use Rattle.wire.specs.Choice.{bit}
use Rattle.model.specs.Device.{Feature}
use Rattle.decision.proofs.accepted.option_of.Goals as goal

pub returns : goal.returns
returns c = c.bit_of.ensures.value ∙ ap (λ (f : Feature). bit f.persistent) c.feature-f.ensures

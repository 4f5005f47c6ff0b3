use mathlib.Core.Path.{ap}
use Rattle.model.specs.Device.{Feature}
use Rattle.decision.proofs.accepted.state_of.Goals as goal

pub returns : goal.returns
returns c = ap (λ (f : Feature). f.state) c.feature-f.ensures

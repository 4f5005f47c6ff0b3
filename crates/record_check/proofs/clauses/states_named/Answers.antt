use mathlib.Core.Path.{refl}
use Rattle.model.specs.Key.{states_named}
use Rattle.record_check.proofs.clauses.states_named.Goals as goal

pub returns : goal.returns
unfolding states_named
returns c = refl

use mathlib.Core.Path.{refl}
use Rattle.record_check.proofs.clauses.timer_named.Goals as goal

pub returns : goal.returns
returns c = refl

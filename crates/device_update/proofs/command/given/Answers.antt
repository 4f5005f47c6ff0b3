use mathlib.Core.Path.{refl}
use Rattle.device_update.proofs.command.given.Goals as goal

pub returns-then-meant : goal.returns-then-meant
returns-then-meant c = (refl, rw c.if-meant.true)

pub returns : goal.returns
returns c = (refl, rw c.if-meant.false)

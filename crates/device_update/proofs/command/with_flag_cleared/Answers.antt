use mathlib.Core.Path.{refl}
use Rattle.device_update.proofs.command.with_flag_cleared.Goals as goal

pub returns : goal.returns
returns c = record { device = λ h. refl; stages = refl; four = refl }

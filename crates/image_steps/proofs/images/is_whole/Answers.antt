use mathlib.Core.Path.{refl}
use Rattle.image_steps.proofs.images.is_whole.Goals as goal

pub returns : goal.returns
returns c = refl

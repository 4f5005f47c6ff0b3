use native.Mathlib.Omega.{arith}
use Rattle.image_steps.proofs.images.is_disk.Goals as goal

pub returns : goal.returns
returns c = λ disk ed ek. rw (ed, ek, c.is_whole.ensures)

pub overflow_mul-result : goal.overflow_mul-result
overflow_mul-result c = omega arith

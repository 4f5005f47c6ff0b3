use native.Mathlib.Numerals.{add-one}
use mathlib.Core.Path.{refl}
use native.Mathlib.Omega.{arith}
use Rattle.wire.specs.Bytes.{all_zero}
use Rattle.runs.proofs.RunLaws.{all_zero-more}
use Rattle.runs.proofs.run.is_zero.Goals as goal

pub loop-j-init : goal.loop-j-init
unfolding all_zero
loop-j-init c = refl

pub loop-j-preserved : goal.loop-j-preserved
loop-j-preserved c = let a = c.args in rw (c.loop-j.invariant, add-one) (all_zero-more a.s.now a.from c.loop-j.j (omega arith))

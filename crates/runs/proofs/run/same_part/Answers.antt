use native.Mathlib.Numerals.{add-one}
use mathlib.Core.Path.{refl}
use native.Mathlib.Omega.{arith}
use Rattle.wire.specs.Bytes.{same}
use Rattle.runs.proofs.RunLaws.{same_more}
use Rattle.runs.proofs.run.same_part.Goals as goal

pub loop-j-init : goal.loop-j-init
unfolding same
loop-j-init c = refl

pub loop-j-preserved : goal.loop-j-preserved
loop-j-preserved c =
    let a = c.args in
    rw (c.loop-j.invariant, add-one) (same_more a.a.now a.b.now a.at a.from c.loop-j.j (omega arith) (omega arith))

use native.Mathlib.Numerals.{add-one}
use native.Mathlib.Omega.{arith}
use lib.ListN.{length-set}
use Rattle.runs.proofs.RunLaws.{copy_more}
use Rattle.runs.proofs.run.copy_part.Goals as goal

pub loop-j-preserved : goal.loop-j-preserved
loop-j-preserved c =
    let a = c.args in (
      simp length-set c.loop-j.invariant.0,
      rw (c.loop-j.invariant.1, add-one) (copy_more a.dst.now a.src.now a.at a.from c.loop-j.j (omega arith)),
    )

use native.Mathlib.Omega.{arith}
use Rattle.wire.specs.Bytes.{Bytes}
use Rattle.wire.proofs.FormUnique.{le-part}
use Rattle.runs.proofs.run.repeat_within.Goals as goal

pub returns : goal.returns
returns c =
    let a = c.args in
    let known : Bytes a.s.now = λ i. omega (arith, c.slice_known-1.given i) in
    rw (c.repeat.ensures, c.get-word.ensures, le-part 4 a.s.now a.from known (omega arith))

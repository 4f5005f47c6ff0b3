use Prim.Native.Nat.{◌-◌, ◌+◌}
use mathlib.Core.Path.{◌≡◌}
use native.Mathlib.Omega.{arith}
use lib.ListN.{replicate, length-replicate}
use Rattle.wire.proofs.PartsLaws.{copied, length_part}
use Rattle.runs.proofs.run.set_part.Goals as goal

pub returns : goal.returns
returns c =
    let a = c.args in
    let n : a.at + a.n - a.at ≡ a.n = omega arith in
    rw (c.fill.ensures.after, n, length_part a.s.now a.at a.n (omega arith))
    (copied a.s.now (replicate a.n a.b) a.at a.n (length-replicate a.n a.b) (omega arith))

use Prim.Native.Nat.{◌-◌}
use lib.ListN.{length}
use Rattle.std.proofs.Common.{rules}
use Rattle.console.proofs.ReadLaws.{read_further}
use Rattle.console.proofs.input.read_full.Goals as goal

pub loop-done-preserved : goal.loop-done-preserved
loop-done-preserved g c =
    let l = c.loop-done in
    let more = c.in_ok-n.ensures in
    (search rules, search rules, read_further l.done (length l.buf - l.done) c.in_ok-n.n l.buf c.read.new.buf _ _ _ l.invariant.1 more.bound.0 l.invariant.2 more.bytes.0)

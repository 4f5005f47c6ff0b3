use native.Mathlib.Omega.{arith}
use Rattle.std.proofs.Common.{rules, ◌+◌, ◌-◌}
use Rattle.wire.specs.Numbers.{le, put}
use Rattle.wire.proofs.PartsLaws.{copied}
use Rattle.wire.proofs.number.U32Number.put.Goals as goal

pub returns : goal.returns
unfolding put le
returns c =
    let a = c.args in
    let stored = c.copy_from_slice in
    rw (copied a.s.now stored.new.self a.at (a.at + 4 - a.at) (omega (arith, stored.ensures.len)) (omega arith), stored.ensures.after, c.to_le_bytes.ensures) (search rules)

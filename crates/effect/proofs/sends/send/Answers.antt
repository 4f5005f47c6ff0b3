use native.Mathlib.Omega.{arith}
use Rattle.effect.proofs.sends.send.Goals as goal

pub put_read-requires : goal.put_read-requires
put_read-requires c =
    let within = rw c.in-Sector.is at c.requires.3 in
    (omega (arith, c.requires.0, c.requires.2), omega (arith, within.0), omega (arith, within.1))

pub put_long-requires : goal.put_long-requires
put_long-requires c =
    let within = rw c.in-StoredSector.is at c.requires.3 in
    (omega (arith, c.requires.0, c.requires.2), omega (arith, within.0), omega (arith, within.1))

pub returns-in-Nothing : goal.returns-in-Nothing
returns-in-Nothing c =
    λ d table. rw c.in-Nothing.is c.put_reply.ensures

pub returns-in-Temperatures : goal.returns-in-Temperatures
returns-in-Temperatures c =
    λ d table. rw (c.in-Temperatures.is, ← table) c.put_table.ensures

pub returns-in-Sector : goal.returns-in-Sector
returns-in-Sector c =
    λ d table. rw c.in-Sector.is c.put_read.ensures

pub returns-in-StoredSector : goal.returns-in-StoredSector
returns-in-StoredSector c =
    λ d table. rw c.in-StoredSector.is c.put_long.ensures

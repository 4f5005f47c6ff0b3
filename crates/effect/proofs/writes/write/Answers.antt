use mathlib.Core.Path.{refl}
use native.Mathlib.Omega.{arith}
use Rattle.effect.proofs.writes.write.Goals as goal

pub write_sector-requires : goal.write_sector-requires
write_sector-requires c =
    let within = rw c.in-Sector.is at c.requires.2 in
    (c.requires.0, c.requires.1, (omega (arith, within.0), omega (arith, within.1)))

pub write_long-requires : goal.write_long-requires
write_long-requires c =
    let within = rw c.in-LongSector.is at c.requires.2 in
    (c.requires.0, c.requires.1, (omega (arith, within.0), omega (arith, within.1)))

pub returns-in-Nothing : goal.returns-in-Nothing
returns-in-Nothing c = rw c.in-Nothing.is record {
  area = refl;
  disk = refl;
}

pub returns-in-Sector : goal.returns-in-Sector
returns-in-Sector c =
    rw c.in-Sector.is record {
      area = refl;
      disk = c.write_sector.ensures;
    }

pub returns-in-LongSector : goal.returns-in-LongSector
returns-in-LongSector c =
    rw c.in-LongSector.is record {
      area = refl;
      disk = c.write_long.ensures;
    }

pub returns-in-PatternFill : goal.returns-in-PatternFill
returns-in-PatternFill c =
    rw c.in-PatternFill.is record {
      area = c.put_pattern.ensures;
      disk = refl;
    }

pub returns-in-DataFill : goal.returns-in-DataFill
returns-in-DataFill c =
    rw c.in-DataFill.is record {
      area = c.put_data.ensures;
      disk = refl;
    }

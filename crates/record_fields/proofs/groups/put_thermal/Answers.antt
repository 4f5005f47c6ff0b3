use native.Mathlib.Omega.{arith}
use Rattle.record_fields.proofs.groups.put_thermal.Goals as goal

pub returns : goal.returns
returns c =
    record {
      device_after = rw (c.put-4.ensures, c.put-3.ensures, c.put-2.ensures, c.put.ensures);
      fits = omega (arith, c.well_formed);
    }

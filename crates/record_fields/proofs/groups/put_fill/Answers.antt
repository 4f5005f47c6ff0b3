use native.Mathlib.Omega.{arith}
use Rattle.record_fields.proofs.groups.put_fill.Goals as goal

pub returns : goal.returns
returns c =
    record {
      device_after = rw (
        c.put-3.ensures,
        c.fill_end.ensures,
        c.put-2.ensures,
        c.next_sector.ensures,
        c.put.ensures,
        c.fill_first.ensures,
      );
      fits = omega (
        arith,
        c.fill_first.ensures,
        c.fill_first.type_inv,
        c.next_sector.ensures,
        c.next_sector.type_inv,
        c.fill_end.ensures,
        c.fill_end.type_inv,
      );
    }

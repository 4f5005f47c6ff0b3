use native.Mathlib.Omega.{arith}
use Rattle.record_fields.proofs.groups.put_sizes.Goals as goal

pub returns : goal.returns
returns c =
    record {
      device_after = rw (
        c.put-4.ensures,
        c.bit_of-2.ensures.value,
        c.put-3.ensures,
        c.bit_of.ensures.value,
        c.put-2.ensures,
        c.put.ensures,
      );
      fits = omega (arith, c.well_formed, c.bit_of.ensures.value, c.bit_of.type_inv, c.bit_of-2.ensures.value, c.bit_of-2.type_inv);
    }

use native.Mathlib.Omega.{arith}
use Rattle.record_fields.proofs.groups.put_settings.Goals as goal

pub returns : goal.returns
returns c =
    record {
      device_after = rw (
        c.put-7.ensures,
        c.bit_of-3.ensures.value,
        c.put-6.ensures,
        c.bit_of-2.ensures.value,
        c.put-5.ensures,
        c.bit_of.ensures.value,
        c.put-4.ensures,
        c.put-3.ensures,
        c.put-2.ensures,
        c.put.ensures,
      );
      fits = omega (
        arith,
        c.well_formed,
        c.bit_of.ensures.value,
        c.bit_of.type_inv,
        c.bit_of-2.ensures.value,
        c.bit_of-2.type_inv,
        c.bit_of-3.ensures.value,
        c.bit_of-3.type_inv,
      );
    }

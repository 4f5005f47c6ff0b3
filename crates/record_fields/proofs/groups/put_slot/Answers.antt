use native.Mathlib.Omega.{arith}
use Rattle.record_fields.proofs.groups.put_slot.Goals as goal

pub returns : goal.returns
returns c =
    record {
      device_after = rw (
        c.put-4.ensures,
        c.transfer_end.ensures,
        c.put-3.ensures,
        c.transfer_first.ensures,
        c.put-2.ensures,
        c.transfer_kind.ensures,
        c.put.ensures,
        c.stage_number.ensures,
      );
      fits = omega (
        arith,
        c.stage_number.ensures,
        c.stage_number.type_inv,
        c.transfer_kind.ensures,
        c.transfer_kind.type_inv,
        c.transfer_first.ensures,
        c.transfer_first.type_inv,
        c.transfer_end.ensures,
        c.transfer_end.type_inv,
      );
    }

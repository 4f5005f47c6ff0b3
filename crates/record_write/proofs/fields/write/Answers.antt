-- `groups-stored` states what its stores leave.
use Rattle.record_write.proofs.FitsLaws.{groups-fit}
use Rattle.record_write.proofs.StoredLaws.{groups-stored}
use native.Mathlib.Omega.{arith}
use Rattle.wire.specs.Bytes.{Bytes}
use Rattle.record_write.proofs.fields.write.Goals as goal

pub returns : goal.returns
returns c =
    let r = c.args.device.now in
    let d = c.args.d in
    let good = c.well_formed in
    let bytes : Bytes r = λ i. omega (arith, c.slice_known-1.given i) in record {
      device_after = groups-stored r d bytes c.requires c.put_sizes.ensures.device_after c.put_command.ensures.device_after
          c.put_settings.ensures.device_after c.put_thermal.ensures.device_after c.put_fill.ensures.device_after
          c.put_slots.ensures.device_after c.put_table.ensures;
      fits = record {
        head =
            groups-fit d c.put_sizes.ensures.fits c.put_command.ensures.fits c.put_settings.ensures.fits
            c.put_thermal.ensures.fits c.put_fill.ensures.fits c.put_slots.ensures.fits;
        interval = omega (arith, good);
        index = omega (arith, good);
        four = c.put_slots.ensures.four;
      };
    }

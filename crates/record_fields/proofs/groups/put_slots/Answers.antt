-- The four slots of the array are its list.
use mathlib.Core.Path.{◌≡◌, ap}
use mathlib.Core.List.{List}
use lib.ListN.{length}
use native.Mathlib.Omega.{arith}
use Rattle.wire.specs.Layout.{Field, stores}
use Rattle.record_fields.proofs.SlotsLaws.{slots-fields-four, slots-fit}
use Rattle.record_fields.proofs.groups.put_slots.Goals as goal

pub returns : goal.returns
returns c =
    let r = c.args.device.now in
    let l = c.args.slots in
    let four : length l ≡ 4 = omega (arith, c.well_formed) in record {
      device_after = rw (
        c.put_slot-4.ensures.device_after,
        c.put_slot-3.ensures.device_after,
        c.put_slot-2.ensures.device_after,
        c.put_slot.ensures.device_after,
      )
          (ap (λ (fs : List Field). stores fs r) (slots-fields-four l _ four));
      fits = slots-fit l _ four c.put_slot.ensures.fits c.put_slot-2.ensures.fits c.put_slot-3.ensures.fits c.put_slot-4.ensures.fits;
      four = four;
    }

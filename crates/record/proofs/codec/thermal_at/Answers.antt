use Rattle.record.specs.DeviceMeaning.{history_of}
use Rattle.store.specs.Record.{decode}
use Rattle.record.proofs.codec.thermal_at.Goals as goal

pub returns : goal.returns
unfolding decode
returns c =
    λ i.
    record {
      current = c.get.ensures i;
      cycle_maximum = c.get-2.ensures i;
      life_maximum = c.get-3.ensures i;
      history = history_of c.args.device.now;
      index = c.get-4.ensures i;
      minutes = c.get-5.ensures i;
    }

-- The numbers of a struct fit their places in the record: this follows from their types, and `write` passes it on to its callers.
use Rattle.std.specs.Prelude.{◌≡◌, ◌^◌, ◌<◌, [], length}
use Rattle.wire.specs.Layout.{Fit}
use Rattle.store.specs.Record.{head_fields}
use Rattle.record.specs.DeviceMeaning.{as_contents}
use Rattle.record.specs.declared.device as code

pub record NumbersFit (d : code.Device.Device) : Type 0 where
  pub head : Fit (head_fields (as_contents d []))
  pub interval : d.settings.log_interval.state < 256 ^ 2
  pub index : d.thermal.index < 256 ^ 2
  pub four : length d.slots ≡ 4

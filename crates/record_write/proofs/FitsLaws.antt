-- The contents that a struct means, with a full history, fit the record.
use mathlib.Core.Path.{◌≡◌, ◌∙◌}
use Prim.Native.Nat.{ℕ}
use mathlib.Core.List.{List, [], ◌++◌}
use lib.ListN.{length, length-map}
use Rattle.wire.specs.Layout.{Fit}
use Rattle.wire.specs.Bytes.{Bytes}
use Rattle.wire.proofs.LayoutLaws.{fit_append}
use Rattle.model.specs.Sizes.{history_size}
use Rattle.store.specs.Record.{size_fields, command_fields, settings_fields, thermal_fields, fill_fields, slots_fields, head_fields}
use Rattle.store.proofs.RecordLaws.{ContentsFit}
use Rattle.record.specs.DeviceMeaning.{as_fill, as_settings, as_thermal, stages_of, pending_of, as_command, as_device, as_contents}
use Rattle.record_write.specs.Fits.{NumbersFit}
use Rattle.record.specs.declared.device as code

-- the fields of the first half fit, if each group's do
pub groups-fit : (d : code.Device.Device) → Fit (size_fields (as_device d [])) → Fit (command_fields (as_command d.command [])) → Fit (settings_fields (as_settings d.settings))
    → Fit (thermal_fields (as_thermal d.thermal [])) → Fit (fill_fields (as_fill d.command.fill)) → Fit (slots_fields (stages_of d.slots) (pending_of d.slots)) → Fit (head_fields (as_contents d []))
groups-fit d sizes command settings thermal fill slots =
    let last_fields = slots_fields (stages_of d.slots) (pending_of d.slots) in
    let from_fill = fill_fields (as_fill d.command.fill) ++ last_fields in
    let from_thermal = thermal_fields (as_thermal d.thermal []) ++ from_fill in
    let from_settings = settings_fields (as_settings d.settings) ++ from_thermal in
    let from_command = command_fields (as_command d.command []) ++ from_settings in
    fit_append (size_fields (as_device d [])) from_command sizes
    (fit_append (command_fields (as_command d.command [])) from_settings command
    (fit_append (settings_fields (as_settings d.settings)) from_thermal settings
    (fit_append (thermal_fields (as_thermal d.thermal [])) from_fill thermal
    (fit_append (fill_fields (as_fill d.command.fill)) last_fields fill slots))))

pub contents-fit : (d : code.Device.Device) (history : List ℕ) → NumbersFit d → length history ≡ history_size → Bytes history → ContentsFit (as_contents d history)
contents-fit d history f size bytes =
    record {
      stages = length-map d.slots _ ∙ f.four;
      transfers = length-map d.slots _ ∙ f.four;
      history = size;
      readings = bytes;
      head = f.head;
      interval = f.interval;
      index = f.index;
    }

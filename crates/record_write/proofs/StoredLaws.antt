-- Storing the groups of fields one after the other, and the table's two numbers, gives the record of the device.
use mathlib.Core.Path.{◌≡◌, refl}
use Prim.Native.Nat.{ℕ}
use mathlib.Core.List.{List, []}
use Rattle.wire.specs.Layout.{stores}
use Rattle.wire.specs.Bytes.{Bytes}
use Rattle.store.specs.Record.{size_fields, command_fields, settings_fields, thermal_fields, fill_fields, slots_fields, table_numbers, encode}
use Rattle.store.proofs.WrittenLaws.{written}
use Rattle.record.specs.DeviceMeaning.{as_fill, as_settings, as_thermal, stages_of, pending_of, as_command, as_device, as_contents, history_of}
use Rattle.record.specs.declared.device as code
use Rattle.record_write.specs.Framed.{Framed}

-- THE LAW of `write`: r1 to r7 are the record after each of its stores
pub groups-stored : (r : List ℕ) (d : code.Device.Device) {r1 r2 r3 r4 r5 r6 r7 : List ℕ} → Bytes r → Framed r
    → r1 ≡ stores (size_fields (as_device d [])) r
    → r2 ≡ stores (command_fields (as_command d.command [])) r1
    → r3 ≡ stores (settings_fields (as_settings d.settings)) r2
    → r4 ≡ stores (thermal_fields (as_thermal d.thermal [])) r3
    → r5 ≡ stores (fill_fields (as_fill d.command.fill)) r4
    → r6 ≡ stores (slots_fields (stages_of d.slots) (pending_of d.slots)) r5
    → r7 ≡ stores (table_numbers d.settings.log_interval.state d.thermal.index) r6
    → r7 ≡ encode (as_contents d (history_of r))
groups-stored r d bytes framed e1 e2 e3 e4 e5 e6 e7 =
    rw (e7, e6, e5, e4, e3, e2, e1)
    (written r (as_contents d (history_of r)) bytes framed.size framed.spare framed.fixed refl)

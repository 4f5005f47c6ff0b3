-- The status sector, Table 11 of document 001.
use Rattle.std.specs.Prelude.{Bool, ℕ, List, [], ◌∷◌, ◌++◌}
use Rattle.wire.specs.Choice.{bit}
use Rattle.wire.specs.Layout.{Field, form}
use Rattle.model.specs.Sizes.{sector_size}
use Rattle.model.specs.Device.{Fill, idle, running, Command, Thermal, Device, next_sector}
use Rattle.model.specs.Buffers.{Sector}

-- "state at 10 (0, or 5 with a fill)"
abbrev pub drive_state : Fill → ℕ
drive_state idle = 0
drive_state (running first next end) = 5

-- "format 0002h; version 0001h at 2; spec 0001h at 4; flag bit 0 at 6; state at 10 (0, or 5 with a fill)"
abbrev pub status_head : Bool → Fill → List Field
status_head initialized fill =
    (0, 2, 0x0002) ∷ (2, 2, 0x0001) ∷ (4, 2, 0x0001) ∷ (6, 4, bit initialized) ∷ (10, 1, drive_state fill) ∷ []

-- "code 14; action 16; function 18; LBA 40-47 the next sector, 0 with no fill"
abbrev pub status_command : Command → List Field
status_command c = (14, 2, c.code) ∷ (16, 2, c.action) ∷ (18, 2, c.function) ∷ (40, 8, next_sector c.fill) ∷ []

-- "temperatures at 200 (now), 202 (this power cycle), 204 (life)"
abbrev pub status_temperatures : Thermal → List Field
status_temperatures t = (200, 1, t.current) ∷ (202, 1, t.cycle_maximum) ∷ (204, 1, t.life_maximum) ∷ []

abbrev pub status_fields : Device → List Field
status_fields d = status_head d.initialized d.command.fill ++ (status_command d.command ++ status_temperatures d.thermal)

-- "All else 0."
unfoldable pub status_sector : Device → Sector
status_sector d = form sector_size (status_fields d)

-- The fill: how it starts, advances by one sector, advances under a budget, and is stopped; the write of a sector.
use Rattle.std.specs.Prelude.{Bool, false, ◌&&◌, ℕ, zero, suc, ◌-◌, min, List, replicate, eqb, if◌then◌else◌}
use Rattle.model.specs.Sizes.{port_count}
use Rattle.model.specs.Device.{Fill, idle, running, Transfer, none, Device}
use Rattle.model.specs.Disk.{Disk, LongSector, checked, with_sector}
use Rattle.model.specs.Update.{with_fill, with_pending, with_initialized}
use Rattle.model.specs.Buffers.{Sector}

-- "A running fill stores FFFFh; its last sector stores 0000h."
abbrev pub running_code : ℕ
running_code = 0xFFFF

abbrev pub interrupted_code : ℕ
interrupted_code = 0x0008

-- a fill of the sectors from first up to end begins
abbrev pub start_fill : ℕ → ℕ → Device → Device
start_fill first end d = with_fill (running first first end) running_code d

abbrev pub nothing_pending : List Transfer
nothing_pending = replicate port_count none

-- "stops a running fill (code 0008h)"
abbrev pub stop_fill : Fill → Device → Device
stop_fill idle d = d
stop_fill (running first next end) d = with_fill idle interrupted_code d

-- "first stops a running fill (code 0008h) and drops an owed transfer"
unfoldable pub interrupt : Device → Device
interrupt d = with_pending nothing_pending (stop_fill d.command.fill d)

-- ---- sectors written

-- the device and its disk
pub record Volume : Type 0 where
  pub device : Device
  pub disk : Disk

-- "The Segment Initialized flag is cleared by any sector written"
unfoldable pub write_sector : ℕ → LongSector → Volume → Volume
write_sector lba x v = record { device = with_initialized false v.device; disk = with_sector lba x v.disk }

-- ".. and set when a fill from 0 to the last user LBA ends."
abbrev pub whole_disk : ℕ → ℕ → ℕ → Bool
whole_disk first end visible = eqb first 0 && eqb end visible

-- The fill after a sector; next is the sector after that one: "at end the fill is over".
abbrev pub advanced : ℕ → ℕ → ℕ → Device → Device
advanced first next end d =
    if eqb next end
    then with_initialized (whole_disk first end d.visible) (with_fill idle 0x0000 d)
    else with_fill (running first next end) running_code d

-- one sector of the fill, an ordinary write
abbrev pub fill_step : Fill → Sector → Volume → Volume
fill_step idle sector v = v
fill_step (running first next end) sector v =
    let w = write_sector next (checked sector) v in
    record { device = advanced first (suc next) end w.device; disk = w.disk }

unfoldable pub sector_step : Sector → Volume → Volume
sector_step sector v = fill_step v.device.command.fill sector v

abbrev pub iterate : {A : Type 0} → ℕ → (A → A) → A → A
iterate zero f a = a
iterate (suc k) f a = f (iterate k f a)

abbrev pub remaining : Fill → ℕ
remaining idle = 0
remaining (running first next end) = end - next

-- "k is the lesser of n and end - next (0 with no fill)"; "None running, or n = 0: reports 0."
unfoldable pub work_count : ℕ → Fill → ℕ
work_count n f = min n (remaining f)

-- "writes the next sectors of a running fill, as many as n and what is left allow"
unfoldable pub work : ℕ → Sector → Volume → Volume
work n sector v = iterate (work_count n v.device.command.fill) (sector_step sector) v

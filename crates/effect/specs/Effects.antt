-- What is written, in its parts, and what a write and a send require.
use Rattle.std.specs.Prelude.{ℕ, ◌+◌, ◌*◌, ◌≤◌, false, length}
use Rattle.model.specs.Sizes.{sector_size, check_size}
use Rattle.model.specs.Disk.{Disk, with_sector}
use Rattle.model.specs.Device.{Device}
use Rattle.model.specs.Update.{with_initialized}
use Rattle.model.specs.Fill.{start_fill}
use Rattle.model.specs.Decide.{Writing, no_write, one_sector, new_fill}
use Rattle.decision.specs.declared.decision as code
use Rattle.decision.specs.declared.decision.Writing.TheVariants as writes
use Rattle.decision.specs.declared.decision.Sending.TheVariants as sends

-- the device, and the disk, after what is written: the model's `written` has both
abbrev pub device_after : Writing → Device → Device
device_after no_write d = d
device_after (one_sector lba x) d = with_initialized false d
device_after (new_fill first end sector) d = start_fill first end d

abbrev pub disk_after : Writing → Disk → Disk
disk_after no_write disk = disk
disk_after (one_sector lba x) disk = with_sector lba x disk
disk_after (new_fill first end sector) disk = disk

-- a sector that is written or read is on the disk
abbrev pub Within : Disk → ℕ → Type 0
Within disk lba = (sector_size * lba + sector_size ≤ length disk.sectors) × (check_size * lba + check_size ≤ length disk.check_area)

abbrev pub WritesWithin : Disk → code.Writing.Writing → Type 0
WritesWithin disk writes.Nothing = Unit {0}
WritesWithin disk (writes.Sector lba) = Within disk lba
WritesWithin disk (writes.LongSector lba) = Within disk lba
WritesWithin disk (writes.PatternFill first end) = Unit {0}
WritesWithin disk (writes.DataFill first end) = Unit {0}

abbrev pub SendsWithin : Disk → code.Sending.Sending → Type 0
SendsWithin disk sends.Nothing = Unit {0}
SendsWithin disk sends.Temperatures = Unit {0}
SendsWithin disk (sends.Sector lba) = Within disk lba
SendsWithin disk (sends.StoredSector lba) = Within disk lba

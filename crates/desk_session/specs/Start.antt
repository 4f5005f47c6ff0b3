-- The machine at the start of a session.
use Rattle.std.specs.Prelude.{◌*◌, []}
use Rattle.wire.specs.Parts.{zeros}
use Rattle.model.specs.Sizes.{sector_size, check_size}
use Rattle.model.specs.Disk.{Disk, disk_of}
use Rattle.store.specs.Areas.{record_size, private_size}
use Rattle.store.specs.Entries.{PowerOnAfter, power_on_bytes}

-- "a fresh 64-sector disk"
abbrev pub fresh_disk : Disk
fresh_disk = disk_of (zeros (sector_size * 64)) (zeros (check_size * 64))

-- a power-on without an image, over areas of zeros
abbrev pub started : PowerOnAfter
started = power_on_bytes (zeros record_size) (zeros private_size) fresh_disk [] 0

-- How an effect is performed: first what is written, then what is sent. Only this, the fill's sector step and the repair access the disk.
use Rattle.std.specs.Prelude.{Bool, ℕ, suc, List, [], ◌++◌, eqb, if◌then◌else◌}
use Rattle.wire.specs.Numbers.{le}
use Rattle.sector_check.specs.Check.{check_of}
use Rattle.model.specs.Sizes.{check_size}
use Rattle.model.specs.Device.{Device}
use Rattle.model.specs.Disk.{Disk, LongSector, sector_at}
use Rattle.model.specs.Registers.{Registers, refused, reply_bytes}
use Rattle.model.specs.Status.{status_sector}
use Rattle.model.specs.Temperature.{table_bytes}
use Rattle.model.specs.Fill.{Volume, start_fill, write_sector}
use Rattle.model.specs.Decide.{Writing, no_write, one_sector, new_fill, Sending, no_data, status, temperatures, disk_sector, stored_sector, Decision}
use Rattle.model.specs.Buffers.{Mailbox, Sector}

-- ---- what is written

-- the device and the disk afterwards
abbrev pub written : Writing → Volume → Volume
written no_write v = v
written (one_sector lba x) v = write_sector lba x v
written (new_fill first end sector) v = record { device = start_fill first end v.device; disk = v.disk }

-- .. of a decision, on a disk
abbrev pub volume_after : Decision → Disk → Volume
volume_after c disk = written c.effect.writes (record { device = c.device; disk = disk })

-- the fill's sector, if a fill begins; otherwise the previous one
abbrev pub fill_sector_after : Writing → Sector → Sector
fill_sector_after no_write old = old
fill_sector_after (one_sector lba x) old = old
fill_sector_after (new_fill first end sector) old = sector

-- The sectors that are written, at once or by a fill that begins: from the first up to the end. No rule of the base uses it; the laws
-- that no hidden sector is written are about it, and W-211 checks it.
pub record Span : Type 0 where
  pub first : ℕ
  pub end : ℕ

abbrev pub span_of : Writing → Span
span_of no_write = record { first = 0; end = 0 }
span_of (one_sector lba x) = record { first = lba; end = suc lba }
span_of (new_fill first end sector) = record { first = first; end = end }

-- ---- what is sent

-- "A table is sent as it stands at the E1h read."
abbrev pub temperature_table : Device → Sector
temperature_table d = table_bytes d.settings.log_interval.state d.thermal.index d.thermal.history

abbrev pub no_sector : LongSector
no_sector = record { content = []; check = 0 }

-- the sector that is read, with its check number
abbrev pub sector_read : Sending → Disk → LongSector
sector_read no_data disk = no_sector
sector_read status disk = no_sector
sector_read temperatures disk = no_sector
sector_read (disk_sector lba) disk = sector_at lba disk
sector_read (stored_sector lba) disk = sector_at lba disk

-- whether the stored check number is that of the content
abbrev pub same_check : LongSector → Bool
same_check x = eqb x.check (check_of x.content)

-- "a read of a sector whose check differs has Error 40h, after the range check"
abbrev pub read_reply : Registers → LongSector → Mailbox
read_reply r x = if same_check x then reply_bytes r x.content else reply_bytes (refused 0x40) []

-- "Read Long sends the two check bytes as stored, zeros behind": 16 bits of them, low byte first
abbrev pub long_bytes : LongSector → List ℕ
long_bytes x = x.content ++ le check_size x.check

-- The reply, from registers, effect and the one sector that is read: no rule reads more of the disk.
abbrev pub reply_with : Registers → Sending → Device → LongSector → Mailbox
reply_with r no_data d x = reply_bytes r []
reply_with r status d x = reply_bytes r (status_sector d)
reply_with r temperatures d x = reply_bytes r (temperature_table d)
reply_with r (disk_sector lba) d x = read_reply r x
reply_with r (stored_sector lba) d x = reply_bytes r (long_bytes x)

abbrev pub reply_of : Decision → Volume → Mailbox
reply_of c v = let sends = c.effect.sends in reply_with c.registers sends v.device (sector_read sends v.disk)

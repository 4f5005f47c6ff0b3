-- The repair of a sector by its check bytes, an owner step: what it reports, and what it leaves.
use Rattle.std.specs.Prelude.{ℕ, Bool, false, eqb, if◌then◌else◌}
use Rattle.sector_check.specs.Repair.{report_of, repaired_sector}
use Rattle.model.specs.Device.{Device}
use Rattle.model.specs.Disk.{Disk, sector_at, with_content}
use Rattle.model.specs.Update.{with_initialized}
use Rattle.model.specs.Fill.{Volume, interrupt}

-- "An owner step reports 0 (check equal), 1 (bit 12 differs, 13 to 15 don't ..) or 2 (else)"
abbrev pub repair_report : ℕ → Disk → ℕ
repair_report lba disk = let x = sector_at lba disk in report_of x.check x.content

-- "The step first stops a fill and drops an owed transfer, as setting V does."; a flip "clears the flag"
abbrev pub repaired_device : Bool → Device → Device
repaired_device flips d = if flips then with_initialized false (interrupt d) else interrupt d

-- "it flips the data bit at the differing position"; the check bytes stay
abbrev pub repaired_disk : Bool → ℕ → Disk → Disk
repaired_disk flips lba disk =
    let x = sector_at lba disk in
    if flips then with_content lba (repaired_sector x.check x.content) disk else disk

-- "only 1 alters a sector"
unfoldable pub repair : ℕ → Volume → Volume
repair lba v =
    let flips = eqb (repair_report lba v.disk) 1 in
    record { device = repaired_device flips v.device; disk = repaired_disk flips lba v.disk }

-- The disk: its sectors and their check bytes, how one of them is read or written, and the part that is hidden.
use Rattle.std.specs.Prelude.{◌≡◌, ℕ, ◌*◌, ◌/◌, List, length, drop}
use Rattle.std.proofs.lemmas.List.Edits.{sets}
use Rattle.wire.specs.Numbers.{get, put}
use Rattle.wire.specs.Parts.{part}
use Rattle.sector_check.specs.Check.{check_of}
use Rattle.model.specs.Sizes.{sector_size, check_size}
use Rattle.model.specs.Buffers.{Sector}

-- the bytes of all sectors, in their order; W-202: "The disk gains a lent check area, two bytes a sector"
pub record Disk : Type 0 where
  pub sectors : List ℕ
  pub check_area : List ℕ

-- the disk of these sectors and check bytes
abbrev pub disk_of : List ℕ → List ℕ → Disk
disk_of sectors check_area = record { sectors = sectors; check_area = check_area }

-- the native size N
abbrev pub native_size : Disk → ℕ
native_size disk = length disk.sectors / sector_size

-- a disk of n sectors, with their check bytes
abbrev pub HasSize : ℕ → Disk → Type 0
HasSize n disk = (length disk.sectors ≡ sector_size * n) × (length disk.check_area ≡ check_size * n)

-- a sector with its check number
pub record LongSector : Type 0 where
  pub content : Sector
  pub check : ℕ

-- what an ordinary write stores: "Every ordinary write sets them."
abbrev pub checked : Sector → LongSector
checked sector = record { content = sector; check = check_of sector }

-- what the disk holds of one sector
abbrev pub sector_at : ℕ → Disk → LongSector
sector_at lba disk =
    record {
      content = part disk.sectors (sector_size * lba) sector_size;
      check = get check_size disk.check_area (check_size * lba);
    }

-- the disk with new content and check bytes of one sector
abbrev pub with_sector : ℕ → LongSector → Disk → Disk
with_sector lba x disk =
    record {
      sectors = sets disk.sectors (sector_size * lba) x.content;
      check_area = put check_size disk.check_area (check_size * lba) x.check;
    }

-- the disk with new content of one sector, whose check bytes stay
abbrev pub with_content : ℕ → Sector → Disk → Disk
with_content lba sector disk = record { sectors = sets disk.sectors (sector_size * lba) sector; check_area = disk.check_area }

-- the sectors outside the visible disk, from V on, and their check bytes: "Condition 3 counts the check area as disk"
abbrev pub hidden_part : ℕ → Disk → Disk
hidden_part visible disk =
    record { sectors = drop (sector_size * visible) disk.sectors; check_area = drop (check_size * visible) disk.check_area }

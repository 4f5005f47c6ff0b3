-- Sizes and places of the two areas that hold the machine: the device record and the private area.
use Rattle.std.specs.Prelude.{ℕ, ◌+◌, ◌*◌, List}
use Rattle.model.specs.Sizes.{sector_size, port_count, mailbox_size}

-- the bytes of the device record and of the private area
abbrev pub Record : Type 0
Record = List ℕ

abbrev pub Area : Type 0
Area = List ℕ

-- "The device record crosses as 1,024 bytes in a layout that the team fixes in docs/." (docs/record-layout.md)
abbrev pub record_size : ℕ
record_size = 1024

-- the first half holds the small fields, the second the temperature table
abbrev pub head_size : ℕ
head_size = 512

-- "Private area, 2,624 bytes: four slots of 528, then the fill sector.": 4,672 bytes since W-202, with slots of 1,040
abbrev pub slot_size : ℕ
slot_size = mailbox_size

abbrev pub slot_place : ℕ → ℕ
slot_place p = slot_size * p

abbrev pub fill_place : ℕ
fill_place = slot_size * port_count

abbrev pub private_size : ℕ
private_size = fill_place + sector_size

-- The starred examples of document 01 ("V = 64; * = proved"), as one list.
use Rattle.std.specs.Prelude.{ℕ, suc, ◌*◌, ◌-◌, ◌^◌, List, [], ◌∷◌, ◌++◌, map, get_or}
use Rattle.wire.specs.Layout.{Field, form}
use Rattle.wire.specs.Parts.{zeros}
use Rattle.model.specs.Sizes.{sector_size, check_size, registers_size, data_size}
use Rattle.model.specs.Device.{Fill, idle, running, Device}
use Rattle.model.specs.Update.{with_fill, with_thermal}
use Rattle.model.specs.Registers.{Registers}
use Rattle.model.specs.Temperature.{empty_history}
use Rattle.model.specs.Disk.{Disk}
use Rattle.model.specs.Fill.{Volume, work_count, work}
use Rattle.model.specs.Decide.{decide}
use Rattle.model.specs.Perform.{volume_after}
use Rattle.model.specs.Owner.{sample}
use Rattle.model.specs.Image.{power_on, blank}
use Rattle.model.specs.Buffers.{Mailbox}

-- a key sector with these words, after registers with B0h, D6h, E0h and count 1
abbrev pub key_mailbox : List Field → Mailbox
key_mailbox fields =
    form registers_size ((0, 1, 0xD6) ∷ (2, 1, 1) ∷ (4, 1, 0xE0) ∷ (6, 1, 0x4F) ∷ (8, 1, 0xC2) ∷ (11, 1, 0xB0) ∷ [])
    ++ form data_size fields

abbrev pub fill_key : ℕ → ℕ → List Field
fill_key start count = (0, 2, 2) ∷ (2, 2, 1) ∷ (4, 8, start) ∷ (12, 8, count) ∷ []

-- a key of five words
abbrev pub words_key : ℕ → ℕ → ℕ → ℕ → ℕ → List Field
words_key action function w2 w3 w4 = (0, 2, action) ∷ (2, 2, function) ∷ (4, 2, w2) ∷ (6, 2, w3) ∷ (8, 2, w4) ∷ []

abbrev pub fresh : Device
fresh = power_on (blank 64)

-- a fresh device whose temperatures are all n
abbrev pub with_maximum : ℕ → Device
with_maximum n =
    with_thermal (record { current = n; cycle_maximum = n; life_maximum = n; history = empty_history; index = 477; minutes = 0 }) fresh

pub data Example : Type 0 where
  key : List Field → Example
  maximum : ℕ → ℕ → Example
  left : ℕ → ℕ → Example

-- a fresh disk of zeros, whose fill has done sector 0 alone and has so many sectors left; V is no part of this example, so the disk is small
abbrev pub filling : ℕ → Volume
filling count =
    record {
      device = with_fill (running 0 1 (suc count)) 0xFFFF (power_on (blank (suc count)));
      disk = record { sectors = zeros (sector_size * suc count); check_area = zeros (check_size * suc count) };
    }

-- a fill's first sector, next sector and end, 0 with no fill
abbrev pub fill_numbers : Fill → List ℕ
fill_numbers idle = 0 ∷ 0 ∷ 0 ∷ []
fill_numbers (running first next end) = first ∷ next ∷ end ∷ []

-- Status, Error, value and LBA Mid of a reply, then the stored code and the fill of the device after it
abbrev pub outcome : Registers → Device → List ℕ
outcome r d = r.status ∷ r.error ∷ r.value ∷ r.lba_mid ∷ d.command.code ∷ fill_numbers d.command.fill

abbrev pub accepted_key : List ℕ
accepted_key = 0x50 ∷ 0 ∷ 0 ∷ 0 ∷ 0x0000 ∷ 0 ∷ 0 ∷ 0 ∷ []

abbrev pub accepted_fill : ℕ → ℕ → List ℕ
accepted_fill first end = 0x50 ∷ 0 ∷ 0 ∷ 0 ∷ 0xFFFF ∷ first ∷ first ∷ end ∷ []

-- with its code and (W-206) its word
abbrev pub refused_key : ℕ → ℕ → List ℕ
refused_key code word = 0x51 ∷ 0x04 ∷ code ∷ word ∷ code ∷ 0 ∷ 0 ∷ 0 ∷ []

-- the first bytes of four sectors
abbrev pub first_bytes : Disk → List ℕ
first_bytes disk = map (λ (lba : ℕ). get_or disk.sectors (sector_size * lba) 0) (0 ∷ 1 ∷ 2 ∷ 3 ∷ [])

-- What a key leaves; both maxima after a sample; the sectors that a work step reports, the stored code, the fill and the disk after it, where a
-- sector is shown by its first byte.
unfoldable pub evaluate : Example → List ℕ
evaluate (key fields) =
    let c = decide (record { port = 0 }) (key_mailbox fields) fresh in
    outcome c.registers (volume_after c (record { sectors = []; check_area = [] })).device
evaluate (maximum old reading) =
    let t = (sample reading (with_maximum old)).thermal in t.cycle_maximum ∷ t.life_maximum ∷ []
evaluate (left count n) =
    let v = work n (0xA5 ∷ []) (filling count) in
    let command = v.device.command in
    work_count n (filling count).device.command.fill ∷ command.code ∷ fill_numbers command.fill ++ first_bytes v.disk

-- an example, and the outcome that 01 states for it
abbrev pub starred : List (Example × List ℕ)
starred =
    -- "Start 63, Count 0 accepted." "Start 64, Count 0: 0002h."
    (key (fill_key 63 0), accepted_fill 63 64)
    ∷ (key (fill_key 64 0), refused_key 0x0002 2)
    -- "Start 0, Count 63 accepted"; W-201: "Start 0 with Count 64 at V = 64 is now accepted ..; Count 65 is 0002h." "Start 1, Count 2^64-1: 0002h."
    ∷ (key (fill_key 0 63), accepted_fill 0 63)
    ∷ (key (fill_key 0 64), accepted_fill 0 64)
    ∷ (key (fill_key 0 65), refused_key 0x0002 6)
    ∷ (key (fill_key 1 (2 ^ 64 - 1)), refused_key 0x0002 6)
    -- "Action 1: 0010h."; W-202: "its example takes action 6"
    ∷ (key (words_key 6 1 0 0 0), refused_key 0x0010 0)
    -- "Timer 9 for reads: 0006h; * 10 accepted; * 0 accepted."
    ∷ (key (words_key 3 1 1 9 0), refused_key 0x0006 3)
    ∷ (key (words_key 3 1 1 10 0), accepted_key)
    ∷ (key (words_key 3 1 1 0 0), accepted_key)
    -- "Feature 3 with word 3 = 0 and word 4 = 2: 000Eh."
    ∷ (key (words_key 4 1 3 0 2), refused_key 0x000E 3)
    -- "Maximum F6h, sample 05h: 05h."
    ∷ (maximum 0xF6 0x05, 0x05 ∷ 0x05 ∷ [])
    -- "Work 10 with 3 left: 3."
    ∷ (left 3 10, 3 ∷ 0x0000 ∷ 0 ∷ 0 ∷ 0 ∷ 0 ∷ 0xA5 ∷ 0xA5 ∷ 0xA5 ∷ [])
    ∷ []

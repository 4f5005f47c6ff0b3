-- The values of the named definitions, in the numbers of document 01: sizes, codes, registers, transfer directions, stages.
use mathlib.Core.Path.{◌≡◌, refl, sym}
use mathlib.Core.Bool.{true, false}
use Prim.Native.Nat.{ℕ, ◌+◌}
use native.Mathlib.Omega.{arith}
use mathlib.Core.List.{List, [], ◌∷◌}
use Rattle.model.specs.Sizes.{sector_size, check_size, long_sectors, port_count, registers_size, data_size, mailbox_size, history_size, missing, power_on_timer, body_size, trailer_size, entry_size}
use Rattle.model.specs.Device.{idle, running, none, table, fill_data, read_long, write_long, Device, next_sector}
use Rattle.model.specs.Disk.{LongSector}
use Rattle.model.specs.Registers.{Direction, read, write, Registers, good, refused, refused_with}
use Rattle.model.specs.Status.{drive_state}
use Rattle.model.specs.Fill.{start_fill, nothing_pending}
use Rattle.model.specs.Decide.{no_write, one_sector, new_fill, long_transfer, moves, sectors_of}
use Rattle.model.specs.Perform.{temperature_table, span_of}
use Rattle.model.specs.Machine.{empty, request, reply, Machine}
use Rattle.model.specs.Step.{power_on, is_empty, is_request, is_reply, step, first_answer}
use Rattle.model.specs.Valid.{Valid}
use Rattle.model.proofs.StepLaws.{answer-is}
use Rattle.model.proofs.FormatLaws.{TableAt, table_at}

-- "Ports 0 to 3. A mailbox is 528 bytes: 16 of registers, then a 512-byte sector.": W-202: 1,040 bytes, with two sectors
pub sizes : (port_count ≡ 4) × (mailbox_size ≡ 1040) × (registers_size ≡ 16) × (data_size ≡ 1024) × (sector_size ≡ 512)
sizes = (refl, refl, refl, refl, refl)

-- W-202: "two bytes a sector"; "A long transfer is two sectors"
pub long-sizes : (check_size ≡ 2) × (long_sectors ≡ 2)
long-sizes = (refl, refl)

-- "Entries of 560 bytes: 544 of body, a 16-byte trailer at the end."
pub entry-sizes : (entry_size ≡ 560) × (body_size ≡ 544) × (trailer_size ≡ 16)
entry-sizes = (refl, refl, refl)

-- "80h means missing"; "size 478"; W-203: "70 (7 seconds) at power-on"
pub values : (missing ≡ 0x80) × (history_size ≡ 478) × (power_on_timer ≡ 70)
values = (refl, refl, refl)

-- ---- replies

pub record RegistersAre (r : Registers) (status error value lba_mid : ℕ) : Type 0 where
  pub is_status : r.status ≡ status
  pub is_error : r.error ≡ error
  pub is_value : r.value ≡ value
  pub is_mid : r.lba_mid ≡ lba_mid

-- "Good: Status 50h, Error 0."
pub good-registers : (value sectors : ℕ) → RegistersAre (good value sectors) 0x50 0 value sectors
good-registers value sectors = record { is_status = refl; is_error = refl; is_value = refl; is_mid = refl }

-- "Refused: Status 51h"
pub refused-registers : (error : ℕ) → RegistersAre (refused error) 0x51 error 0 0
refused-registers error = record { is_status = refl; is_error = refl; is_value = refl; is_mid = refl }

-- "SCT refusals have Error 04h and the extended code in Sector Count (low) and LBA Low (high)."; W-206: and the word in LBA Mid
pub code-registers : (code word : ℕ) → RegistersAre (refused_with code word) 0x51 0x04 code word
code-registers code word = record { is_status = refl; is_error = refl; is_value = refl; is_mid = refl }

-- ---- a fill

-- "state at 10 (0, or 5 with a fill)"; "LBA 40-47 the next sector, 0 with no fill"
pub state-idle : (drive_state idle ≡ 0) × (next_sector idle ≡ 0)
state-idle = (refl, refl)

pub state-running : (first next end : ℕ) → (drive_state (running first next end) ≡ 5) × (next_sector (running first next end) ≡ next)
state-running first next end = (refl, refl)

-- "A running fill stores FFFFh"; its next sector is its first
pub fill-started : (first end : ℕ) (d : Device)
    → ((start_fill first end d).command.code ≡ 0xFFFF) × ((start_fill first end d).command.fill ≡ running first first end)
fill-started first end d = (refl, refl)

-- ---- the sectors that are written: the first, and the first after them

pub span-write : (lba : ℕ) (x : LongSector) → ((span_of (one_sector lba x)).first ≡ lba) × ((span_of (one_sector lba x)).end ≡ lba + 1)
span-write lba x = (refl, omega arith)

pub span-fill : (first end : ℕ) (sector : List ℕ) → ((span_of (new_fill first end sector)).first ≡ first) × ((span_of (new_fill first end sector)).end ≡ end)
span-fill first end sector = (refl, refl)

pub span_none : ((span_of no_write).first ≡ 0) × ((span_of no_write).end ≡ 0)
span_none = (refl, refl)

-- ---- pending transfers

pub none-pending : nothing_pending ≡ none ∷ none ∷ none ∷ none ∷ []
none-pending = refl

-- the table is read, a fill's sector is written, and each is one sector
pub table-moves : (moves read table ≡ true) × (moves write table ≡ false) × (sectors_of table ≡ 1)
table-moves = (refl, refl, refl)

pub fill-moves : (first end : ℕ) → (moves write (fill_data first end) ≡ true) × (moves read (fill_data first end) ≡ false) × (sectors_of (fill_data first end) ≡ 1)
fill-moves first end = (refl, refl, refl)

-- W-202: a key of function 1 leaves a transfer that is read, one of function 2 a transfer that is written, and each is two sectors
pub long-moves : (lba : ℕ)
    → (long_transfer read lba ≡ read_long lba) × (moves read (read_long lba) ≡ true) × (moves write (read_long lba) ≡ false) × (sectors_of (read_long lba) ≡ 2)
    × (long_transfer write lba ≡ write_long lba) × (moves write (write_long lba) ≡ true) × (moves read (write_long lba) ≡ false) × (sectors_of (write_long lba) ≡ 2)
long-moves lba = (refl, refl, refl, refl, refl, refl, refl, refl)

pub none_moves : (d : Direction) → moves d none ≡ false
none_moves d = refl

-- "A table is sent as it stands at the E1h read."
pub table-sent : (d : Device) → Valid d → TableAt d.settings.log_interval.state d.thermal.index d.thermal.history (temperature_table d)
table-sent d v =
    let interval = v.settings_valid.interval_valid.1 in
    let index = v.thermal_valid.index_valid in
    table_at d.settings.log_interval.state d.thermal.index d.thermal.history (omega arith) (omega arith) v.thermal_valid.whole

-- ---- ports: "nothing, a request or a reply"; "slot not in the stage the step needs"

-- a take needs an empty port, a serve a request, a give a reply
pub stages-empty : (is_empty empty ≡ true) × (is_request empty ≡ false) × (is_reply empty ≡ false)
stages-empty = (refl, refl, refl)

pub stages-request : (m : List ℕ) → (is_empty (request m) ≡ false) × (is_request (request m) ≡ true) × (is_reply (request m) ≡ false)
stages-request m = (refl, refl, refl)

pub stages-reply : (m : List ℕ) → (is_empty (reply m) ≡ false) × (is_request (reply m) ≡ false) × (is_reply (reply m) ≡ true)
stages-reply m = (refl, refl, refl)

-- a first power-on is checked like any power-on
pub first-answer : (image : List ℕ) (used : ℕ) (M : Machine) → first_answer M.disk image used ≡ (step (power_on image used) M).seen.answer
unfolding first_answer
first-answer image used M = sym (answer-is (power_on image used) M)

-- The registers of a mailbox: which request they encode, and the registers of a reply.
use Rattle.std.specs.Prelude.{◌&&◌, ℕ, ◌+◌, ◌/◌, ◌%◌, List, [], ◌∷◌, ◌++◌, get_or, eqb, if◌then◌else◌}
use Rattle.wire.specs.Numbers.{get}
use Rattle.wire.specs.Parts.{part, padded}
use Rattle.wire.specs.Layout.{Field, form}
use Rattle.model.specs.Sizes.{sector_size, check_size, registers_size, mailbox_size}
use Rattle.model.specs.Disk.{LongSector}
use Rattle.model.specs.Buffers.{Mailbox, Sector}

pub data Direction : Type 0 where
  read : Direction
  write : Direction

-- What a request asks for: a count is the value of Sector Count, an LBA is the 48-bit one.
pub data Request : Type 0 where
  status_read : Request
  key_sector : Request
  data_transfer : Direction → ℕ → Request
  sector_access : Direction → ℕ → ℕ → Request
  other : Request

-- "Bytes: 0/1 Features current/previous, 2/3 Sector Count, 4/5 LBA Low, 6/7 LBA Mid, 8/9 LBA High, 10 Device, 11 Command, .."
abbrev pub features : Mailbox → ℕ
features m = get_or m 0 0

abbrev pub count8 : Mailbox → ℕ
count8 m = get_or m 2 0

abbrev pub count16 : Mailbox → ℕ
count16 m = get 2 m 2

abbrev pub lba_low : Mailbox → ℕ
lba_low m = get_or m 4 0

abbrev pub lba_mid : Mailbox → ℕ
lba_mid m = get_or m 6 0

abbrev pub lba_mid16 : Mailbox → ℕ
lba_mid16 m = get 2 m 6

abbrev pub lba_high : Mailbox → ℕ
lba_high m = get_or m 8 0

abbrev pub command_byte : Mailbox → ℕ
command_byte m = get_or m 11 0

-- "the 48-bit LBA, previous bytes giving bits 24 to 47 (document 004)"
unfoldable pub lba48 : Mailbox → ℕ
lba48 m = get 6 (get_or m 4 0 ∷ get_or m 6 0 ∷ get_or m 8 0 ∷ get_or m 5 0 ∷ get_or m 7 0 ∷ get_or m 9 0 ∷ []) 0

-- the sector after the registers
abbrev pub data_of : Mailbox → Sector
data_of m = part m registers_size sector_size

-- W-202: that sector with the check bytes behind it; "bytes behind them are ignored on Write Long"
abbrev pub long_data_of : Mailbox → LongSector
long_data_of m = record { content = data_of m; check = get check_size m (registers_size + sector_size) }

-- "Write E0h: key sector. Read E0h: status. E1h: data."
abbrev pub control : Direction → Request
control read = status_read
control write = key_sector

-- A log page: "LBA Low (current) E0h or E1h"; "All else, and E0h with another count" is other.
unfoldable pub log_page : Direction → ℕ → ℕ → Request
log_page d page count =
    if eqb page 0xE0 then (if eqb count 1 then control d else other)
    else if eqb page 0xE1 then data_transfer d count
    else other

-- "B0h, Features D5h (read log) or D6h (write log), LBA Mid 4Fh, High C2h"
unfoldable pub smart_log : Mailbox → Request
smart_log m =
    if eqb (lba_mid m) 0x4F && eqb (lba_high m) 0xC2
    then (
    if eqb (features m) 0xD5 then log_page read (lba_low m) (count8 m)
    else if eqb (features m) 0xD6 then log_page write (lba_low m) (count8 m)
    else other
    )
    else other

-- "or 2Fh (read) or 3Fh (write) with both LBA Mid bytes 0"; "Sector Count .. (16 bits for 2Fh and 3Fh)"
unfoldable pub log_ext : Direction → Mailbox → Request
log_ext d m = if eqb (lba_mid16 m) 0 then log_page d (lba_low m) (count16 m) else other

-- "24h and 34h: read or write one sector at the 48-bit LBA"
-- "Input bytes 10 and 12 to 15 are ignored; for B0h so are the previous bytes, and so is every register that a rule below doesn't name."
unfoldable pub request_of : Mailbox → Request
request_of m =
    if eqb (command_byte m) 0xB0 then smart_log m
    else if eqb (command_byte m) 0x2F then log_ext read m
    else if eqb (command_byte m) 0x3F then log_ext write m
    else if eqb (command_byte m) 0x24 then sector_access read (count16 m) (lba48 m)
    else if eqb (command_byte m) 0x34 then sector_access write (count16 m) (lba48 m)
    else other

-- ---- replies

-- value goes in Sector Count (low) and LBA Low (high). LBA Mid has the number of sectors that are pending, or the word that a refused key names.
pub record Registers : Type 0 where
  pub status : ℕ
  pub error : ℕ
  pub value : ℕ
  pub lba_mid : ℕ

-- "Good: Status 50h, Error 0." With a value asked for, and with the number of sectors that are pending.
abbrev pub good : ℕ → ℕ → Registers
good value sectors = record { status = 0x50; error = 0; value = value; lba_mid = sectors }

-- "Refused: Status 51h"
abbrev pub refused : ℕ → Registers
refused error = record { status = 0x51; error = error; value = 0; lba_mid = 0 }

-- "SCT refusals have Error 04h and the extended code in Sector Count (low) and LBA Low (high)." W-206, of "the word that caused it": "The key
-- reply carries it in LBA Mid; E1h replies keep 0." The word is 0 for all but a key.
abbrev pub refused_with : ℕ → ℕ → Registers
refused_with code word = record { status = 0x51; error = 0x04; value = code; lba_mid = word }

-- "In a reply every byte not named is 0"
abbrev pub registers_fields : Registers → List Field
registers_fields r =
    (2, 1, r.value % 256) ∷ (4, 1, r.value / 256) ∷ (6, 1, r.lba_mid) ∷ (12, 1, r.status) ∷ (13, 1, r.error) ∷ []

unfoldable pub registers_bytes : Registers → List ℕ
registers_bytes r = form registers_size (registers_fields r)

-- ".. and the sector is zeros unless data is returned.", W-202: and so are the bytes behind the data
unfoldable pub reply_bytes : Registers → List ℕ → Mailbox
reply_bytes r bytes = padded mailbox_size (registers_bytes r ++ bytes)

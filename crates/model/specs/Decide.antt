-- What a request does: the new device, the reply's registers, and an effect. Nothing here reads the disk; a read whose sector's check differs is
-- answered otherwise where it is performed (Perform.antt).
use Rattle.std.specs.Prelude.{Bool, true, false, not, ℕ, List, [], ◌∷◌, get_or, set, eqb, ltb, if◌then◌else◌}
use Rattle.wire.specs.Choice.{bit, Check, first_failed, if_passed}
use Rattle.model.specs.Sizes.{long_sectors}
use Rattle.model.specs.Device.{Transfer, none, table, fill_data, read_long, write_long, Feature, Settings, Device}
use Rattle.model.specs.Disk.{LongSector, checked}
use Rattle.model.specs.Update.{with_settings, with_thermal, with_code, with_key, with_pending}
use Rattle.model.specs.Registers.{Direction, read, write, Request, status_read, key_sector, data_transfer, sector_access, other, data_of, long_data_of, request_of, Registers, good, refused, refused_with}
use Rattle.model.specs.Key.{word, FeatureName, write_cache, reordering, log_interval, Action, access_long, fill_pattern, fill_sector, set_timer, return_timer, set_feature, return_state, return_option, send_table, Verdict, accepted, rejected, judge_key}
use Rattle.model.specs.Temperature.{history_emptied}
use Rattle.model.specs.Fill.{interrupt}
use Rattle.model.specs.Buffers.{Mailbox, Sector}

-- What a serve is fed. It is a record, because W-211 adds a field.
pub record Serving : Type 0 where
  pub port : ℕ

-- ---- an effect: what is still to be written, and what the reply is to carry

-- nothing; a sector, with its LBA, content and check number; or a fill that begins, with its first sector, its end and its sector
pub data Writing : Type 0 where
  no_write : Writing
  one_sector : ℕ → LongSector → Writing
  new_fill : ℕ → ℕ → Sector → Writing

-- nothing; the status sector; the temperature table; the sector at an LBA; or that sector with its check bytes as stored
pub data Sending : Type 0 where
  no_data : Sending
  status : Sending
  temperatures : Sending
  disk_sector : ℕ → Sending
  stored_sector : ℕ → Sending

pub record Effect : Type 0 where
  pub writes : Writing
  pub sends : Sending

abbrev pub nothing : Effect
nothing = record { writes = no_write; sends = no_data }

abbrev pub writing : Writing → Effect
writing w = record { writes = w; sends = no_data }

abbrev pub sending : Sending → Effect
sending x = record { writes = no_write; sends = x }

pub record Decision : Type 0 where
  pub device : Device
  pub registers : Registers
  pub effect : Effect

abbrev pub decision : Device → Registers → Effect → Decision
decision d r e = record { device = d; registers = r; effect = e }

-- ---- status

-- "A refused status read under the lock answers 0012h and stores nothing." It is no key, so it names no word.
abbrev pub decide_status : Device → Decision
decide_status d = if d.locked then decision d (refused_with 0x0012 0) nothing else decision d (good 0 0) (sending status)

-- ---- key sector

abbrev pub timer : Direction → Settings → ℕ
timer read s = s.read_timer
timer write s = s.write_timer

abbrev pub with_timer : Direction → ℕ → Settings → Settings
with_timer read n s =
    record { read_timer = n; write_timer = s.write_timer; write_cache = s.write_cache; reordering = s.reordering; log_interval = s.log_interval }
with_timer write n s =
    record { read_timer = s.read_timer; write_timer = n; write_cache = s.write_cache; reordering = s.reordering; log_interval = s.log_interval }

abbrev pub feature : FeatureName → Settings → Feature
feature write_cache s = s.write_cache
feature reordering s = s.reordering
feature log_interval s = s.log_interval

abbrev pub with_feature : FeatureName → Feature → Settings → Settings
with_feature write_cache f s =
    record { read_timer = s.read_timer; write_timer = s.write_timer; write_cache = f; reordering = s.reordering; log_interval = s.log_interval }
with_feature reordering f s =
    record { read_timer = s.read_timer; write_timer = s.write_timer; write_cache = s.write_cache; reordering = f; log_interval = s.log_interval }
with_feature log_interval f s =
    record { read_timer = s.read_timer; write_timer = s.write_timer; write_cache = s.write_cache; reordering = s.reordering; log_interval = f }

-- "Any set of feature 3 empties the temperature history."
abbrev pub after_feature : FeatureName → Device → Device
after_feature write_cache d = d
after_feature reordering d = d
after_feature log_interval d = with_thermal (history_emptied d.thermal) d

abbrev pub long_transfer : Direction → ℕ → Transfer
long_transfer read lba = read_long lba
long_transfer write lba = write_long lba

-- An accepted key. "The value asked for by timers 2 and feature 2 or 3 (the mark, 0 or 1) stands in Sector Count (low) and
-- LBA Low (high); other accepted keys have 0 there. LBA Mid is 1 if a sector is owed (fill function 2, table), else 0."
-- "Pattern fill starts at once". W-202: "either key's reply has 2 in Sector Count and LBA
-- Mid" (document 001: the number of check bytes, and of sectors).
unfoldable pub carry_out : Action → ℕ → Device → Decision
carry_out (access_long dir lba) p d = decision (with_pending (set d.command.pending p (long_transfer dir lba)) d) (good 2 2) nothing
carry_out (fill_pattern first end sector) p d = decision d (good 0 0) (writing (new_fill first end sector))
carry_out (fill_sector first end) p d = decision (with_pending (set d.command.pending p (fill_data first end)) d) (good 0 1) nothing
carry_out (set_timer t n) p d = decision (with_settings (with_timer t n d.settings) d) (good 0 0) nothing
carry_out (return_timer t) p d = decision d (good (timer t d.settings) 0) nothing
carry_out (set_feature f n keep) p d =
    decision (after_feature f (with_settings (with_feature f (record { state = n; persistent = keep }) d.settings) d)) (good 0 0) nothing
carry_out (return_state f) p d = decision d (good (feature f d.settings).state 0) nothing
carry_out (return_option f) p d = decision d (good (bit (feature f d.settings).persistent) 0) nothing
carry_out send_table p d = decision (with_pending (set d.command.pending p table) d) (good 0 1) nothing

-- "A refused key stores its code", and has its word in the reply (W-206). "An accepted key stores 0000h, a pattern fill FFFFh" (stored when it begins: Perform.antt).
abbrev pub decide_verdict : Verdict → ℕ → Device → Decision
decide_verdict (accepted a) p d = carry_out a p (with_code 0x0000 d)
decide_verdict (rejected code named) p d = decision (with_code code d) (refused_with code named) nothing

-- "Words 0 and 1 are action and function; both are recorded from every key, accepted or not."
unfoldable pub decide_key : ℕ → Sector → Device → Decision
decide_key p k d = decide_verdict (judge_key d k) p (with_key (word k 0) (word k 1) d)

-- ---- data

-- A transfer's direction. The table and Read Long's sector are read, a fill's sector and Write Long's are written.
abbrev pub moves : Direction → Transfer → Bool
moves d none = false
moves read table = true
moves write table = false
moves read (fill_data first end) = false
moves write (fill_data first end) = true
moves read (read_long lba) = true
moves write (read_long lba) = false
moves read (write_long lba) = false
moves write (write_long lba) = true

-- how many sectors a transfer moves. W-202: "E1h wants count 2 for it and 1 for the others."
abbrev pub sectors_of : Transfer → ℕ
sectors_of none = 0
sectors_of table = 1
sectors_of (fill_data first end) = 1
sectors_of (read_long lba) = long_sectors
sectors_of (write_long lba) = long_sectors

-- "E1h is judged: lock 0012h; no owed transfer of this port and direction 000Bh; count not 1 0003h.", W-202: or not 2
abbrev pub data_checks : Bool → Direction → ℕ → Transfer → List Check
data_checks locked dir count t = (not locked, 0x0012) ∷ (moves dir t, 0x000B) ∷ (eqb count (sectors_of t), 0x0003) ∷ []

-- W-202: "Read Long sends the two check bytes as stored"; "Write Long stores what it is sent, without judging it"
abbrev pub transfer_effect : Transfer → LongSector → Effect
transfer_effect none x = nothing
transfer_effect table x = sending temperatures
transfer_effect (fill_data first end) x = writing (new_fill first end x.content)
transfer_effect (read_long lba) x = sending (stored_sector lba)
transfer_effect (write_long lba) x = writing (one_sector lba x)

-- "Each becomes the stored code." "A completed transfer stores 0000h, or FFFFh where it starts a fill." W-206: "E1h replies keep 0" in LBA Mid.
unfoldable pub decide_data : Direction → ℕ → Transfer → LongSector → Device → Decision
decide_data dir count t x d =
    let code = first_failed (data_checks d.locked dir count t) in
    if_passed code (decision (with_code 0x0000 d) (good 0 0) (transfer_effect t x)) (decision (with_code code d) (refused_with code 0) nothing)

-- ---- one sector

-- "Count (16 bits) other than 1: Error 04h. LBA at or above V: Error 10h. Locked: Error 04h, before both."
abbrev pub sector_checks : Device → ℕ → ℕ → List Check
sector_checks d count lba = (not d.locked, 0x04) ∷ (eqb count 1, 0x04) ∷ (ltb lba d.visible, 0x10) ∷ []

abbrev pub sector_effect : Direction → ℕ → Sector → Effect
sector_effect read lba sector = sending (disk_sector lba)
sector_effect write lba sector = writing (one_sector lba (checked sector))

unfoldable pub decide_sector : Direction → ℕ → ℕ → Sector → Device → Decision
decide_sector dir count lba sector d =
    let error = first_failed (sector_checks d count lba) in
    if_passed error (decision d (good 0 0) (sector_effect dir lba sector)) (decision d (refused error) nothing)

-- ---- any request

abbrev pub pending_for : ℕ → Device → Transfer
pending_for p d = get_or d.command.pending p none

-- "Every request but a well-formed status read first stops a running fill (code 0008h) and drops an owed transfer;
-- an E1h request judges that owed transfer as it was before."
-- "All else ..: Error 04h, stored code unchanged unless a fill was stopped."
abbrev pub decide_request : Request → Serving → Mailbox → Device → Decision
decide_request status_read s m d = decide_status d
decide_request key_sector s m d = decide_key s.port (data_of m) (interrupt d)
decide_request (data_transfer dir count) s m d = decide_data dir count (pending_for s.port d) (long_data_of m) (interrupt d)
decide_request (sector_access dir count lba) s m d = decide_sector dir count lba (data_of m) (interrupt d)
decide_request other s m d = decision (interrupt d) (refused 0x04) nothing

-- the request m, served with s
unfoldable pub decide : Serving → Mailbox → Device → Decision
decide s m d = decide_request (request_of m) s m d

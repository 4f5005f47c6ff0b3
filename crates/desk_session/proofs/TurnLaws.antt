-- One turn: the entries, one after the other, and the line of a record.
use mathlib.Core.Path.{◌≡◌}
use mathlib.Core.List.{List}
use Prim.Native.Nat.{ℕ}
use lib.ListN.{get_or}
use Rattle.model.specs.Disk.{Disk}
use Rattle.store.specs.Record.{decode}
use Rattle.store.specs.Entries.{take_bytes, serve_bytes, give_bytes, work_bytes}
use Rattle.desk_session.specs.Report.{report}
use Rattle.desk_session.specs.Turn.{Turned, served, given, line_of}

-- the four entries, each on what the one before left
module _ {r a : List ℕ} {disk : Disk} {m : List ℕ} {n : ℕ}
    {r1 a1 r2 a2 : List ℕ} {disk2 : Disk} {r3 m3 r4 : List ℕ} {disk4 : Disk} {asked count : ℕ} where
  pub entries-turned : asked ≡ n
      → r1 ≡ (take_bytes r 0 m a).record_area → a1 ≡ (take_bytes r 0 m a).private_area
      → r2 ≡ (serve_bytes r1 0 a1 disk).record_area → a2 ≡ (serve_bytes r1 0 a1 disk).private_area → disk2 ≡ (serve_bytes r1 0 a1 disk).disk
      → r3 ≡ (give_bytes r2 0 m a2).record_area → m3 ≡ (give_bytes r2 0 m a2).mailbox
      → count ≡ (work_bytes r3 a2 disk2 asked).count → r4 ≡ (work_bytes r3 a2 disk2 asked).record_area → disk4 ≡ (work_bytes r3 a2 disk2 asked).disk
      → Turned r a disk m n count r4 a2 disk4 m3
  entries-turned same t-record t-area s-record s-area s-disk g-record g-mailbox w-count w-record w-disk =
      let before : work_bytes r3 a2 disk2 asked ≡ work_bytes (given r a disk m n).record_area (served r a disk m n).private_area (served r a disk m n).disk n =
      rw (same, g-record, s-record, s-area, s-disk, t-record, t-area) in
      record {
        counted = rw (w-count, before);
        record_bytes = rw (w-record, before);
        area_bytes = rw (s-area, t-record, t-area);
        disk_bytes = rw (w-disk, before);
        mailbox_bytes = rw (g-mailbox, s-record, s-area, t-record, t-area);
      }

-- the line is the report of what the buffers hold afterwards
pub line-turned : (number code : ℕ) {r a : List ℕ} {disk : Disk} {m : List ℕ} {n count : ℕ} {new_record new_area : List ℕ} {new_disk : Disk} {new_mailbox : List ℕ}
    → Turned r a disk m n count new_record new_area new_disk new_mailbox
    → code ≡ (decode new_record).device.command.code
    → report number (get_or new_mailbox 12 0) (get_or new_mailbox 13 0) code count ≡ line_of r a disk m n number
unfolding line_of
line-turned number code t e = rw (e, t.counted, t.record_bytes, t.mailbox_bytes)

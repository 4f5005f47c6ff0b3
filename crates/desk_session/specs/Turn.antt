-- One turn: a mailbox of port 0 is taken, served and given, then work is called. It is the entries' definitions one after the other.
use Rattle.std.specs.Prelude.{◌≡◌, List, ℕ, get_or}
use Rattle.model.specs.Disk.{Disk}
use Rattle.store.specs.Record.{decode}
use Rattle.store.specs.Entries.{TakeAfter, take_bytes, ServeAfter, serve_bytes, GiveAfter, give_bytes, WorkAfter, work_bytes}
use Rattle.desk_session.specs.Report.{report}

module _ (r a : List ℕ) (disk : Disk) (m : List ℕ) (n : ℕ) where
  abbrev pub taken : TakeAfter
  taken = take_bytes r 0 m a

  abbrev pub served : ServeAfter
  served = serve_bytes taken.record_area 0 taken.private_area disk

  abbrev pub given : GiveAfter
  given = give_bytes served.record_area 0 m served.private_area

  abbrev pub worked : WorkAfter
  worked = work_bytes given.record_area served.private_area served.disk n

  -- the line of record `number`: Status and Error of the reply, the stored code after work, the sectors written
  unfoldable pub line_of : ℕ → List ℕ
  line_of number = report number (get_or given.mailbox 12 0) (get_or given.mailbox 13 0) (decode worked.record_area).device.command.code worked.count

-- "Each is taken, served, given, then worked."
pub record Turned (r a : List ℕ) (disk : Disk) (m : List ℕ) (n count : ℕ) (new_record new_area : List ℕ) (new_disk : Disk) (new_mailbox : List ℕ) : Type 0 where
  pub counted : count ≡ (worked r a disk m n).count
  pub record_bytes : new_record ≡ (worked r a disk m n).record_area
  pub area_bytes : new_area ≡ (served r a disk m n).private_area
  pub disk_bytes : new_disk ≡ (worked r a disk m n).disk
  pub mailbox_bytes : new_mailbox ≡ (given r a disk m n).mailbox

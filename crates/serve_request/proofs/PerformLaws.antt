-- How a decision is performed: the buffers afterwards, from the contracts of the called functions.
use mathlib.Core.Path.{◌≡◌, refl, sym, ap, ◌∙◌}
use mathlib.Core.Bool.{Bool, true, false}
use mathlib.Core.List.{List, []}
use Prim.Native.Nat.{ℕ, ◌*◌, ◌≤◌, ◌<◌}
use native.Mathlib.Omega.{arith}
use lib.ListN.{length, length-take, length-append}
use lib.Seq.{sets, length-sets}
use Rattle.std.specs.Prelude.{if◌then◌else◌}
use Rattle.wire.specs.Parts.{part}
use Rattle.wire.proofs.NumbersLaws.{length-le, length-put}
use Rattle.wire.proofs.LayoutLaws.{length-form}
use Rattle.wire.proofs.WithinLaws.{sets-apart}
use Rattle.model.specs.Sizes.{sector_size, check_size, port_count, mailbox_size, history_size}
use Rattle.model.specs.Device.{Device}
use Rattle.model.specs.Disk.{Disk, LongSector, sector_at}
use Rattle.model.specs.Registers.{Registers, refused, reply_bytes}
use Rattle.model.specs.Status.{status_fields, status_sector}
use Rattle.model.specs.Fill.{Volume, write_sector}
use Rattle.model.specs.Decide.{Writing, no_write, one_sector, new_fill, Sending, no_data, status, temperatures, disk_sector, stored_sector, Decision}
use Rattle.model.specs.Perform.{written, volume_after, temperature_table, sector_read, same_check, read_reply, long_bytes, reply_with, reply_of}
use Rattle.model.proofs.DiskSizes.{SameSize}
use Rattle.model.proofs.FormatLaws.{reply-length}
use Rattle.model.proofs.EntryLaws.{length-table}
use Rattle.store.specs.Areas.{record_size, head_size, slot_place, fill_place}
use Rattle.store.specs.Record.{answered, encode}
use Rattle.store.specs.Store.{slot_bytes}
use Rattle.store.specs.Entries.{with_stage, with_fill_sector}
use Rattle.record.specs.declared.device as device
use Rattle.record.specs.DeviceMeaning.{as_device, as_contents, stages_of, history_after}
use Rattle.reply.specs.ReplyMeaning.{as_registers}
use Rattle.device_update.specs.Change.{Changed}
use Rattle.decision.specs.declared.decision as code
use Rattle.decision.specs.declared.decision.Sending.TheVariants as sends
use Rattle.decision.specs.DecisionMeaning.{as_writing, as_sending, as_decision}
use Rattle.effect.specs.Effects.{device_after, disk_after, SendsWithin}
use Rattle.serve_request.specs.Served.{Served}
use Rattle.store.proofs.RecordLaws.{encoded-size, encoded-table}

-- ---- what is written

-- what is written, in its parts
written-parts : (w : Writing) (d : Device) (disk : Disk) → written w (record { device = d; disk = disk }) ≡ record { device = device_after w d; disk = disk_after w disk }
unfolding write_sector
written-parts no_write d disk = refl
written-parts (one_sector lba x) d disk = refl
written-parts (new_fill first end sector) d disk = refl

-- the fill's sector is stored first, and then the reply: the slot ends before the sector
reply-last : (w : Writing) (a reply : List ℕ) (p : ℕ) → p < port_count → length reply ≡ mailbox_size
    → sets (with_fill_sector w a) (slot_place p) reply ≡ with_fill_sector w (sets a (slot_place p) reply)
reply-last no_write a reply p h size = refl
reply-last (one_sector lba x) a reply p h size = refl
reply-last (new_fill first end sector) a reply p h size = sets-apart reply sector a (slot_place p) fill_place (rw size (omega arith))

-- the lengths are unchanged
pub area-size : (w : Writing) (a : List ℕ) → length (with_fill_sector w a) ≡ length a
area-size no_write a = refl
area-size (one_sector lba x) a = refl
area-size (new_fill first end sector) a = length-sets a fill_place sector

pub disk-size : (w : Writing) (disk : Disk) → SameSize (disk_after w disk) disk
disk-size no_write disk = (refl, refl)
disk-size (one_sector lba x) disk =
    (length-sets disk.sectors (sector_size * lba) x.content, length-put check_size disk.check_area (check_size * lba) x.check)
disk-size (new_fill first end sector) disk = (refl, refl)

-- ---- what is sent

-- what can be sent from a disk can be sent from one of the same size
pub sends-kept : (x : code.Sending.Sending) (after before : Disk) {disk : Disk} → after ≡ disk → SameSize disk before → SendsWithin before x → SendsWithin after x
sends-kept sends.Nothing after before e same v = tt
sends-kept sends.Temperatures after before e same v = tt
sends-kept (sends.Sector lba) after before e same v = rw e (omega (arith, same.0, v.0), omega (arith, same.1, v.1))
sends-kept (sends.StoredSector lba) after before e same v = rw e (omega (arith, same.0, v.0), omega (arith, same.1, v.1))

-- a sector that is read has at most its size
short-sector : (lba : ℕ) (disk : Disk) → length (sector_at lba disk).content ≤ sector_size
short-sector lba disk = rw length-take (omega arith)

read-size : (q : Registers) (x : LongSector) → length x.content ≤ sector_size → length (read_reply q x) ≡ mailbox_size
read-size q x short = go (same_check x)
  where
    go : (b : Bool) → length (if b then reply_bytes q x.content else reply_bytes (refused 0x40) []) ≡ mailbox_size
    go true = reply-length q x.content (omega (arith, short))
    go false = reply-length (refused 0x40) [] (omega arith)

pub reply-size : (q : Registers) (x : Sending) (d : Device) (disk : Disk) → length d.thermal.history ≡ history_size
    → length (reply_with q x d (sector_read x disk)) ≡ mailbox_size
unfolding status_sector
reply-size q no_data d disk h = reply-length q [] (omega arith)
reply-size q status d disk h = reply-length q (status_sector d) (rw (length-form sector_size (status_fields d)) (omega arith))
reply-size q temperatures d disk h =
    reply-length q (temperature_table d) (omega (arith, length-table d.settings.log_interval.state d.thermal.index d.thermal.history h))
reply-size q (disk_sector lba) d disk h = read-size q (sector_at lba disk) (short-sector lba disk)
reply-size q (stored_sector lba) d disk h =
    let x = sector_at lba disk in
    reply-length q (long_bytes x) (rw (length-append, length-le check_size x.check) (omega (arith, short-sector lba disk)))

-- ---- a decision

-- the record, once it is written, has its size
pub record-size : (p : ℕ) (e : device.Device.Device) (h r : List ℕ) → length h ≡ history_size → r ≡ encode (with_stage p answered (as_contents e h)) → length r ≡ record_size
record-size p e h r whole er = ap length er ∙ encoded-size (with_stage p answered (as_contents e h)) whole

-- k on record, private area and disk; e is the device after the write, and h is the history that the record then has
module _ (p : ℕ) (k : code.Decision.Decision) (e : device.Device.Device) (g a : List ℕ) (disk : Disk) (port : p < port_count)
    (whole : length (history_after k.empties g) ≡ history_size) (change : (m : List ℕ) → Changed (device_after (as_writing k.writes m)) k.device e) where
  abbrev m : List ℕ
  m = slot_bytes p a

  abbrev h : List ℕ
  h = history_after k.empties g

  abbrev w : Writing
  w = as_writing k.writes m

  abbrev decided : Decision
  decided = as_decision k m g

  parts : volume_after decided disk ≡ record { device = as_device e h; disk = disk_after w disk }
  parts =
      written-parts w (as_device k.device h) disk
      ∙ (λ i. record { device = sym ((change m).device h) i; disk = disk_after w disk })

  -- THE LAW of a decision performed: the reply is right for the device whose temperature table the record holds
  pub performs : (r b : List ℕ) (new_disk : Disk) → r ≡ encode (with_stage p answered (as_contents e h)) → new_disk ≡ disk_after w disk
      → ((d : Device) → part r head_size sector_size ≡ temperature_table d
      → b ≡ sets (with_fill_sector w a) (slot_place p) (reply_with (as_registers k.reply) (as_sending k.sends) d (sector_read (as_sending k.sends) new_disk)))
      → Served p decided (stages_of k.device.slots) a disk r b new_disk
  performs r b new_disk er ed eb =
      let x = as_sending k.sends in
      let q = as_registers k.reply in
      let table = ap (λ (l : List ℕ). part l head_size sector_size) er ∙ encoded-table (with_stage p answered (as_contents e h)) whole in
      record {
        record_bytes =
            er
            ∙ (λ i. encode (with_stage p answered (record { device = (sym parts i).device; stages = (change m).stages i })));
        area_bytes =
            eb (as_device e h) table
            ∙ ap (λ (d : Disk). sets (with_fill_sector w a) (slot_place p) (reply_with q x (as_device e h) (sector_read x d))) ed
            ∙ reply-last w a (reply_with q x (as_device e h) (sector_read x (disk_after w disk))) p port (reply-size q x (as_device e h) (disk_after w disk) whole)
            ∙ ap (λ (v : Volume). with_fill_sector w (sets a (slot_place p) (reply_of decided v))) (sym parts);
        disk_bytes = ed ∙ ap (λ (v : Volume). v.disk) (sym parts);
      }

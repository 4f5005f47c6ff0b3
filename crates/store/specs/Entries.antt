-- The twelve entries: what each answers, and every byte afterwards of the buffers that it may write. It only reads the other
-- buffers. An entry whose checks fail answers with the number of the first that fails, and changes nothing.
use Rattle.std.specs.Prelude.{Bool, ◌&&◌, ℕ, ◌+◌, ◌*◌, List, [], ◌∷◌, length, set, replicate, eqb, ltb}
use Rattle.std.proofs.lemmas.List.Edits.{sets}
use Rattle.wire.specs.Choice.{Check, Guarded, attempt}
use Rattle.wire.specs.Parts.{zeros}
use Rattle.model.specs.Sizes.{sector_size, check_size, port_count, mailbox_size, entry_size, done, bad_port, bad_length, bad_stage, bad_record, bad_value}
use Rattle.model.specs.Device.{Device}
use Rattle.model.specs.Disk.{Disk, native_size}
use Rattle.model.specs.Fill.{work_count, work}
use Rattle.model.specs.Repair.{repair_report, repair}
use Rattle.model.specs.Decide.{Writing, no_write, one_sector, new_fill, Decision, decide}
use Rattle.model.specs.Perform.{volume_after, reply_of}
use Rattle.model.specs.Step.{OwnerStep, lock, unlock, set_visible, sample, good_value, owner_rule}
use Rattle.model.specs.Image.{Saved, entries, saved_image, restored, power_on}
use Rattle.model.specs.Convert.{converted, convert_checks}
use Rattle.model.specs.Image.{save_checks as saving_checks, power_on_checks as disk_checks}
use Rattle.store.specs.Areas.{record_size, slot_place, fill_place, private_size}
use Rattle.store.specs.Record.{Stage, empty, held, answered, is_stage, Contents, encode, decode}
use Rattle.store.specs.Sound.{sound}
use Rattle.store.specs.Store.{slot_bytes, fill_sector_of, stage_for}
use Rattle.model.specs.Buffers.{Image, Mailbox}
use Rattle.store.specs.Areas.{Area, Record}

-- ---- checks that entries share

-- 4, "device record unsound"; a record of another size is unsound too
abbrev pub sound_record : Record → Check
sound_record r = (sound r, bad_record)

-- "a lent buffer isn't of its size"
abbrev pub of_size : ℕ → List ℕ → Check
of_size n buffer = (eqb (length buffer) n, bad_length)

-- "the disk isn't N sectors"; W-202: "a check area of wrong length is answer 2"
abbrev pub has_sectors : ℕ → Disk → Bool
has_sectors n disk = eqb (length disk.sectors) (sector_size * n) && eqb (length disk.check_area) (check_size * n)

abbrev pub disk_sized : Record → Disk → Check
disk_sized r disk = (has_sectors (decode r).device.native disk, bad_length)

abbrev pub good_port : ℕ → Check
good_port p = (ltb p port_count, bad_port)

-- "slot not in the stage the step needs"
abbrev pub in_stage : Stage → Record → ℕ → Check
in_stage needed r p = (is_stage needed (stage_for p (decode r)), bad_stage)

-- take and give, with the stage that they need
abbrev pub mailbox_checks : Stage → Record → ℕ → Mailbox → Area → List Check
mailbox_checks needed r p m a =
    sound_record r ∷ of_size mailbox_size m ∷ of_size private_size a ∷ good_port p ∷ in_stage needed r p ∷ []

-- the record with a new stage for slot p, and with a new device
abbrev pub with_stage : ℕ → Stage → Contents → Contents
with_stage p s c = record { device = c.device; stages = set c.stages p s }

abbrev pub with_device : Device → Contents → Contents
with_device d c = record { device = d; stages = c.stages }

-- ---- take: record, port, mailbox, private area

pub record TakeAfter : Type 0 where
  pub answer : ℕ
  pub record_area : Record
  pub private_area : Area

-- "copies the mailbox into the port's slot. Slot goes from empty to held."
abbrev pub take_done : Record → ℕ → Mailbox → Area → TakeAfter
take_done r p m a =
    record { answer = done; record_area = encode (with_stage p held (decode r)); private_area = sets a (slot_place p) m }

abbrev pub take_entry : Record → ℕ → Mailbox → Area → Guarded TakeAfter
take_entry r p m a =
    record {
      checks = mailbox_checks empty r p m a;
      done = take_done r p m a;
      refused = λ n. record { answer = n; record_area = r; private_area = a };
    }

unfoldable pub take_bytes : Record → ℕ → Mailbox → Area → TakeAfter
take_bytes r p m a = attempt (take_entry r p m a)

-- ---- serve: record, port, private area, disk with its check area

pub record ServeAfter : Type 0 where
  pub answer : ℕ
  pub record_area : Record
  pub private_area : Area
  pub disk : Disk

abbrev pub serve_checks : Record → ℕ → Area → Disk → List Check
serve_checks r p a disk = sound_record r ∷ of_size private_size a ∷ disk_sized r disk ∷ good_port p ∷ in_stage held r p ∷ []

-- a fill that begins has its sector in the private area
abbrev pub with_fill_sector : Writing → Area → Area
with_fill_sector no_write a = a
with_fill_sector (one_sector lba x) a = a
with_fill_sector (new_fill first end sector) a = sets a fill_place sector

-- "answers the held request from the slot alone and leaves the reply in the slot. Held to answered."
abbrev pub performed : ℕ → Decision → Contents → Area → Disk → ServeAfter
performed p k c a disk =
    let v = volume_after k disk in
    record {
      answer = done;
      record_area = encode (with_stage p answered (with_device v.device c));
      private_area = with_fill_sector k.effect.writes (sets a (slot_place p) (reply_of k v));
      disk = v.disk;
    }

abbrev pub serve_done : Record → ℕ → Area → Disk → ServeAfter
serve_done r p a disk = let c = decode r in performed p (decide (record { port = p }) (slot_bytes p a) c.device) c a disk

abbrev pub serve_entry : Record → ℕ → Area → Disk → Guarded ServeAfter
serve_entry r p a disk =
    record {
      checks = serve_checks r p a disk;
      done = serve_done r p a disk;
      refused = λ n. record { answer = n; record_area = r; private_area = a; disk = disk };
    }

unfoldable pub serve_bytes : Record → ℕ → Area → Disk → ServeAfter
serve_bytes r p a disk = attempt (serve_entry r p a disk)

-- ---- give: record, port, mailbox, private area

pub record GiveAfter : Type 0 where
  pub answer : ℕ
  pub record_area : Record
  pub mailbox : Mailbox

-- "writes all 528 reply bytes to the mailbox. Answered to empty; the slot's bytes stay.": 1,040 since W-202
abbrev pub give_done : Record → ℕ → Area → GiveAfter
give_done r p a = record { answer = done; record_area = encode (with_stage p empty (decode r)); mailbox = slot_bytes p a }

abbrev pub give_entry : Record → ℕ → Mailbox → Area → Guarded GiveAfter
give_entry r p m a =
    record {
      checks = mailbox_checks answered r p m a;
      done = give_done r p a;
      refused = λ n. record { answer = n; record_area = r; mailbox = m };
    }

unfoldable pub give_bytes : Record → ℕ → Mailbox → Area → GiveAfter
give_bytes r p m a = attempt (give_entry r p m a)

-- ---- work: record, private area, disk with its check area, n

pub record WorkAfter : Type 0 where
  pub answer : ℕ
  pub count : ℕ
  pub record_area : Record
  pub disk : Disk

abbrev pub work_checks : Record → Area → Disk → List Check
work_checks r a disk = sound_record r ∷ of_size private_size a ∷ disk_sized r disk ∷ []

-- "writes the next sectors of a running fill, as many as n and what is left allow, and reports how many it wrote"
abbrev pub work_done : Record → Area → Disk → ℕ → WorkAfter
work_done r a disk n =
    let c = decode r in
    let v = work n (fill_sector_of a) (record { device = c.device; disk = disk }) in
    record {
      answer = done;
      count = work_count n c.device.command.fill;
      record_area = encode (with_device v.device c);
      disk = v.disk;
    }

abbrev pub work_entry : Record → Area → Disk → ℕ → Guarded WorkAfter
work_entry r a disk n =
    record {
      checks = work_checks r a disk;
      done = work_done r a disk n;
      refused = λ refusal. record { answer = refusal; count = 0; record_area = r; disk = disk };
    }

unfoldable pub work_bytes : Record → Area → Disk → ℕ → WorkAfter
work_bytes r a disk n = attempt (work_entry r a disk n)

-- ---- the owner steps lock, unlock, set V, sample: record

pub record OwnerAfter : Type 0 where
  pub answer : ℕ
  pub record_area : Record

-- the device is changed by f
abbrev pub owner_done : (Device → Device) → Record → OwnerAfter
owner_done f r = let c = decode r in record { answer = done; record_area = encode (with_device (f c.device) c) }

abbrev pub device_entry : List Check → (Device → Device) → Record → Guarded OwnerAfter
device_entry cs f r = record { checks = cs; done = owner_done f r; refused = λ n. record { answer = n; record_area = r } }

-- "V asked is 0 or above N"
abbrev pub owner_checks : OwnerStep → Record → List Check
owner_checks x r = sound_record r ∷ (good_value x (decode r).device, bad_value) ∷ []

-- the owner step x
abbrev pub owner_entry : OwnerStep → Record → Guarded OwnerAfter
owner_entry x r = device_entry (owner_checks x r) (owner_rule x) r

unfoldable pub lock_bytes : Record → OwnerAfter
lock_bytes r = attempt (owner_entry lock r)

unfoldable pub unlock_bytes : Record → OwnerAfter
unlock_bytes r = attempt (owner_entry unlock r)

unfoldable pub set_visible_bytes : Record → ℕ → OwnerAfter
set_visible_bytes r v = attempt (owner_entry (set_visible v) r)

unfoldable pub sample_bytes : Record → ℕ → OwnerAfter
sample_bytes r reading = attempt (owner_entry (sample reading) r)

-- ---- the owner step repair: record, disk with its check area, LBA

-- the check area is only read
pub record RepairAfter : Type 0 where
  pub answer : ℕ
  pub report : ℕ
  pub record_area : Record
  pub sectors : List ℕ

-- "mending at or above V is answer 5"
abbrev pub repair_checks : Record → Disk → ℕ → List Check
repair_checks r disk lba = sound_record r ∷ disk_sized r disk ∷ (ltb lba (decode r).device.visible, bad_value) ∷ []

abbrev pub repair_done : Record → Disk → ℕ → RepairAfter
repair_done r disk lba =
    let c = decode r in
    let after = repair lba (record { device = c.device; disk = disk }) in
    record {
      answer = done;
      report = repair_report lba disk;
      record_area = encode (with_device after.device c);
      sectors = after.disk.sectors;
    }

-- "a refused mending reports 0"
abbrev pub repair_entry : Record → Disk → ℕ → Guarded RepairAfter
repair_entry r disk lba =
    record {
      checks = repair_checks r disk lba;
      done = repair_done r disk lba;
      refused = λ n. record { answer = n; report = 0; record_area = r; sectors = disk.sectors };
    }

unfoldable pub repair_bytes : Record → Disk → ℕ → RepairAfter
repair_bytes r disk lba = attempt (repair_entry r disk lba)

-- ---- save: record, image, used length

-- the C caller derives the new used length from the answer: after 0 it is 560 more
pub record SaveAfter : Type 0 where
  pub answer : ℕ
  pub image : Image
  pub used : ℕ

abbrev pub save_checks : Record → Image → ℕ → List Check
save_checks r image used = sound_record r ∷ saving_checks (decode r).device.native image used

abbrev pub save_done : Record → Image → ℕ → SaveAfter
save_done r image used = record { answer = done; image = saved_image (decode r).device image used; used = used + entry_size }

abbrev pub save_entry : Record → Image → ℕ → Guarded SaveAfter
save_entry r image used =
    record {
      checks = save_checks r image used;
      done = save_done r image used;
      refused = λ n. record { answer = n; image = image; used = used };
    }

unfoldable pub save_bytes : Record → Image → ℕ → SaveAfter
save_bytes r image used = attempt (save_entry r image used)

-- ---- power-on: record, private area, disk with its check area, image, used length

-- "Power-on judges no old record ..; a record run of another size is 2 there"
abbrev pub power_on_checks : Record → Area → Disk → Image → ℕ → List Check
power_on_checks r a disk image used = of_size record_size r ∷ of_size private_size a ∷ disk_checks disk image used

pub record PowerOnAfter : Type 0 where
  pub answer : ℕ
  pub record_area : Record
  pub private_area : Area

-- the record's contents after a power-on from what was saved: "slots empty"
abbrev pub restored_contents : Saved → Contents
restored_contents s = record { device = power_on s; stages = replicate port_count empty }

abbrev pub powered_contents : Disk → Image → ℕ → Contents
powered_contents disk image used = restored_contents (restored (native_size disk) image used)

-- "private area all zeros"
abbrev pub power_on_done : Disk → Image → ℕ → PowerOnAfter
power_on_done disk image used =
    record { answer = done; record_area = encode (powered_contents disk image used); private_area = zeros private_size }

abbrev pub power_on_entry : Record → Area → Disk → Image → ℕ → Guarded PowerOnAfter
power_on_entry r a disk image used =
    record {
      checks = power_on_checks r a disk image used;
      done = power_on_done disk image used;
      refused = λ n. record { answer = n; record_area = r; private_area = a };
    }

unfoldable pub power_on_bytes : Record → Area → Disk → Image → ℕ → PowerOnAfter
power_on_bytes r a disk image used = attempt (power_on_entry r a disk image used)

-- ---- convert: image, used length, form asked for (W-204). It has no record, and is no step of the machine.

pub record ConvertAfter : Type 0 where
  pub answer : ℕ
  pub image : Image

-- "Convert a whole image from form 1 to form 2 and back"
abbrev pub convert_entry : Image → ℕ → ℕ → Guarded ConvertAfter
convert_entry image used entry_form =
    record {
      checks = convert_checks entry_form image used;
      done = record { answer = done; image = converted entry_form image (entries used) };
      refused = λ n. record { answer = n; image = image };
    }

unfoldable pub convert_bytes : Image → ℕ → ℕ → ConvertAfter
convert_bytes image used entry_form = attempt (convert_entry image used entry_form)

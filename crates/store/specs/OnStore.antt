-- A step on the bytes, built from the entries and nothing else: from all but convert, which is no step.
use Rattle.std.specs.Prelude.{[]}
use Rattle.model.specs.Step.{OwnerStep, lock, unlock, set_visible, sample, Step, take, serve, give, work, owner, repair, save, power_on, Outcome, answer_only, answered_mailbox, answered_image}
use Rattle.model.specs.Disk.{Disk, disk_of}
use Rattle.store.specs.Store.{Store}
use Rattle.store.specs.Entries.{take_bytes, serve_bytes, give_bytes, work_bytes, OwnerAfter, lock_bytes, unlock_bytes, set_visible_bytes, sample_bytes, repair_bytes, save_bytes, power_on_bytes}
use Rattle.store.specs.Areas.{Area, Record}

-- "Each step gets the record, disk and private area that the last one left"
abbrev pub store : Record → Area → Disk → Store
store r a disk = record { record_area = r; private_area = a; disk = disk }

-- the entry of an owner step on the device
abbrev pub owner_bytes : OwnerStep → Record → OwnerAfter
owner_bytes lock r = lock_bytes r
owner_bytes unlock r = unlock_bytes r
owner_bytes (set_visible v) r = set_visible_bytes r v
owner_bytes (sample reading) r = sample_bytes r reading

unfoldable pub on_store : Step → Store → Outcome Store
on_store (take p m) s =
    let o = take_bytes s.record_area p m s.private_area in
    record { state = store o.record_area o.private_area s.disk; seen = answered_mailbox o.answer m }
on_store (serve x) s =
    let o = serve_bytes s.record_area x.port s.private_area s.disk in
    record { state = store o.record_area o.private_area o.disk; seen = answer_only o.answer }
on_store (give p m) s =
    let o = give_bytes s.record_area p m s.private_area in
    record { state = store o.record_area s.private_area s.disk; seen = answered_mailbox o.answer o.mailbox }
on_store (work n) s =
    let o = work_bytes s.record_area s.private_area s.disk n in
    record {
      state = store o.record_area s.private_area o.disk;
      seen = record { answer = o.answer; count = o.count; report = 0; mailbox = []; image = []; used = 0 };
    }
on_store (owner x) s =
    let o = owner_bytes x s.record_area in
    record { state = store o.record_area s.private_area s.disk; seen = answer_only o.answer }
on_store (repair lba) s =
    let o = repair_bytes s.record_area s.disk lba in
    record {
      state = store o.record_area s.private_area (disk_of o.sectors s.disk.check_area);
      seen = record { answer = o.answer; count = 0; report = o.report; mailbox = []; image = []; used = 0 };
    }
on_store (save image used) s =
    let o = save_bytes s.record_area image used in
    record { state = s; seen = answered_image o.answer o.image o.used }
on_store (power_on image used) s =
    let o = power_on_bytes s.record_area s.private_area s.disk image used in
    record { state = store o.record_area o.private_area s.disk; seen = answered_image o.answer image used }

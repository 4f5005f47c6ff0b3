-- An entry is done or refused: which checks it has, and that a refusal changes nothing.
use mathlib.Core.Path.{◌≡◌, refl}
use mathlib.Core.Bool.{Bool, true, false, ◌&&◌}
use Prim.Native.Nat.{ℕ, suc, ◌*◌}
use mathlib.Core.List.{List}
use lib.ListN.{length}
use lib.Dec.{eqb}
use borrow.Author.Tests.{eqb-true, eq-eqb}
use Rattle.wire.specs.Choice.{Check, first_failed, attempt}
use Rattle.model.specs.Sizes.{sector_size, check_size, done}
use Rattle.model.specs.Step.{OwnerStep, lock, unlock, set_visible, sample, Step, take, serve, give, work, owner, repair, save, power_on, Seen, answer_only, counted, reported, answered_mailbox, answered_image, unchanged, owner_rule}
use Rattle.model.specs.Disk.{Disk, disk_of, HasSize}
use Rattle.store.specs.Store.{Store}
use Rattle.store.specs.Entries.{has_sectors, take_done, take_entry, take_bytes, serve_checks, serve_done, serve_bytes, give_done, give_entry, give_bytes, work_checks, work_done, work_bytes, owner_checks, owner_done, owner_entry, lock_bytes, unlock_bytes, set_visible_bytes, sample_bytes, repair_checks, repair_done, repair_bytes, save_checks, save_done, save_bytes, power_on_checks, power_on_done, power_on_bytes}
use Rattle.store.specs.OnStore.{store, owner_bytes, on_store}

-- the checks of an entry
abbrev pub store_checks : Step → Store → List Check
store_checks (take p m) s = (take_entry s.record_area p m s.private_area).checks
store_checks (serve x) s = serve_checks s.record_area x.port s.private_area s.disk
store_checks (give p m) s = (give_entry s.record_area p m s.private_area).checks
store_checks (work n) s = work_checks s.record_area s.private_area s.disk
store_checks (owner x) s = owner_checks x s.record_area
store_checks (repair lba) s = repair_checks s.record_area s.disk lba
store_checks (save image used) s = save_checks s.record_area image used
store_checks (power_on image used) s = power_on_checks s.record_area s.private_area s.disk image used

-- the buffers after an entry that is done, and what is seen of it
abbrev pub done_store : Step → Store → Store
done_store (take p m) s = let o = take_done s.record_area p m s.private_area in store o.record_area o.private_area s.disk
done_store (serve x) s =
    let o = serve_done s.record_area x.port s.private_area s.disk in
    store o.record_area o.private_area o.disk
done_store (give p m) s = store (give_done s.record_area p s.private_area).record_area s.private_area s.disk
done_store (work n) s =
    let o = work_done s.record_area s.private_area s.disk n in
    store o.record_area s.private_area o.disk
done_store (owner x) s = store (owner_done (owner_rule x) s.record_area).record_area s.private_area s.disk
done_store (repair lba) s =
    let o = repair_done s.record_area s.disk lba in
    store o.record_area s.private_area (disk_of o.sectors s.disk.check_area)
done_store (save image used) s = s
done_store (power_on image used) s = let o = power_on_done s.disk image used in store o.record_area o.private_area s.disk

abbrev pub done_seen : Step → Store → Seen
done_seen (take p m) s = answered_mailbox done m
done_seen (serve x) s = answer_only done
done_seen (give p m) s = answered_mailbox done (give_done s.record_area p s.private_area).mailbox
done_seen (work n) s = counted (work_done s.record_area s.private_area s.disk n).count
done_seen (owner x) s = answer_only done
done_seen (repair lba) s = reported (repair_done s.record_area s.disk lba).report
done_seen (save image used) s = let o = save_done s.record_area image used in answered_image done o.image o.used
done_seen (power_on image used) s = answered_image done image used

-- a disk or a check area of another size fails the test of both ..
pub sectors-other : (n : ℕ) (disk : Disk) → (HasSize n disk → ⊥) → has_sectors n disk ≡ false
sectors-other n disk other = go (eqb (length disk.sectors) (512 * n)) (eqb (length disk.check_area) (2 * n)) refl refl
  where
    go : (a b : Bool) → eqb (length disk.sectors) (512 * n) ≡ a → eqb (length disk.check_area) (2 * n) ≡ b → (a && b) ≡ false
    go true true e f = absurd (other (eqb-true (length disk.sectors) (512 * n) e, eqb-true (length disk.check_area) (2 * n) f))
    go true false e f = refl
    go false b e f = refl

-- .. and a disk of n sectors, with their check bytes, passes it
pub sized-passes : (n : ℕ) (disk : Disk) → HasSize n disk → has_sectors n disk ≡ true
sized-passes n disk e =
    rw (eq-eqb (length disk.sectors) (sector_size * n) e.0, eq-eqb (length disk.check_area) (check_size * n) e.1)

-- each of the four is the entry of its step
owner-is : (x : OwnerStep) (r : List ℕ) → owner_bytes x r ≡ attempt (owner_entry x r)
unfolding lock_bytes unlock_bytes set_visible_bytes sample_bytes
owner-is lock r = refl
owner-is unlock r = refl
owner-is (set_visible v) r = refl
owner-is (sample reading) r = refl

-- THEOREM, condition 1: a nonzero answer leaves record, private area, disk, mailbox and image unchanged, and work and repair report 0.
pub on-refused : (x : Step) (s : Store) (n : ℕ) → first_failed (store_checks x s) ≡ suc n → on_store x s ≡ record { state = s; seen = unchanged x (suc n) }
unfolding on_store take_bytes serve_bytes give_bytes work_bytes repair_bytes save_bytes power_on_bytes
on-refused (take p m) s n e = rw e
on-refused (serve x) s n e = rw e
on-refused (give p m) s n e = rw e
on-refused (work k) s n e = rw e
on-refused (owner x) s n e = rw (owner-is x s.record_area, e)
on-refused (repair lba) s n e = rw e
on-refused (save image used) s n e = rw e
on-refused (power_on image used) s n e = rw e

pub on-done : (x : Step) (s : Store) → first_failed (store_checks x s) ≡ 0 → on_store x s ≡ record { state = done_store x s; seen = done_seen x s }
unfolding on_store take_bytes serve_bytes give_bytes work_bytes repair_bytes save_bytes power_on_bytes
on-done (take p m) s e = rw e
on-done (serve x) s e = rw e
on-done (give p m) s e = rw e
on-done (work k) s e = rw e
on-done (owner x) s e = rw (owner-is x s.record_area, e)
on-done (repair lba) s e = rw e
on-done (save image used) s e = rw e
on-done (power_on image used) s e = rw e

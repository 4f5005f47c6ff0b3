-- What holds for the buffers when the checks of take, serve, give, work and repair pass.
use Rattle.std.specs.Prelude.{if◌then◌else◌}
use mathlib.Core.Path.{◌≡◌, refl, sym, ◌∙◌}
use mathlib.Core.Bool.{Bool, true, false}
use mathlib.Core.List.{List, [], ◌∷◌, ◌++◌}
use Prim.Native.Nat.{ℕ, ◌*◌, ◌≤◌, ◌<◌}
use native.Mathlib.Omega.{arith}
use lib.ListN.{length}
use lib.Dec.{eqb}
use borrow.Author.Tests.{eqb-true, ltb-true}
use Rattle.wire.specs.Choice.{Check, first_failed, if_passed, Guarded, attempt}
use Rattle.wire.specs.Bytes.{Bytes}
use Rattle.wire.proofs.ChoiceLaws.{and_left, and_right, Numbered, passed-not, attempt-refused, attempt-done, all_pass, pass_all}
use Rattle.model.specs.Sizes.{sector_size, check_size, native_limit, port_count, mailbox_size}
use Rattle.model.specs.Disk.{Disk, HasSize}
use Rattle.store.specs.Areas.{record_size, private_size}
use Rattle.store.specs.Record.{Stage, held, decode}
use Rattle.store.specs.Sound.{sound}
use Rattle.store.specs.Entries.{has_sectors, good_port, in_stage, mailbox_checks, serve_checks, work_checks, repair_checks}
use Rattle.store.proofs.SoundLaws.{sound-parts, sound-valid}

-- "N ≤ 65,536"; W-207: "Sound records .. take the new limit"
pub native-limit : (r : List ℕ) → Bytes r → sound r ≡ true → (decode r).device.native ≤ native_limit
native-limit r b s = (sound-valid r b s).device.sizes.2

-- "V ≤ N"
pub visible-native : (r : List ℕ) → Bytes r → sound r ≡ true → (decode r).device.visible ≤ (decode r).device.native
visible-native r b s = (sound-valid r b s).device.sizes.1

-- checks, then others: the others decide if the first ones all pass
pub first_then : (bound : ℕ) (cs ds : List Check) → Numbered bound cs → first_failed (cs ++ ds) ≡ if_passed (first_failed cs) (first_failed ds) (first_failed cs)
first_then bound [] ds n = refl
first_then bound (c ∷ cs) ds n = go c.0 (first_then bound cs ds n.2)
  where
    go : (b : Bool) → first_failed (cs ++ ds) ≡ if_passed (first_failed cs) (first_failed ds) (first_failed cs) → (if b then first_failed (cs ++ ds) else c.1) ≡ if_passed (if b then first_failed cs else c.1) (first_failed ds) (if b then first_failed cs else c.1)
    go true h = h
    go false h = sym (passed-not c.1 (first_failed ds) c.1 (λ z. omega (arith, n.0, z)))

-- ---- what holds then

pub record MailboxPassed (r : List ℕ) (p : ℕ) (m a : List ℕ) : Type 0 where
  pub is_sound : sound r ≡ true
  pub record_sized : length r ≡ record_size
  pub mailbox_sized : length m ≡ mailbox_size
  pub area_sized : length a ≡ private_size
  pub port : p < port_count

pub mailbox-passed : (needed : Stage) (r : List ℕ) (p : ℕ) (m a : List ℕ) {n : ℕ} → n ≡ first_failed (mailbox_checks needed r p m a) → n ≡ 0 → MailboxPassed r p m a
mailbox-passed needed r p m a e z =
    let all = all_pass 4 (mailbox_checks needed r p m a) (omega arith) (sym e ∙ z) in
    record {
      is_sound = all.0;
      record_sized = (sound-parts r all.0).size;
      mailbox_sized = eqb-true (length m) mailbox_size all.1.0;
      area_sized = eqb-true (length a) private_size all.1.1.0;
      port = ltb-true p port_count all.1.1.1.0;
    }

-- the record is sound, and the disk has its N sectors
pub record DiskPassed (r : List ℕ) (disk : Disk) : Type 0 where
  pub is_sound : sound r ≡ true
  pub disk_sized : HasSize (decode r).device.native disk

-- a disk that passes its test has the size
sectors-sized : (n : ℕ) (disk : Disk) → has_sectors n disk ≡ true → HasSize n disk
sectors-sized n disk e = (
  eqb-true (length disk.sectors) (sector_size * n) (and_left _ _ e),
  eqb-true (length disk.check_area) (check_size * n) (and_right (eqb (length disk.sectors) (sector_size * n)) _ e),
)

pub work-passed : (r a : List ℕ) (disk : Disk) {n : ℕ} → n ≡ first_failed (work_checks r a disk) → n ≡ 0 → DiskPassed r disk × (length a ≡ private_size)
work-passed r a disk e z =
    let all = all_pass 4 (work_checks r a disk) (omega arith) (sym e ∙ z) in (
      record { is_sound = all.0; disk_sized = sectors-sized (decode r).device.native disk all.1.1.0 },
      eqb-true (length a) private_size all.1.0,
    )

pub repair-passed : (r : List ℕ) (disk : Disk) (lba : ℕ) {n : ℕ} → n ≡ first_failed (repair_checks r disk lba) → n ≡ 0 → DiskPassed r disk × (lba < (decode r).device.visible)
repair-passed r disk lba e z =
    let all = all_pass 5 (repair_checks r disk lba) (omega arith) (sym e ∙ z) in (
      record { is_sound = all.0; disk_sized = sectors-sized (decode r).device.native disk all.1.0 },
      ltb-true lba (decode r).device.visible all.1.1.0,
    )

-- serve's checks are work's, then those of the slot ..
module _ (r : List ℕ) (p : ℕ) (a : List ℕ) (disk : Disk) (n : ℕ) where
  abbrev slot_checks : List Check
  slot_checks = good_port p ∷ in_stage held r p ∷ []

  abbrev work_then_slot : Guarded ℕ
  work_then_slot = record { checks = work_checks r a disk; done = first_failed slot_checks; refused = λ k. k }

  both : first_failed (serve_checks r p a disk) ≡ attempt work_then_slot
  both = first_then 4 (work_checks r a disk) slot_checks (omega arith)

  pub serve-first : n ≡ first_failed (work_checks r a disk) → (n ≡ 0 → ⊥) → n ≡ first_failed (serve_checks r p a disk)
  serve-first e some = sym (both ∙ attempt-refused work_then_slot n e some)

  pub serve-second : n ≡ first_failed (work_checks r a disk) → n ≡ 0 → first_failed slot_checks ≡ first_failed (serve_checks r p a disk)
  serve-second e z = sym (both ∙ attempt-done work_then_slot n e z)

-- .. so if they pass, work's do
pub serve-passed : (r : List ℕ) (p : ℕ) (a : List ℕ) (disk : Disk) {n : ℕ} → n ≡ first_failed (serve_checks r p a disk) → n ≡ 0 → DiskPassed r disk × (length a ≡ private_size) × (p < port_count)
serve-passed r p a disk e z =
    let all = all_pass 4 (serve_checks r p a disk) (omega arith) (sym e ∙ z) in
    let work = work-passed r a disk refl (pass_all (work_checks r a disk) (all.0, (all.1.0, (all.1.1.0, tt)))) in
    (work.0, work.1, ltb-true p port_count all.1.1.1.0)

-- When a first power-on answers 0.
use mathlib.Core.Path.{◌≡◌, refl, sym, ap, ◌∙◌}
use mathlib.Core.Bool.{Bool, true, false, ◌||◌}
use mathlib.Core.Logic.{◌↔◌}
use Prim.Native.Nat.{ℕ, ◌*◌, ◌/◌, ◌%◌, ◌≤◌}
use native.Mathlib.Omega.{arith}
use mathlib.Core.List.{List}
use lib.ListN.{length}
use lib.Dec.{eqb}
use borrow.Author.Tests.{eqb-true, eqb-false, eq-eqb, ne_eqb, leb-true, le-leb}
use Rattle.wire.specs.Choice.{first_failed}
use Rattle.wire.specs.Bytes.{Bytes}
use Rattle.wire.proofs.ChoiceLaws.{and_left, and_right, and_both, attempt-answer, all_pass, pass_all}
use Rattle.model.specs.Sizes.{sector_size}
use Rattle.model.specs.Image.{whole_sectors, newest_in, readable, same_disk}
use Rattle.model.specs.ImageForm.{ImageForm}
use Rattle.model.specs.Disk.{Disk, HasSize}
use Rattle.model.proofs.LimitLaws.{whole-sectors}
use Rattle.model.proofs.DiskSizes.{well-sized}
use Rattle.model.proofs.ImageLaws.{readable-form, form-readable, newest-like}
use Rattle.model.proofs.RefusalLaws.{power-on-empty}
use Rattle.store.specs.Areas.{record_size, private_size}
use Rattle.store.specs.Entries.{PowerOnAfter, power_on_checks, power_on_entry, power_on_bytes}
use Rattle.store.specs.Condition3.{NoRefusal}

-- it answers with the number of the first check that fails
pub power-on-answer : (r a : List ℕ) (disk : Disk) (image : List ℕ) (used : ℕ) → (power_on_bytes r a disk image used).answer ≡ first_failed (power_on_checks r a disk image used)
unfolding power_on_bytes
power-on-answer r a disk image used = attempt-answer (power_on_entry r a disk image used) (λ (o : PowerOnAfter). o.answer) refl (λ n. refl)

-- THEOREM: a power-on answers 0 exactly if the paper names no refusal: record and private area have their sizes, the disk is 1 to 16,777,216 whole
-- sectors (512 to 8,589,934,592 bytes, a multiple of 512) with two check bytes each, the used length is within the buffer, the image is readable, its newest entry this disk's.
pub power-on-exactly : (r a : List ℕ) (disk : Disk) (image : List ℕ) (used : ℕ)
    → let size = length disk.sectors in
    ((power_on_bytes r a disk image used).answer ≡ 0)
    ↔ ((length r ≡ record_size) × (length a ≡ private_size) × ((size % 512 ≡ 0) × (512 ≤ size) × (size ≤ 8589934592)) × (length disk.check_area ≡ 2 * (size / 512)) × (used ≤ length image) × (readable image used ≡ true) × (same_disk (size / 512) image used ≡ true))
power-on-exactly r a disk image used = (
  λ e.
      let pass = all_pass 8 (power_on_checks r a disk image used) (omega arith) (sym (power-on-answer r a disk image used) ∙ e) in (
        eqb-true (length r) record_size pass.0,
        eqb-true (length a) private_size pass.1.0,
        (whole-sectors (length disk.sectors)).0 (and_left (whole_sectors (length disk.sectors)) _ pass.1.1.0),
        eqb-true (length disk.check_area) (2 * (length disk.sectors / 512)) (and_right (whole_sectors (length disk.sectors)) _ pass.1.1.0),
        leb-true used (length image) pass.1.1.1.0,
        pass.1.1.1.1.0,
        pass.1.1.1.1.1.0,
      ),
  λ k.
      power-on-answer r a disk image used
      ∙ pass_all (power_on_checks r a disk image used) (
        eq-eqb (length r) record_size k.0,
        (
          eq-eqb (length a) private_size k.1,
          (
            and_both (whole_sectors (length disk.sectors)) (eqb (length disk.check_area) (2 * (length disk.sectors / 512)))
                ((whole-sectors (length disk.sectors)).1 k.2)
                (eq-eqb (length disk.check_area) (2 * (length disk.sectors / 512)) k.3),
            (le-leb used (length image) k.4, (k.5, (k.6, tt))),
          ),
        ),
      ),
)

-- THEOREM: it answers 0 for every disk of 1 to 16,777,216 whole sectors, with its check area, and used length 0.
pub power-on-fresh : (r a : List ℕ) (disk : Disk) (image : List ℕ) (n : ℕ) → length r ≡ record_size → length a ≡ private_size → HasSize n disk → 1 ≤ n → n ≤ 16777216
    → (power_on_bytes r a disk image 0).answer ≡ 0
power-on-fresh r a disk image n size private sized some most =
    power-on-answer r a disk image 0
    ∙ rw (eq-eqb (length r) record_size size, eq-eqb (length a) private_size private) (power-on-empty disk image 0 (well-sized n disk sized some most))

-- ---- in the words of the paper: Condition3.NoRefusal

-- "newest entry's N is not this disk's", for an image of the form
own-disk : (native : ℕ) (image : List ℕ) (used : ℕ) (f : ImageForm image used) → (same_disk native image used ≡ true) ↔ ((used ≡ 0 → ⊥) → f.newest.native ≡ native)
own-disk native image used f = (
  λ e some. sym (same some) ∙ eqb-true (newest_in image used).native native (rw (ne_eqb used 0 some) at e),
  λ own. go own (eqb used 0) refl,
)
  where
    same : (used ≡ 0 → ⊥) → (newest_in image used).native ≡ f.newest.native
    same some = (newest-like image used f (omega (arith, f.used_length, some))).same_native

    go : ((used ≡ 0 → ⊥) → f.newest.native ≡ native) → (b : Bool) → eqb used 0 ≡ b → (b || eqb (newest_in image used).native native) ≡ true
    go own true z = refl
    go own false z = let some = eqb-false used 0 z in eq-eqb (newest_in image used).native native (same some ∙ own some)

-- THEOREM: a power-on answers 0 exactly where the paper names no refusal.
pub no-refusal : (r a : List ℕ) (disk : Disk) (image : List ℕ) (used : ℕ) → Bytes image → ((power_on_bytes r a disk image used).answer ≡ 0) ↔ NoRefusal r a disk image used
no-refusal r a disk image used bytes =
    let sectors = disk.sectors in
    let exactly = power-on-exactly r a disk image used in (
      λ e.
          let k = exactly.0 e in
          let f = readable-form image used bytes k.5 in
          record {
            record_sized = k.0;
            area_sized = k.1;
            native = length sectors / sector_size;
            disk_sized = omega (arith, k.2);
            some = omega (arith, k.2);
            most = omega (arith, k.2);
            check_area_sized = k.3;
            used_within = k.4;
            form = f;
            own_disk = (own-disk (length sectors / sector_size) image used f).0 k.6;
          },
      λ k.
          let size = k.disk_sized in
          let number : length sectors / sector_size ≡ k.native = omega (arith, size) in
          exactly.1 (
            k.record_sized,
            k.area_sized,
            (omega (arith, size), omega (arith, size, k.some), omega (arith, size, k.most)),
            k.check_area_sized ∙ ap (λ (n : ℕ). 2 * n) (sym number),
            k.used_within,
            form-readable image used k.form,
            (own-disk (length sectors / sector_size) image used k.form).1 (λ some. k.own_disk some ∙ sym number),
          ),
    )

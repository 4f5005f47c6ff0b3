-- The answers to an image, one law for each exit of the code.
use Rattle.std.specs.Prelude.{if◌then◌else◌}
use mathlib.Core.Path.{◌≡◌, refl, sym, ap}
use mathlib.Core.Bool.{Bool, true, false, ◌&&◌}
use Prim.Native.Nat.{ℕ, ◌+◌, ◌-◌, ◌/◌, ◌%◌, ◌≤◌, ◌<◌}
use native.Mathlib.Omega.{arith}
use mathlib.Core.List.{List, [], ◌∷◌}
use lib.ListN.{length}
use lib.Dec.{eqb, leb, ltb}
use borrow.Author.Tests.{leb-true, le-leb, lt-leb, eq-eqb, ne_eqb}
use Rattle.wire.specs.Choice.{first_failed}
use Rattle.wire.proofs.ChoiceLaws.{tests_same}
use Rattle.model.specs.Sizes.{entry_size, entry_limit}
use Rattle.model.specs.Image.{saved_at, readable, same_disk, image_checks, has_room, save_checks}
use Rattle.model.proofs.ImageLaws.{readable-parts, newest-at}

-- ---- the newest entry's disk

pub disk-empty : (native : ℕ) (image : List ℕ) (used : ℕ) → used ≡ 0 → true ≡ same_disk native image used
disk-empty native image used e = rw (eq-eqb used 0 e)

-- a readable image that is not empty has a whole entry
pub entry-before : (image : List ℕ) (used : ℕ) → readable image used ≡ true → (used ≡ 0 → ⊥) → entry_size ≤ used
entry-before image used r some = let m = (readable-parts image used r).multiple in omega arith

pub disk_last : (native : ℕ) (image : List ℕ) (used : ℕ) → used % entry_size ≡ 0 → (used ≡ 0 → ⊥)
    → eqb (saved_at image (used - entry_size)).native native ≡ same_disk native image used
disk_last native image used whole some = sym (rw (ne_eqb used 0 some, newest-at image used whole (omega (arith, whole, some))))

pub disk-newest : (native : ℕ) (image : List ℕ) (used : ℕ) → readable image used ≡ true → (used ≡ 0 → ⊥)
    → eqb (saved_at image (used - entry_size)).native native ≡ same_disk native image used
disk-newest native image used r some = disk_last native image used (readable-parts image used r).multiple some

-- ---- room for one more

pub room-left : (image : List ℕ) (used : ℕ) → used ≤ length image
    → (ltb (used / entry_size) entry_limit && leb entry_size (length image - used)) ≡ has_room image used
room-left image used h = ap (λ (t : Bool). ltb (used / entry_size) entry_limit && t) (tests_same (leb entry_size (length image - used)) (leb (used + entry_size) (length image)) there back)
  where
    there : leb entry_size (length image - used) ≡ true → leb (used + entry_size) (length image) ≡ true
    there e = let le = leb-true entry_size (length image - used) e in le-leb (used + entry_size) (length image) (omega arith)

    back : leb (used + entry_size) (length image) ≡ true → leb entry_size (length image - used) ≡ true
    back e = let le = leb-true (used + entry_size) (length image) e in le-leb entry_size (length image - used) (omega arith)

-- ---- a save is refused as a read is, and then for lack of room

earlier : (a b c t : Bool) → (first_failed ((a, 2) ∷ (b, 6) ∷ (c, 7) ∷ []) ≡ 0 → ⊥)
    → first_failed ((a, 2) ∷ (b, 6) ∷ (c, 7) ∷ []) ≡ first_failed ((a, 2) ∷ (b, 6) ∷ (c, 7) ∷ (t, 8) ∷ [])
earlier false b c t h = refl
earlier true false c t h = refl
earlier true true false t h = refl
earlier true true true t h = absurd (h refl)

later : (a b c t : Bool) → first_failed ((a, 2) ∷ (b, 6) ∷ (c, 7) ∷ []) ≡ 0
    → (a ≡ true) × (b ≡ true) × ((if t then 0 else 8) ≡ first_failed ((a, 2) ∷ (b, 6) ∷ (c, 7) ∷ (t, 8) ∷ []))
later false b c t h = absurd (omega arith)
later true false c t h = absurd (omega arith)
later true true false t h = absurd (omega arith)
later true true true t h = (refl, refl, refl)

module _ (native : ℕ) (image : List ℕ) (used : ℕ) where
  pub read-long : length image < used → 2 ≡ first_failed (image_checks native image used)
  read-long h = rw (lt-leb used (length image) h)

  pub read-bad : used ≤ length image → readable image used ≡ false → 6 ≡ first_failed (image_checks native image used)
  read-bad h r = rw (le-leb used (length image) h, r)

  -- .. and with a readable image the newest entry's N decides
  pub read-disk : used ≤ length image → readable image used ≡ true → (b : Bool) → same_disk native image used ≡ b
      → (if b then 0 else 7) ≡ first_failed (image_checks native image used)
  read-disk h r b d = sym (rw (le-leb used (length image) h, r, d))

  pub save-as-read : (first_failed (image_checks native image used) ≡ 0 → ⊥) → first_failed (image_checks native image used) ≡ first_failed (save_checks native image used)
  save-as-read = earlier (leb used (length image)) (readable image used) (same_disk native image used) (has_room image used)

  pub read-within : first_failed (image_checks native image used) ≡ 0 → used ≤ length image
  read-within e = leb-true used (length image) (later (leb used (length image)) (readable image used) (same_disk native image used) true e).0

  pub save-room : first_failed (image_checks native image used) ≡ 0 → (if has_room image used then 0 else 8) ≡ first_failed (save_checks native image used)
  save-room e = (later (leb used (length image)) (readable image used) (same_disk native image used) (has_room image used) e).2

  -- an image that passes the checks is readable, and if it is not empty it has an entry before its used length
  pub read-readable : first_failed (image_checks native image used) ≡ 0 → readable image used ≡ true
  read-readable e = (later (leb used (length image)) (readable image used) (same_disk native image used) true e).1

  pub read-entry : first_failed (image_checks native image used) ≡ 0 → (used ≡ 0 → ⊥) → (entry_size ≤ used) × (used ≤ length image)
  read-entry e some = (entry-before image used (read-readable e) some, read-within e)

-- The entry convert (W-204): its answer, the image that it leaves, a power-on from that image, and there and back.
use mathlib.Core.Path.{◌≡◌, refl, sym, ap, ◌∙◌}
use mathlib.Core.Bool.{Bool, true, false}
use mathlib.Core.Logic.{◌⊎◌, inl, inr, ◌↔◌}
use Prim.Native.Nat.{ℕ, zero, suc, ◌/◌, ◌≤◌, zero-le}
use native.Mathlib.Omega.{arith}
use mathlib.Core.List.{List}
use lib.ListN.{length, get_or}
use lib.Dec.{eqb}
use borrow.Author.Tests.{eqb-true, eqb-false, le-leb}
use Rattle.wire.specs.Choice.{first_failed, if_passed}
use Rattle.wire.specs.Numbers.{get}
use Rattle.wire.specs.Bytes.{Bytes}
use Rattle.wire.proofs.ChoiceLaws.{first-bound, attempt-answer, attempt-done, attempt-refused}
use Rattle.model.specs.Disk.{Disk, native_size}
use Rattle.model.specs.Image.{form_of, readable_under, readable}
use Rattle.model.specs.Convert.{converted, entry_timers, convert_checks}
use Rattle.model.proofs.ConvertedBytes.{length-converted, Elsewhere, converted-elsewhere}
use Rattle.model.proofs.ConvertRefusals.{convert-numbered, one_form, HasOtherTimers, no-other-timers, nine-exactly, convert-to-one, convert-to-two}
use Rattle.model.proofs.ConvertLaws.{converted-readable, restored-device, power-on-checks-same, stays, Returns, one-two-one, two-one-two}
use Rattle.store.specs.Entries.{power_on_bytes, ConvertAfter, convert_entry, convert_bytes}

module _ (image : List ℕ) (used entry_form : ℕ) where
  -- it answers with the number of the first check that fails ..
  pub convert_answer : (convert_bytes image used entry_form).answer ≡ first_failed (convert_checks entry_form image used)
  unfolding convert_bytes
  convert_answer = attempt-answer (convert_entry image used entry_form) (λ (o : ConvertAfter). o.answer) refl (λ n. refl)

  pub convert-range : (convert_bytes image used entry_form).answer ≤ 9
  convert-range = rw convert_answer (first-bound 9 (convert_checks entry_form image used) (convert-numbered entry_form image used))

  -- .. and then leaves the image as it is ..
  pub convert-refused : ((convert_bytes image used entry_form).answer ≡ 0 → ⊥) → (convert_bytes image used entry_form).image ≡ image
  unfolding convert_bytes
  convert-refused ne =
      rw (attempt-refused (convert_entry image used entry_form) (first_failed (convert_checks entry_form image used)) refl (λ e. ne (convert_answer ∙ e)))

  -- .. and otherwise converts its entries.
  pub convert-done : (convert_bytes image used entry_form).answer ≡ 0 → (convert_bytes image used entry_form).image ≡ converted entry_form image (used / 560)
  unfolding convert_bytes
  convert-done e = rw (attempt-done (convert_entry image used entry_form) 0 (sym (sym convert_answer ∙ e)) refl)

  -- THEOREM: "going back from timers other than 70 and 70 is answer 9, after 6", and nothing else is.
  pub convert-nine : ((convert_bytes image used entry_form).answer ≡ 9)
      ↔ ((used ≤ length image) × (entry_form ≡ 1) × (readable image used ≡ true) × HasOtherTimers image used)
  convert-nine = rw convert_answer (nine-exactly entry_form image used)

  -- THEOREM: whatever it answers, the length stays, and only bytes 25 to 29 of entries can change.
  pub convert-length : length (convert_bytes image used entry_form).image ≡ length image
  unfolding convert_bytes
  convert-length = go (first_failed (convert_checks entry_form image used))
    where
      go : (n : ℕ) → length (if_passed n (convert_entry image used entry_form).done ((convert_entry image used entry_form).refused n)).image ≡ length image
      go zero = length-converted entry_form image (used / 560)
      go (suc n) = refl

  pub convert-elsewhere : (i : ℕ) → Elsewhere (used / 560) i → get_or (convert_bytes image used entry_form).image i 0 ≡ get_or image i 0
  convert-elsewhere i h = go (eqb (convert_bytes image used entry_form).answer 0) refl
    where
      go : (b : Bool) → eqb (convert_bytes image used entry_form).answer 0 ≡ b → get_or (convert_bytes image used entry_form).image i 0 ≡ get_or image i 0
      go true e = rw (convert-done (eqb-true (convert_bytes image used entry_form).answer 0 e)) (converted-elsewhere entry_form image (used / 560) i h)
      go false e = rw (convert-refused (eqb-false (convert_bytes image used entry_form).answer 0 e))

  module _ (b : Bytes image) (answers : (convert_bytes image used entry_form).answer ≡ 0) where
    passed : first_failed (convert_checks entry_form image used) ≡ 0
    passed = sym convert_answer ∙ answers

    -- THEOREM: after answer 0 the image is readable, ..
    pub convert-readable : readable (convert_bytes image used entry_form).image used ≡ true
    convert-readable = rw (convert-done answers) (converted-readable entry_form image used b passed)

    -- .. and a power-on from it has the same answer, and leaves the same record and private area.
    pub power-on-converted : (r a : List ℕ) (disk : Disk) → power_on_bytes r a disk (convert_bytes image used entry_form).image used ≡ power_on_bytes r a disk image used
    unfolding power_on_bytes
    power-on-converted r a disk =
        rw (convert-done answers, power-on-checks-same entry_form image used b passed disk, restored-device entry_form image used b passed (native_size disk))

-- THEOREM: an empty image stays, whichever form is asked for.
pub empty-stays : (image : List ℕ) (entry_form : ℕ) → (entry_form ≡ 1) ⊎ (entry_form ≡ 2) → convert_bytes image 0 entry_form ≡ record { answer = 0; image = image }
unfolding convert_bytes readable_under
empty-stays image entry_form (inl e) = rw (e, le-leb 0 (length image) zero-le)
empty-stays image entry_form (inr e) = rw (e, le-leb 0 (length image) zero-le)

-- A readable image that is not empty; byte 25 of its first entry tells the form of all.
module _ (image : List ℕ) (used : ℕ) (b : Bytes image) (fits : used ≤ length image) (r : readable image used ≡ true) (some : 560 ≤ used) where
  same-form : (entry_form : ℕ) → first_failed (convert_checks entry_form image used) ≡ 0 → form_of (entry_timers image 1) ≡ entry_form
      → convert_bytes image used entry_form ≡ record { answer = 0; image = image }
  unfolding convert_bytes
  same-form entry_form passed e =
      let own = sym (one_form image used b r 1 (omega arith) (omega arith)) ∙ e in
      rw (attempt-done (convert_entry image used entry_form) 0 (sym passed) refl) (ap (λ (l : List ℕ). record { answer = 0; image = l }) (stays entry_form image used b passed own))

  -- THEOREM: "An image already of the form asked for stays.": one of form 1, which has no other timers, and one of form 2.
  pub one-stays : get 1 image 25 ≡ 0 → convert_bytes image used 1 ≡ record { answer = 0; image = image }
  one-stays one = same-form 1 (convert-to-one image used fits r (no-other-timers image used b r (omega arith) one)) (rw one)

  pub two-stays : get 1 image 25 ≡ 2 → convert_bytes image used 2 ≡ record { answer = 0; image = image }
  two-stays two = same-form 2 (convert-to-two image used fits r) (rw two)

  goes_back : (there was : ℕ) → Returns there was image used
      → ((convert_bytes image used there).answer ≡ 0) × (convert_bytes (convert_bytes image used there).image used was ≡ record { answer = 0; image = image })
  unfolding convert_bytes
  goes_back there was e =
      rw (attempt-done (convert_entry image used there) 0 (sym e.goes) refl, attempt-done (convert_entry (converted there image (used / 560)) used was) 0 (sym e.comes_back) refl)
      (refl, ap (λ (l : List ℕ). record { answer = 0; image = l }) e.same_bytes)

  -- THEOREM: "going there and back gives the same bytes", from form 1, ..
  pub to-two-and-back : get 1 image 25 ≡ 0
      → ((convert_bytes image used 2).answer ≡ 0) × (convert_bytes (convert_bytes image used 2).image used 1 ≡ record { answer = 0; image = image })
  to-two-and-back one = goes_back 2 1 (one-two-one image used b fits r some one)

  -- .. and from form 2, where no entry has timers other than 70 and 70.
  pub to-one-and-back : get 1 image 25 ≡ 2 → (HasOtherTimers image used → ⊥)
      → ((convert_bytes image used 1).answer ≡ 0) × (convert_bytes (convert_bytes image used 1).image used 2 ≡ record { answer = 0; image = image })
  to-one-and-back two none = goes_back 1 2 (two-one-two image used b fits r some two none)

-- Laws of a conversion that is not refused (W-204): the image is readable and of the form asked for, power-on does the same with it, and there and back
-- gives the same bytes.
use mathlib.Core.Path.{◌≡◌, refl, sym, ap, ◌∙◌, subst}
use mathlib.Core.Bool.{Bool, true, false, ◌||◌}
use mathlib.Core.Logic.{inl}
use Prim.Native.Nat.{ℕ, zero, suc, ◌+◌, ◌-◌, ◌*◌, ◌/◌, ◌≤◌}
use native.Mathlib.Omega.{arith}
use mathlib.Core.List.{List}
use lib.ListN.{length}
use lib.Dec.{eqb}
use borrow.Author.Tests.{eqb-false, le-leb}
use Rattle.wire.specs.Choice.{first_failed, if_passed}
use Rattle.wire.specs.Numbers.{get}
use Rattle.wire.specs.Bytes.{Bytes}
use Rattle.wire.proofs.ChoiceLaws.{between-within, pass_all}
use Rattle.model.specs.Buffers.{Image}
use Rattle.model.specs.Disk.{Disk, native_size}
use Rattle.model.specs.Update.{with_settings}
use Rattle.model.specs.Image.{SavedTimers, left_out, stored, form_of, Saved, saved_at, body_at, entries, newest_in, readable, same_disk, power_on_checks, settings_of, restored}
use Rattle.model.specs.Image.{power_on as power_on_device}
use Rattle.model.specs.ImageForm.{EntryForm}
use Rattle.model.specs.Convert.{in_form, converted, fits_form, entry_timers, convert_checks}
use Rattle.model.specs.Machine.{Machine}
use Rattle.model.specs.Step.{power_on, powered_on, guarded, step}
use Rattle.model.proofs.StepLaws.{answer-is}
use Rattle.model.proofs.ImageLaws.{all-every, form-readable}
use Rattle.model.proofs.LimitLaws.{readable-length}
use Rattle.model.proofs.ConvertedBytes.{length-converted, converted-elsewhere, images-same}
use Rattle.model.proofs.EntryTimers.{timers-of, TimersStand, timers-stand, entries-same, readable-entry, OfFormOne}
use Rattle.model.proofs.ConvertedEntries.{with_timers, saved_in, meant-same, own-form, there_back, back_fits, converted-entry, converted-saved, converted-timers}
use Rattle.model.proofs.ConvertRefusals.{one_form, HasOtherTimers, convert-to-one, convert-to-two, ConvertAccepted, convert-accepted}

-- the timers of the entry at a place, before and after a conversion: "byte 25 is 2 and bytes 26 to 29 hold the read and write timers"; "Form 1 has
-- byte 25 = 0 and means 70 and 70."
pub record TimersConverted (entry_form : ℕ) (before after : List ℕ) (at : ℕ) : Type 0 where
  pub to_one : entry_form ≡ 1 → OfFormOne after at
  pub to_two : entry_form ≡ 2 → get 1 after (at + 25) ≡ 2
  pub from_one : entry_form ≡ 2 → get 1 before (at + 25) ≡ 0 → (get 2 after (at + 26) ≡ 70) × (get 2 after (at + 28) ≡ 70)
  pub from_two : entry_form ≡ 2 → get 1 before (at + 25) ≡ 2
      → (get 2 after (at + 26) ≡ get 2 before (at + 26)) × (get 2 after (at + 28) ≡ get 2 before (at + 28))

-- the device at power-on is the same from timers that mean the same
power-on-meant : (entry_form : ℕ) (s : Saved) → fits_form entry_form s.timers ≡ true → power_on_device (saved_in entry_form s) ≡ power_on_device s
unfolding power_on_device
power-on-meant entry_form s h =
    ap (λ (t : ℕ × ℕ). with_settings (settings_of t.0 t.1 s.write_cache s.reordering s.log_interval) (power_on_device s))
    (meant-same entry_form s.timers h)

form-within : (t : SavedTimers) → (1 ≤ form_of t) × (form_of t ≤ 2)
form-within left_out = (omega arith, omega arith)
form-within (stored for_read for_write) = (omega arith, omega arith)

-- what entry k of an image saves
abbrev saved : Image → ℕ → Saved
saved image k = saved_at (body_at image k) 0

module _ (entry_form : ℕ) (image : List ℕ) (used : ℕ) (b : Bytes image) (passed : first_failed (convert_checks entry_form image used) ≡ 0) where
  abbrev after : Image
  after = converted entry_form image (used / 560)

  abbrev newest : Saved
  newest = newest_in image used

  accepted : ConvertAccepted entry_form image used
  accepted = convert-accepted entry_form image used passed

  -- ---- the entries

  module _ (k : ℕ) (low : 1 ≤ k) (high : k ≤ used / 560) where
    entry-before : EntryForm newest image k
    entry-before = readable-entry image used b accepted.readable_before k low high

    entry-after : EntryForm (saved_in entry_form newest) after k
    entry-after = converted-entry entry_form newest image (used / 560) k low high entry-before

    saved_after : saved after k ≡ saved_in entry_form (saved image k)
    saved_after = converted-saved entry_form newest image (used / 560) k low high entry-before

    timers-after : entry_timers after k ≡ in_form entry_form (entry_timers image k)
    timers-after = converted-timers entry_form newest image (used / 560) k low high entry-before

    timers-form : form_of (entry_timers image k) ≡ form_of newest.timers
    timers-form = one_form image used b accepted.readable_before k low high

    saved-fits : fits_form entry_form (saved image k).timers ≡ true
    saved-fits = rw (timers-of image k low) (accepted.timers_fit k low high)

    -- THEOREM: the form asked for, and its timers, in every entry.
    pub converted-form : TimersConverted entry_form image after (560 * (k - 1))
    converted-form =
        record {
          to_one = λ e. held 1 e;
          to_two = λ e. (held 2 e).0;
          from_one = λ e one. ((held 2 e).1 ∙ rw one, (held 2 e).2 ∙ rw one);
          from_two = λ e two. ((held 2 e).1 ∙ rw two, (held 2 e).2 ∙ rw two);
        }
      where
        held : (f : ℕ) → entry_form ≡ f → TimersStand (in_form f (entry_timers image k)) after (560 * (k - 1))
        held f e =
            subst (λ (t : SavedTimers). TimersStand t after (560 * (k - 1))) (timers-after ∙ ap (λ (x : ℕ). in_form x (entry_timers image k)) e)
            (timers-stand (saved_in entry_form newest) after k low entry-after)

  -- THEOREM: a converted image is readable.
  pub converted-readable : readable after used ≡ true
  converted-readable =
      let size = readable-length image used accepted.readable_before in
      form-readable after used
      (
      record {
        newest = saved_in entry_form newest;
        number = used / 560;
        used_length = omega (arith, size.0);
        most = omega (arith, size.1);
        each = entry-after;
      }
      )

  -- ---- power-on

  -- the number of the newest entry
  some-entry : (used ≡ 0 → ⊥) → 1 ≤ used / 560
  some-entry some = let size = readable-length image used accepted.readable_before in omega (arith, size.0)

  newest-after : (used ≡ 0 → ⊥) → newest_in after used ≡ saved_in entry_form newest
  newest-after some = saved_after (used / 560) (some-entry some) (omega arith)

  -- THEOREM: power-on from the converted image gives the same device, ..
  pub restored-device : (native : ℕ) → power_on_device (restored native after used) ≡ power_on_device (restored native image used)
  unfolding restored
  restored-device native = go (eqb used 0) refl
    where
      go : (x : Bool) → eqb used 0 ≡ x → power_on_device (restored native after used) ≡ power_on_device (restored native image used)
      go true e = rw e
      go false e =
          let some = eqb-false used 0 e in
          rw e (ap power_on_device (newest-after some) ∙ power-on-meant entry_form newest (saved-fits (used / 560) (some-entry some) (omega arith)))

  same-disk : (native : ℕ) → same_disk native after used ≡ same_disk native image used
  same-disk native = go (eqb used 0) refl
    where
      go : (x : Bool) → eqb used 0 ≡ x → (x || eqb (newest_in after used).native native) ≡ (x || eqb newest.native native)
      go true e = refl
      go false e = ap (λ (s : Saved). eqb s.native native) (newest-after (eqb-false used 0 e))

  -- .. passes or fails the same checks, ..
  pub power-on-checks-same : (disk : Disk) → first_failed (power_on_checks disk after used) ≡ first_failed (power_on_checks disk image used)
  power-on-checks-same disk =
      rw (length-converted entry_form image (used / 560), converted-readable, accepted.readable_before, same-disk (native_size disk))

  -- .. and as a step has the same answer and leaves the same machine.
  pub power-on-answer-same : (M : Machine) → (step (power_on after used) M).seen.answer ≡ (step (power_on image used) M).seen.answer
  power-on-answer-same M = answer-is (power_on after used) M ∙ power-on-checks-same M.disk ∙ sym (answer-is (power_on image used) M)

  pub power-on-state-same : (M : Machine) → (step (power_on after used) M).state ≡ (step (power_on image used) M).state
  unfolding step powered_on
  power-on-state-same M = rw (power-on-checks-same M.disk) (go (first_failed (power_on_checks M.disk image used)))
    where
      go : (n : ℕ)
          → (if_passed n (guarded (power_on after used) M).done ((guarded (power_on after used) M).refused n)).state
          ≡ (if_passed n (guarded (power_on image used) M).done ((guarded (power_on image used) M).refused n)).state
      go zero = rw (restored-device (native_size M.disk))
      go (suc n) = refl

  -- ---- "An image already of the form asked for stays."

  -- THEOREM: an image whose newest entry is of the form asked for is unchanged.
  pub stays : form_of newest.timers ≡ entry_form → after ≡ image
  stays own =
      images-same after image (used / 560) (length-converted entry_form image (used / 560))
      (λ k low high.
      entries-same (saved_in entry_form newest) newest after image k low (entry-after k low high) (entry-before k low high)
      (saved_after k low high ∙ ap (λ (t : SavedTimers). with_timers t (saved image k)) (own-timers k low high)))
      (λ i h. converted-elsewhere entry_form image (used / 560) i (inl h))
    where
      own-timers : (k : ℕ) → 1 ≤ k → k ≤ used / 560 → in_form entry_form (saved image k).timers ≡ (saved image k).timers
      own-timers k low high = own-form entry_form (saved image k).timers (ap form_of (timers-of image k low) ∙ timers-form k low high ∙ own)

  -- ---- "going there and back gives the same bytes"

  module _ (was : ℕ) (own : form_of newest.timers ≡ was) where
    abbrev back : Image
    back = converted was after (used / 560)

    saved-back : (k : ℕ) → 1 ≤ k → k ≤ used / 560 → saved back k ≡ saved image k
    saved-back k low high =
        let form = ap form_of (timers-of image k low) ∙ timers-form k low high ∙ own in
        converted-saved was (saved_in entry_form newest) after (used / 560) k low high (entry-after k low high)
        ∙ ap (saved_in was) (saved_after k low high)
        ∙ ap (λ (t : SavedTimers). with_timers t (saved image k)) (there_back entry_form was (saved image k).timers (saved-fits k low high) form)

    -- THEOREM: a conversion back to the form that the image was of gives the same bytes, ..
    pub there_and_back : back ≡ image
    there_and_back =
        images-same back image (used / 560) (length-converted was after (used / 560) ∙ length-converted entry_form image (used / 560))
        (λ k low high.
        entries-same (saved_in was (saved_in entry_form newest)) newest back image k low
        (converted-entry was (saved_in entry_form newest) after (used / 560) k low high (entry-after k low high))
        (entry-before k low high)
        (saved-back k low high))
        (λ i h. converted-elsewhere was after (used / 560) i (inl h) ∙ converted-elsewhere entry_form image (used / 560) i (inl h))

    fits-back : (k : ℕ) → 1 ≤ k → k ≤ used / 560 → fits_form was (entry_timers after k) ≡ true
    fits-back k low high =
        ap (fits_form was) (timers-after k low high)
        ∙ back_fits entry_form was (entry_timers image k) (accepted.timers_fit k low high) (timers-form k low high ∙ own)

    -- .. and is not refused.
    pub back-accepted : first_failed (convert_checks was after used) ≡ 0
    back-accepted =
        let asked = form-within newest.timers in
        pass_all (convert_checks was after used) (
          le-leb used (length after) (rw (length-converted entry_form image (used / 560)) accepted.room),
          (
            between-within 1 was 2 (omega (arith, own, asked.0)) (omega (arith, own, asked.1)),
            (converted-readable, (all-every (entries used) (λ k. fits_form was (entry_timers after k)) fits-back, tt)),
          ),
        )

-- ---- "Convert a whole image from form 1 to form 2 and back; going there and back gives the same bytes."

-- neither way is refused, and the bytes are the same
pub record Returns (there was : ℕ) (image : List ℕ) (used : ℕ) : Type 0 where
  pub goes : first_failed (convert_checks there image used) ≡ 0
  pub comes_back : first_failed (convert_checks was (converted there image (used / 560)) used) ≡ 0
  pub same_bytes : converted was (converted there image (used / 560)) (used / 560) ≡ image

-- a readable image that is not empty; byte 25 of its first entry tells the form of all
module _ (image : List ℕ) (used : ℕ) (b : Bytes image) (fits : used ≤ length image) (r : readable image used ≡ true) (some : 560 ≤ used) where
  returns : (there was : ℕ) → first_failed (convert_checks there image used) ≡ 0 → form_of (entry_timers image 1) ≡ was → Returns there was image used
  returns there was goes e =
      let own = sym (one_form image used b r 1 (omega arith) (omega arith)) ∙ e in
      record { goes = goes; comes_back = back-accepted there image used b goes was own; same_bytes = there_and_back there image used b goes was own }

  -- THEOREM: an image of form 1 can be converted to form 2 and back; ..
  pub one-two-one : get 1 image 25 ≡ 0 → Returns 2 1 image used
  one-two-one e = returns 2 1 (convert-to-two image used fits r) (rw e)

  -- .. and one of form 2 to form 1 and back, if no entry has timers other than 70 and 70.
  pub two-one-two : get 1 image 25 ≡ 2 → (HasOtherTimers image used → ⊥) → Returns 1 2 image used
  two-one-two e none = returns 1 2 (convert-to-one image used fits r none) (rw e)

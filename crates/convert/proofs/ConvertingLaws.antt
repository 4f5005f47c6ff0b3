-- A conversion entry by entry: the image's length, and one more entry whose timers fit.
use Rattle.std.specs.Prelude.{IsTrue, All, ◌↔◌, if◌then◌else◌}
use Rattle.std.specs.Simd.{first_chunks}
use Rattle.std.proofs.lemmas.List.Elements.{All-get_or, All-from_get_or}
use mathlib.Core.Path.{◌≡◌, refl, sym, ap, ◌∙◌}
use mathlib.Core.Bool.{Bool, true, false, ◌&&◌}
use Prim.Native.Nat.{ℕ, suc, ◌-◌, ◌*◌, ◌/◌, ◌≤◌, ◌<◌}
use native.Mathlib.Omega.{arith}
use mathlib.Core.List.{List, []}
use lib.ListN.{length, take, get_or}
use lib.Seq.{length-take-le}
use borrow.Author.Tests.{le-leb}
use Rattle.wire.specs.Choice.{between, first_failed}
use Rattle.wire.specs.Layout.{placed}
use Rattle.wire.specs.Parts.{part}
use Rattle.wire.proofs.ChoiceLaws.{tests_same}
use Rattle.wire.proofs.LayoutLaws.{length-stores}
use Rattle.wire.proofs.PartsLaws.{part-part, get-part}
use Rattle.model.specs.Sizes.{entry_size}
use Rattle.model.specs.Image.{form_place, read_timer_place, write_timer_place, timer_fields, timers_at, every, entries, readable}
use Rattle.model.specs.Convert.{in_form, converted_entry, fits_form, entry_timers, convert_checks}
use Rattle.model.proofs.EntryLaws.{timers-agree}
use Rattle.model.proofs.ImageLaws.{every-all, all-every}
use Rattle.entry_timers.specs.declared.timers.Form.{Form}
use Rattle.entry_timers.specs.declared.timers.Form.TheVariants.{One, Two}
use Rattle.entry_timers.specs.TimersMeaning.{form_number}
use Rattle.image.proofs.ChainLaws.{chunk-at}
use Rattle.image.proofs.UsedLaws.{readable-used}

-- an entry converted leaves the image's length
pub length-entry : (entry_form at : ℕ) (image : List ℕ) → length (converted_entry entry_form at image) ≡ length image
length-entry entry_form at image = length-stores (placed at (timer_fields (in_form entry_form (timers_at image at)))) image

module _ (entry_form : ℕ) (image : List ℕ) where
  abbrev pub fits : ℕ → Bool
  fits k = fits_form entry_form (entry_timers image k)

  pub fits_more : (k : ℕ) → (fits_form entry_form (timers_at image (entry_size * k)) && every k fits) ≡ every (suc k) fits
  fits_more k = ap (λ (j : ℕ). fits_form entry_form (timers_at image (entry_size * j)) && every k fits) (less k)
    where
      less : (k : ℕ) → k ≡ suc k - 1
      less k = omega arith

-- the timers of an entry, read from its own bytes
pub timers-alone : (image : List ℕ) (at : ℕ) → timers_at (part image at entry_size) 0 ≡ timers_at image at
timers-alone image at =
    timers-agree (part image at entry_size) image 0 at (get-part 1 image at entry_size form_place (omega arith)) (get-part 2 image at entry_size read_timer_place (omega arith))
    (get-part 2 image at entry_size write_timer_place (omega arith))

-- a form's number is 1 or 2
form-between : (f : Form) (n : ℕ) → form_number f ≡ n → between 1 n 2 ≡ true
form-between One n e = ap (λ (k : ℕ). between 1 k 2) (sym e)
form-between Two n e = ap (λ (k : ℕ). between 1 k 2) (sym e)

-- ---- the checks, for an image that is not too short, and a number that names a form

module _ (image : List ℕ) (used : ℕ) (long : used ≤ length image) (f : Form) (n : ℕ) (is : form_number f ≡ n) where
  abbrev chain : List ℕ
  chain = take used image

  -- whether the timers of each chunk fit is whether those of each entry do
  abbrev pub Fits : List ℕ → Type 0
  Fits e = fits_form (form_number f) (timers_at e 0) ≡ true

  module _ (es : List (List ℕ)) (cut : es ≡ first_chunks entry_size (length chain / entry_size) chain) (count : length es ≡ length chain / entry_size) where
    same-length : length chain ≡ used
    same-length = length-take-le used image long

    place : (i : ℕ) → i < length es → get_or es i [] ≡ part image (entry_size * i) entry_size
    place i h =
        ap (λ (l : List (List ℕ)). get_or l i []) cut
        ∙ chunk-at (length chain / entry_size) i chain [] (omega (arith, count))
        ∙ part-part image 0 used (entry_size * i) entry_size (omega (arith, count, same-length))
        ∙ ap (λ (j : ℕ). part image j entry_size) (omega arith)

    each : (i k : ℕ) → i < length es → i ≡ k - 1 → fits_form (form_number f) (timers_at (get_or es i []) 0) ≡ fits_form n (entry_timers image k)
    each i k h e =
        ap (λ (l : List ℕ). fits_form (form_number f) (timers_at l 0)) (place i h)
        ∙ ap (fits_form (form_number f)) (timers-alone image (entry_size * i))
        ∙ (λ j. fits_form (is j) (timers_at image (entry_size * e j)))

    fits-every : (t : Bool) → (IsTrue t ↔ All Fits es) → t ≡ every (entries used) (fits n image)
    fits-every t iff =
        tests_same t (every (entries used) (fits n image))
        (λ e. all-every (entries used) (fits n image) (λ k low high. sym (each (k - 1) k (inside k low high) refl) ∙ All-get_or Fits es (k - 1) [] (inside k low high) (iff.0 e)))
        (λ e. iff.1 (All-from_get_or Fits es [] (λ i h. each i (suc i) h (omega arith) ∙ every-all (entries used) (fits n image) e (suc i) (omega arith) (below i h))))
      where
        inside : (k : ℕ) → 1 ≤ k → k ≤ entries used → k - 1 < length es
        inside k low high = omega (arith, count, same-length, low, high)

        below : (i : ℕ) → i < length es → suc i ≤ entries used
        below i h = omega (arith, count, same-length, h)

    pub timers-refused : (t : Bool) → (IsTrue t ↔ All Fits es) → readable chain (length chain) ≡ true → (if t then 0 else 9) ≡ first_failed (convert_checks n image used)
    timers-refused t iff r =
        sym (rw (le-leb used (length image) long, form-between f n is, sym (readable-used image used long) ∙ r, ← fits-every t iff) refl)

  pub unreadable-refused : readable chain (length chain) ≡ false → 6 ≡ first_failed (convert_checks n image used)
  unreadable-refused r = sym (rw (le-leb used (length image) long, form-between f n is, sym (readable-used image used long) ∙ r) refl)

-- The timers of an entry in its image (W-204): where they are, and that in a readable image every entry is of the same form, byte by byte.
use mathlib.Core.Path.{◌≡◌, sym, ap, ◌∙◌, subst}
use mathlib.Core.Bool.{true}
use mathlib.Core.Logic.{◌⊎◌, inl, inr}
use Prim.Native.Nat.{ℕ, ◌+◌, ◌-◌, ◌*◌, ◌/◌, ◌≤◌}
use native.Mathlib.Omega.{arith}
use mathlib.Core.List.{List, ◌++◌}
use Rattle.wire.specs.Numbers.{get}
use Rattle.wire.specs.Parts.{part}
use Rattle.wire.specs.Bytes.{Bytes}
use Rattle.wire.proofs.NumbersLaws.{get-append-left}
use Rattle.wire.proofs.PartsLaws.{get-part}
use Rattle.model.specs.Sizes.{body_size}
use Rattle.model.specs.Image.{SavedTimers, left_out, stored, form_of, Saved, timer_numbers, body_bytes, timers_at, saved_at, trailer_place, trailer_bytes, body_at, newest_in, readable}
use Rattle.model.specs.ImageForm.{EntryForm}
use Rattle.model.specs.Convert.{entry_timers}
use Rattle.model.specs.Valid.{TimerValid}
use Rattle.model.proofs.EntryLaws.{length-body, head-reads, saved-at, TimersRanged, range-parts}
use Rattle.model.proofs.ImageLaws.{form-saved, holds-form, readable-parts}

-- the timers of entry k are those of the values that it decodes to
pub timers-of : (image : List ℕ) (k : ℕ) → 1 ≤ k → (saved_at (body_at image k) 0).timers ≡ entry_timers image k
unfolding saved_at
timers-of image k h = ap (λ (s : Saved). s.timers) (saved-at image (trailer_place k - body_size)) ∙ ap (timers_at image) (omega arith)

-- timers at their places in an entry: byte 25, and the numbers in bytes 26 and 27 and in bytes 28 and 29
abbrev pub TimersStand : SavedTimers → List ℕ → ℕ → Type 0
TimersStand t image at =
    (get 1 image (at + 25) ≡ (timer_numbers t).0) × (get 2 image (at + 26) ≡ (timer_numbers t).1) × (get 2 image (at + 28) ≡ (timer_numbers t).2)

module _ (newest : Saved) (image : List ℕ) (k : ℕ) (low : 1 ≤ k) (e : EntryForm newest image k) where
  pub form-timers : entry_timers image k ≡ e.saved.timers
  form-timers = sym (timers-of image k low) ∙ ap (λ (s : Saved). s.timers) (form-saved newest image k low e)

  -- all entries are of the newest's form
  pub entry-form : form_of (entry_timers image k) ≡ form_of newest.timers
  entry-form = ap form_of form-timers ∙ e.like.same_form

  pub timers-stand : TimersStand (entry_timers image k) image (560 * (k - 1))
  timers-stand =
      let r = (head-reads e.saved e.fits).1.1.1.1.1.1.1.1 in
      rw form-timers (number 1 25 (omega arith) ∙ r.0, number 2 26 (omega arith) ∙ r.1.0, number 2 28 (omega arith) ∙ r.1.1.0)
    where
      number : (w i : ℕ) → i + w ≤ 544 → get w image (560 * (k - 1) + i) ≡ get w (body_bytes e.saved) i
      number w i h =
          sym (get-part w image (560 * (k - 1)) 560 i (omega arith))
          ∙ ap (λ (l : List ℕ). get w l i) e.bytes
          ∙ get-append-left w (body_bytes e.saved) (trailer_bytes k) i (rw (length-body e.saved e.fits.whole) h)

-- two entries of the same number that have the form are the same bytes if they decode to the same values
pub entries-same : (x y : Saved) (a b : List ℕ) (k : ℕ) → 1 ≤ k → EntryForm x a k → EntryForm y b k → saved_at (body_at a k) 0 ≡ saved_at (body_at b k) 0
    → part a (560 * (k - 1)) 560 ≡ part b (560 * (k - 1)) 560
entries-same x y a b k low e f same =
    e.bytes
    ∙ ap (λ (s : Saved). body_bytes s ++ trailer_bytes k) (sym (form-saved x a k low e) ∙ same ∙ form-saved y b k low f)
    ∙ sym f.bytes

-- every entry of a readable image has the form
pub readable-entry : (image : List ℕ) (used : ℕ) → Bytes image → readable image used ≡ true
    → (k : ℕ) → 1 ≤ k → k ≤ used / 560 → EntryForm (newest_in image used) image k
readable-entry image used b r k low high = holds-form (newest_in image used) image k low b ((readable-parts image used r).each k low high)

-- W-204: "byte 25 is 2 and bytes 26 to 29 hold the read and write timers"; "A saved timer of 1 to 9 is out of range."
abbrev pub OfFormTwo : List ℕ → ℕ → Type 0
OfFormTwo image at = (get 1 image (at + 25) ≡ 2) × TimerValid (get 2 image (at + 26)) × TimerValid (get 2 image (at + 28))

-- "Form 1 has byte 25 = 0"; "zeros to 31"
abbrev pub OfFormOne : List ℕ → ℕ → Type 0
OfFormOne image at = (get 1 image (at + 25) ≡ 0) × (get 2 image (at + 26) ≡ 0) × (get 2 image (at + 28) ≡ 0)

stands-in-form : (t : SavedTimers) (image : List ℕ) (at : ℕ) → TimersRanged t → TimersStand t image at → OfFormOne image at ⊎ OfFormTwo image at
stands-in-form left_out image at r s = inl s
stands-in-form (stored for_read for_write) image at r s = inr (s.0, subst TimerValid (sym s.1) r.0, subst TimerValid (sym s.2) r.1)

-- THEOREM: every entry of a readable image is of form 1 or of form 2.
pub entry-forms : (image : List ℕ) (used : ℕ) → Bytes image → readable image used ≡ true
    → (k : ℕ) → 1 ≤ k → k ≤ used / 560 → OfFormOne image (560 * (k - 1)) ⊎ OfFormTwo image (560 * (k - 1))
entry-forms image used b r k low high =
    let e = readable-entry image used b r k low high in
    let newest = newest_in image used in
    stands-in-form (entry_timers image k) image (560 * (k - 1))
    (subst TimersRanged (sym (form-timers newest image k low e)) (range-parts e.saved e.ranged).timers)
    (timers-stand newest image k low e)

-- The answers of a conversion (W-204), each by its number: 2, 5, 6, 9, and 0 for every other.
use Rattle.std.specs.Prelude.{if◌then◌else◌}
use mathlib.Core.Path.{◌≡◌, refl, subst}
use mathlib.Core.Bool.{Bool, true, false, ◌&&◌, ◌||◌}
use mathlib.Core.Logic.{◌⊎◌, inl, inr, ◌↔◌}
use Prim.Native.Nat.{ℕ, zero, suc, ◌+◌, ◌-◌, ◌*◌, ◌/◌, ◌≤◌, ◌<◌}
use native.Mathlib.Omega.{arith}
use mathlib.Core.List.{List, [], ◌∷◌}
use lib.ListN.{length}
use lib.Dec.{eqb, leb}
use borrow.Author.Tests.{eqb-true, eqb-false, leb-true, le-leb, lt-leb}
use Rattle.wire.specs.Choice.{between, first_failed}
use Rattle.wire.specs.Numbers.{get}
use Rattle.wire.specs.Bytes.{Bytes}
use Rattle.wire.proofs.ChoiceLaws.{between-true, Numbered, all_pass, pass_all}
use Rattle.model.specs.Image.{SavedTimers, left_out, stored, form_of, timers_meant, timers_at, every, entries, newest_in, readable}
use Rattle.model.specs.Convert.{fits_form, entry_timers, convert_checks}
use Rattle.model.proofs.StepLaws.{keeps_order}
use Rattle.model.proofs.ImageLaws.{every-all, all-every}
use Rattle.model.proofs.EntryTimers.{entry-form, readable-entry}

-- ---- 2, 5 and 6, in this order

module _ (entry_form : ℕ) (image : List ℕ) (used : ℕ) where
  -- "answer 9, after 6"
  pub convert-order : keeps_order 0 (convert_checks entry_form image used) ≡ true
  convert-order = refl

  -- every refusal has a number from 1 to 9
  pub convert-numbered : Numbered 9 (convert_checks entry_form image used)
  convert-numbered = (omega arith, omega arith, (omega arith, omega arith, (omega arith, omega arith, (omega arith, omega arith, tt))))

  -- "an image's used length exceeds its buffer" (2)
  pub convert-long : length image < used → first_failed (convert_checks entry_form image used) ≡ 2
  convert-long h = rw (lt-leb used (length image) h)

  module _ (fits : used ≤ length image) where
    -- "a form asked for other than 1 or 2 is answer 5"
    pub convert-form : (entry_form ≡ 0) ⊎ (2 < entry_form) → first_failed (convert_checks entry_form image used) ≡ 5
    convert-form (inl e) = rw (le-leb used (length image) fits, e)
    convert-form (inr h) = rw (le-leb used (length image) fits, le-leb 1 entry_form (omega arith), lt-leb entry_form 2 h)

    -- "image not readable by the rules below" (6)
    pub convert-unreadable : (entry_form ≡ 1) ⊎ (entry_form ≡ 2) → readable image used ≡ false → first_failed (convert_checks entry_form image used) ≡ 6
    convert-unreadable (inl e) r = rw (le-leb used (length image) fits, e, r)
    convert-unreadable (inr e) r = rw (le-leb used (length image) fits, e, r)

-- ---- "A chain may not mix forms"; "a mixed chain is answer 6"

-- byte 25 of one entry of a readable image tells the form of all
pub one_form : (image : List ℕ) (used : ℕ) → Bytes image → readable image used ≡ true
    → (k : ℕ) → 1 ≤ k → k ≤ used / 560 → form_of (entry_timers image k) ≡ form_of (newest_in image used).timers
one_form image used b r k low high = entry-form (newest_in image used) image k low (readable-entry image used b r k low high)

-- two entries within the used length, one of form 1 and one of form 2
module _ (image : List ℕ) (used : ℕ) (b : Bytes image) (i j : ℕ) (low-i : 1 ≤ i) (high-i : i ≤ used / 560) (low-j : 1 ≤ j) (high-j : j ≤ used / 560) (one : get 1 image (560 * (i - 1) + 25) ≡ 0) (two : get 1 image (560 * (j - 1) + 25) ≡ 2) where
  pub mixed-unreadable : readable image used ≡ false
  mixed-unreadable = go (readable image used) refl
    where
      go : (x : Bool) → readable image used ≡ x → x ≡ false
      go false r = refl
      go true r =
          let form-i : form_of (entry_timers image i) ≡ 1 = rw one in
          let form-j : form_of (entry_timers image j) ≡ 2 = rw two in
          absurd (omega (arith, form-i, form-j, one_form image used b r i low-i high-i, one_form image used b r j low-j high-j))

  -- THEOREM: an image with an entry of form 1 and an entry of form 2 is answer 6.
  pub convert-mixed : (entry_form : ℕ) → used ≤ length image → (entry_form ≡ 1) ⊎ (entry_form ≡ 2) → first_failed (convert_checks entry_form image used) ≡ 6
  convert-mixed entry_form fits asked = convert-unreadable entry_form image used fits asked mixed-unreadable

-- ---- "timers other than 70 and 70"

-- the entry at a place is of form 2, and its timers are not 70 and 70
abbrev pub OtherTimers : List ℕ → ℕ → Type 0
OtherTimers image at = (get 1 image (at + 25) ≡ 2) × ((get 2 image (at + 26) ≡ 70) × (get 2 image (at + 28) ≡ 70) → ⊥)

-- .. as is an entry within the used length
abbrev pub HasOtherTimers : List ℕ → ℕ → Type 0
HasOtherTimers image used = (k : ℕ) × (1 ≤ k) × (k ≤ used / 560) × OtherTimers image (560 * (k - 1))

-- a readable image whose first entry is of form 1 has none
pub no-other-timers : (image : List ℕ) (used : ℕ) → Bytes image → readable image used ≡ true → 560 ≤ used → get 1 image 25 ≡ 0 → HasOtherTimers image used → ⊥
no-other-timers image used b r some one (k, low, high, other) =
    let first : form_of (entry_timers image 1) ≡ 1 = rw one in
    let two : form_of (entry_timers image k) ≡ 2 = rw other.0 in
    omega (arith, first, two, one_form image used b r 1 (omega arith) (omega arith), one_form image used b r k low high)

-- a test does not both hold and fail
not-both : (b : Bool) → b ≡ true → b ≡ false → ⊥
not-both b p q = let z : ◌≡◌ {A = ℕ} 0 1 = cc in omega arith

-- exactly such timers cannot be in form 1
unfit-other : (image : List ℕ) (at : ℕ) → fits_form 1 (timers_at image at) ≡ false → OtherTimers image at
unfit-other image at h = go (eqb (get 1 image (at + 25)) 2) refl h
  where
    go : (b : Bool) → eqb (get 1 image (at + 25)) 2 ≡ b
        → fits_form 1 (if b then stored (get 2 image (at + 26)) (get 2 image (at + 28)) else left_out) ≡ false → OtherTimers image at
    go true e h = (
      eqb-true (get 1 image (at + 25)) 2 e,
      λ seventy. not-both (fits_form 1 (stored (get 2 image (at + 26)) (get 2 image (at + 28)))) (rw (seventy.0, seventy.1)) h,
    )
    go false e h = absurd (not-both true refl h)

other-unfit : (image : List ℕ) (at : ℕ) → OtherTimers image at → fits_form 1 (timers_at image at) ≡ false
other-unfit image at other = rw other.0 (go (eqb (get 2 image (at + 26)) 70) (eqb (get 2 image (at + 28)) 70) refl refl)
  where
    go : (a b : Bool) → eqb (get 2 image (at + 26)) 70 ≡ a → eqb (get 2 image (at + 28)) 70 ≡ b → (a && b) ≡ false
    go false b p q = refl
    go true false p q = refl
    go true true p q = absurd (other.1 (eqb-true (get 2 image (at + 26)) 70 p, eqb-true (get 2 image (at + 28)) 70 q))

-- timers can always be in form 2
unfit-one : (entry_form : ℕ) (t : SavedTimers) → 1 ≤ entry_form → entry_form ≤ 2 → fits_form entry_form t ≡ false → entry_form ≡ 1
unfit-one entry_form t low high h = go (eqb entry_form 2) refl h
  where
    go : (b : Bool) → eqb entry_form 2 ≡ b → (b || (eqb (timers_meant t).0 70 && eqb (timers_meant t).1 70)) ≡ false → entry_form ≡ 1
    go true e h = absurd (not-both true refl h)
    go false e h = let other = eqb-false entry_form 2 e in omega arith

-- ---- 9, and 0

-- a test that does not hold for all of 1, 2, .., n fails for one of them ..
one-fails : (n : ℕ) (f : ℕ → Bool) → every n f ≡ false → (k : ℕ) × (1 ≤ k) × (k ≤ n) × (f k ≡ false)
one-fails zero f h = absurd (not-both true refl h)
one-fails (suc n) f h = go (f (suc n)) refl h (one-fails n f)
  where
    go : (b : Bool) → f (suc n) ≡ b → (b && every n f) ≡ false → (every n f ≡ false → (k : ℕ) × (1 ≤ k) × (k ≤ n) × (f k ≡ false))
        → (k : ℕ) × (1 ≤ k) × (k ≤ suc n) × (f k ≡ false)
    go false e h rest = (suc n, omega arith, omega arith, e)
    go true e h rest = let r = rest h in (r.0, r.1, omega (arith, r.2), r.3)

-- .. and the way back
fails-every : (n : ℕ) (f : ℕ → Bool) (k : ℕ) → 1 ≤ k → k ≤ n → f k ≡ false → every n f ≡ false
fails-every n f k low high e = go (every n f) refl
  where
    go : (b : Bool) → every n f ≡ b → b ≡ false
    go false h = refl
    go true h = absurd (not-both (f k) (every-all n f h k low high) e)

-- of four checks the last decides: the first three hold
last-decides : (a b c d : Bool) → first_failed ((a, 2) ∷ (b, 5) ∷ (c, 6) ∷ (d, 9) ∷ []) ≡ 9 → (a ≡ true) × (b ≡ true) × (c ≡ true) × (d ≡ false)
last-decides false b c d h = absurd (omega arith)
last-decides true false c d h = absurd (omega arith)
last-decides true true false d h = absurd (omega arith)
last-decides true true true false h = (refl, refl, refl, refl)
last-decides true true true true h = absurd (omega arith)

-- THEOREM: "going back from timers other than 70 and 70 is answer 9, after 6", and nothing else is.
pub nine-exactly : (entry_form : ℕ) (image : List ℕ) (used : ℕ)
    → (first_failed (convert_checks entry_form image used) ≡ 9)
    ↔ ((used ≤ length image) × (entry_form ≡ 1) × (readable image used ≡ true) × HasOtherTimers image used)
nine-exactly entry_form image used = (
  λ h.
      let holds : ℕ → Bool = λ k. fits_form entry_form (entry_timers image k) in
      let parts = last-decides (leb used (length image)) (between 1 entry_form 2) (readable image used) (every (entries used) holds) h in
      let within = between-true 1 entry_form 2 parts.1 in
      let fails = one-fails (entries used) holds parts.3 in
      let k = fails.0 in
      let one = unfit-one entry_form (entry_timers image k) within.0 within.1 fails.3 in
      let unfit = subst (λ (x : ℕ). fits_form x (entry_timers image k) ≡ false) one fails.3 in
      (leb-true used (length image) parts.0, one, parts.2, (k, fails.1, fails.2, unfit-other image (560 * (k - 1)) unfit)),
  λ h.
      let k = h.3.0 in
      let unfit = other-unfit image (560 * (k - 1)) h.3.3 in
      let some = fails-every (entries used) (λ x. fits_form 1 (entry_timers image x)) k h.3.1 h.3.2 unfit in
      rw (le-leb used (length image) h.0, h.1, h.2, some),
)

-- THEOREM: every other conversion of a readable image is accepted.
module _ (image : List ℕ) (used : ℕ) (fits : used ≤ length image) (r : readable image used ≡ true) where
  pub convert-to-two : first_failed (convert_checks 2 image used) ≡ 0
  convert-to-two =
      pass_all (convert_checks 2 image used)
      (le-leb used (length image) fits, (refl, (r, (all-every (entries used) (λ k. fits_form 2 (entry_timers image k)) (λ k low high. refl), tt))))

  pub convert-to-one : (HasOtherTimers image used → ⊥) → first_failed (convert_checks 1 image used) ≡ 0
  convert-to-one none =
      pass_all (convert_checks 1 image used)
      (le-leb used (length image) fits, (refl, (r, (all-every (entries used) (λ k. fits_form 1 (entry_timers image k)) each, tt))))
    where
      each : (k : ℕ) → 1 ≤ k → k ≤ entries used → fits_form 1 (entry_timers image k) ≡ true
      each k low high = go (fits_form 1 (entry_timers image k)) refl
        where
          go : (x : Bool) → fits_form 1 (entry_timers image k) ≡ x → x ≡ true
          go true e = refl
          go false e = absurd (none (k, low, high, unfit-other image (560 * (k - 1)) e))

-- what the checks state of a conversion that they accept
pub record ConvertAccepted (entry_form : ℕ) (image : List ℕ) (used : ℕ) : Type 0 where
  pub room : used ≤ length image
  pub readable_before : readable image used ≡ true
  pub timers_fit : (k : ℕ) → 1 ≤ k → k ≤ used / 560 → fits_form entry_form (entry_timers image k) ≡ true

pub convert-accepted : (entry_form : ℕ) (image : List ℕ) (used : ℕ) → first_failed (convert_checks entry_form image used) ≡ 0 → ConvertAccepted entry_form image used
convert-accepted entry_form image used e =
    let pass = all_pass 9 (convert_checks entry_form image used) (convert-numbered entry_form image used) e in
    record {
      room = leb-true used (length image) pass.0;
      readable_before = pass.1.1.0;
      timers_fit = every-all (entries used) (λ k. fits_form entry_form (entry_timers image k)) pass.1.1.1.0;
    }

-- One step along the chain, as the code makes it, and readability as the test of the whole chain.
use Rattle.std.specs.Simd.{first_chunks}
use mathlib.Core.Path.{◌≡◌, refl, sym, ap, ◌∙◌}
use mathlib.Core.Bool.{Bool, true, false, ◌&&◌}
use Prim.Native.Nat.{ℕ, zero, suc, ◌+◌, ◌-◌, ◌*◌, ◌%◌, ◌≤◌, ◌<◌}
use native.Mathlib.Omega.{arith}
use mathlib.Core.List.{List}
use lib.ListN.{get_or, take, drop}
use lib.Seq.{drop-drop}
use lib.Dec.{eqb}
use borrow.Author.Tests.{eq-eqb, ne_eqb, le-leb, lt-leb}
use Rattle.wire.specs.Numbers.{get}
use Rattle.wire.specs.Parts.{part}
use Rattle.model.specs.Sizes.{trailer_size, entry_size, entry_limit}
use Rattle.model.specs.Image.{form_of, Saved, saved_at, trailer_place, no_trailer, previous_place, link_place, entry_holds, entries, newest_in, readable_under, readable, chain_holds, chain_form}
use Rattle.image.specs.EntryTests.{NewestIs}
use Rattle.model.proofs.EntryLaws.{saved-at}
use Rattle.model.proofs.ImageLaws.{chain-every, newest-at}

-- an entry as one of the chunks that a chain is cut into
pub chunk-at : (n k : ℕ) (image d : List ℕ) → k < n → get_or (first_chunks entry_size n image) k d ≡ part image (entry_size * k) entry_size
chunk-at zero k image d h = absurd (omega arith)
chunk-at (suc n) zero image d h = refl
chunk-at (suc n) (suc k) image d h =
    chunk-at n k (drop entry_size image) d (omega arith)
    ∙ ap (take entry_size) (drop-drop (entry_size * k) entry_size image)
    ∙ ap (λ (at : ℕ). part image at entry_size) (omega arith)

-- what an entry saves, read from the run that begins with it
pub last-saved : (image : List ℕ) (at : ℕ) → saved_at (drop at image) 0 ≡ saved_at image at
last-saved image at = sym (saved-at (drop at image) 0) ∙ saved-at image at

module _ (newest : Saved) (image : List ℕ) where
  pub chain-none : (k at : ℕ) → k ≡ 0 → eqb at no_trailer ≡ chain_holds newest image k at
  unfolding chain_holds
  chain-none k at e = ap (λ (n : ℕ). chain_holds newest image n at) (sym e)

  -- entry k, and the chain from the place that its trailer points to
  chain-turn : (k at : ℕ) → 1 ≤ k
      → chain_holds newest image k at ≡ (eqb at (trailer_place k) && entry_holds newest image k && chain_holds newest image (k - 1) (get 4 image (at + link_place)))
  unfolding chain_holds
  chain-turn zero at h = absurd (omega arith)
  chain-turn (suc k) at h =
      ap (λ (n : ℕ). eqb at (trailer_place (suc k)) && entry_holds newest image (suc k) && chain_holds newest image n (get 4 image (at + link_place))) (less k)
    where
      less : (k : ℕ) → k ≡ suc k - 1
      less k = omega arith

  pub chain-astray : (k at : ℕ) → 1 ≤ k → (at ≡ trailer_place k → ⊥) → false ≡ chain_holds newest image k at
  chain-astray k at h ne = sym (chain-turn k at h ∙ rw (ne_eqb at (trailer_place k) ne))

  pub chain-broken : (k at : ℕ) → 1 ≤ k → at ≡ trailer_place k → entry_holds newest image k ≡ false → false ≡ chain_holds newest image k at
  chain-broken k at h e f = sym (chain-turn k at h ∙ rw (eq-eqb at (trailer_place k) e, f))

  pub chain-on : (k at : ℕ) → 1 ≤ k → at ≡ trailer_place k → entry_holds newest image k ≡ true
      → chain_holds newest image (k - 1) (get 4 image (at + link_place)) ≡ chain_holds newest image k at
  chain-on k at h e t = sym (chain-turn k at h ∙ rw (eq-eqb at (trailer_place k) e, t))

-- ---- readable

module _ (image : List ℕ) (used : ℕ) where
  pub readable-uneven : (used % entry_size ≡ 0 → ⊥) → false ≡ readable image used
  unfolding readable_under
  readable-uneven ne = rw (ne_eqb (used % entry_size) 0 ne)

  pub readable-long : used % entry_size ≡ 0 → entry_size * entry_limit < used → false ≡ readable image used
  unfolding readable_under
  readable-long e h = rw (eq-eqb (used % entry_size) 0 e, lt-leb used (entry_size * entry_limit) h)

  pub readable-empty : used ≡ 0 → true ≡ readable image used
  unfolding readable_under
  readable-empty e = ap (λ (n : ℕ). readable image n) (sym e)

  -- the answer of a chain test that gets only the newest entry's N and form
  pub readable-chain : used % entry_size ≡ 0 → used ≤ entry_size * entry_limit → 1 ≤ used → (answer : Bool)
      → (let s = saved_at image (used - entry_size) in (newest : Saved) → NewestIs newest s.native (form_of s.timers) → answer ≡ chain_holds newest image (entries used) (used - trailer_size))
      → answer ≡ readable image used
  unfolding readable_under
  readable-chain e h some answer holds =
      let n = entries used in
      let whole : used ≡ entry_size * n = omega arith in
      let last : previous_place (suc n) ≡ used - trailer_size = rw (ne_eqb (suc n) 1 (λ x. omega arith)) (omega arith) in
      let same = newest-at image used e (omega arith) in
      holds (newest_in image used) (ap (λ (s : Saved). s.native) same, ap (λ (s : Saved). form_of s.timers) same)
      ∙ ap (chain_holds (newest_in image used) image n) (sym last)
      ∙ chain-every (newest_in image used) image n (omega arith)
      ∙ sym (rw (eq-eqb (used % entry_size) 0 e, le-leb used (entry_size * entry_limit) h))

  -- the form of the chain
  pub form-empty : used ≡ 0 → 2 ≡ chain_form image used
  form-empty e = rw (eq-eqb used 0 e)

  pub form-newest : used % entry_size ≡ 0 → (used ≡ 0 → ⊥) → form_of (saved_at image (used - entry_size)).timers ≡ chain_form image used
  form-newest e some = sym (rw (ne_eqb used 0 some, newest-at image used e (omega arith)))

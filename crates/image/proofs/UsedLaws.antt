-- An image up to its used length says what the image says: the bytes after it do not matter.
use Rattle.std.specs.Prelude.{if◌then◌else◌}
use mathlib.Core.Path.{◌≡◌, refl, ap, ◌∙◌}
use mathlib.Core.Bool.{Bool, true, false, ◌&&◌, ◌||◌}
use Prim.Native.Nat.{ℕ, zero, suc, ◌-◌, ◌*◌, ◌%◌, ◌+◌, ◌≤◌}
use native.Mathlib.Omega.{arith}
use mathlib.Core.List.{List}
use lib.ListN.{length, take}
use lib.Seq.{length-take-le}
use lib.Dec.{eqb, leb}
use borrow.Author.Tests.{eqb-false}
use Rattle.wire.specs.Parts.{part}
use Rattle.wire.specs.Bytes.{same}
use Rattle.wire.proofs.PartsLaws.{part-part}
use Rattle.model.specs.Sizes.{body_size, trailer_size, entry_size, entry_limit}
use Rattle.model.specs.Image.{form_of, Saved, saved_at, body_holds, trailer_place, trailer_bytes, alike, entry_holds_under, entry_holds, every, entries, newest_in, readable_under, readable, same_disk, chain_form, restored, blank}

module _ (image : List ℕ) (used : ℕ) where
  abbrev chain : List ℕ
  chain = take used image

  within : (at n : ℕ) → at + n ≤ used → part chain at n ≡ part image at n
  within at n h = part-part image 0 used at n h ∙ ap (λ (j : ℕ). part image j n) (omega arith)

  holds_same : (newest : Saved) (k : ℕ) → 1 ≤ k → entry_size * k ≤ used → entry_holds newest chain k ≡ entry_holds newest image k
  unfolding entry_holds_under
  holds_same newest k low h =
      let body = within (trailer_place k - body_size) body_size (omega arith) in
      let trailer = within (trailer_place k) trailer_size (omega arith) in
      λ i. body_holds (body i) && alike newest (saved_at (body i) 0) && same (trailer i) (trailer_bytes k)

  every_same : (newest : Saved) (n : ℕ) → entry_size * n ≤ used → every n (entry_holds newest chain) ≡ every n (entry_holds newest image)
  every_same newest zero h = refl
  every_same newest (suc n) h =
      let first = holds_same newest (suc n) (omega arith) h in
      let rest = every_same newest n (omega arith) in
      λ i. first i && rest i

  newest_same : entry_size ≤ used → newest_in chain used ≡ newest_in image used
  newest_same some = ap (λ (b : List ℕ). saved_at b 0) (within (trailer_place (entries used) - body_size) body_size (omega arith))

  readable_same : readable chain used ≡ readable image used
  unfolding readable_under
  readable_same = ap (λ (b : Bool). eqb (used % entry_size) 0 && leb used (entry_size * entry_limit) && b) (go (entries used) (omega arith))
    where
      go : (n : ℕ) → entry_size * n ≤ used → every n (entry_holds (newest_in chain used) chain) ≡ every n (entry_holds (newest_in image used) image)
      go zero h = refl
      go (suc n) h = ap (λ (s : Saved). every (suc n) (entry_holds s chain)) (newest_same (omega arith)) ∙ every_same (newest_in image used) (suc n) h

  -- what is decided by the newest entry, if there is one
  by_newest : {A : Type 0} (f : Saved → A) (d : A) → used % entry_size ≡ 0
      → (if eqb used 0 then d else f (newest_in chain used)) ≡ (if eqb used 0 then d else f (newest_in image used))
  by_newest {A} f d whole = go (eqb used 0) refl
    where
      go : (b : Bool) → eqb used 0 ≡ b → (if b then d else f (newest_in chain used)) ≡ (if b then d else f (newest_in image used))
      go true e = refl
      go false e = let some = eqb-false used 0 e in ap f (newest_same (omega (arith, whole, some)))

  disk_same : (native : ℕ) → used % entry_size ≡ 0 → same_disk native chain used ≡ same_disk native image used
  disk_same native whole = go (eqb used 0) refl
    where
      go : (b : Bool) → eqb used 0 ≡ b → (b || eqb (newest_in chain used).native native) ≡ (b || eqb (newest_in image used).native native)
      go true e = refl
      go false e = let some = eqb-false used 0 e in ap (λ (s : Saved). eqb s.native native) (newest_same (omega (arith, whole, some)))

  module _ (fits : used ≤ length image) where
    long : length chain ≡ used
    long = length-take-le used image fits

    -- THE LAWS: whether it is readable, whether it is this disk's, its form, and what power-on restores
    pub readable-used : readable chain (length chain) ≡ readable image used
    readable-used = ap (readable chain) long ∙ readable_same

    pub whole-used : used % entry_size ≡ 0 → length chain % entry_size ≡ 0
    whole-used whole = ap (λ (n : ℕ). n % entry_size) long ∙ whole

    pub disk-used : (native : ℕ) → used % entry_size ≡ 0 → same_disk native chain (length chain) ≡ same_disk native image used
    disk-used native whole = ap (same_disk native chain) long ∙ disk_same native whole

    pub form-used : used % entry_size ≡ 0 → chain_form chain (length chain) ≡ chain_form image used
    form-used whole = ap (chain_form chain) long ∙ by_newest (λ (s : Saved). form_of s.timers) 2 whole

    pub restored-used : (native : ℕ) → used % entry_size ≡ 0 → restored native chain (length chain) ≡ restored native image used
    unfolding restored
    restored-used native whole = ap (restored native chain) long ∙ by_newest (λ (s : Saved). s) (blank native) whole

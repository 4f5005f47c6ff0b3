-- Laws of the saved image: every entry, the chain of trailers, and the form of a readable image.
use mathlib.Core.Path.{◌≡◌, refl, sym, ap, ap₂, ◌∙◌, subst}
use mathlib.Core.Bool.{Bool, true, false, ◌&&◌}
use Prim.Native.Nat.{ℕ, zero, suc, ◌+◌, ◌-◌, ◌*◌, ◌%◌, ◌≤◌, ◌<◌}
use native.Mathlib.Nat.{add-zero}
use native.Mathlib.Omega.{arith}
use mathlib.Core.List.{List, ◌++◌}
use lib.ListN.{length, drop, length-take, length-drop}
use lib.Seq.{take-add, drop-drop}
use lib.Dec.{eqb, leb}
use borrow.Author.Tests.{eqb-true, eqb-false, leb-true, eq-eqb, ne_eqb, le-leb}
use Rattle.wire.specs.Numbers.{get}
use Rattle.wire.specs.Parts.{part}
use Rattle.wire.specs.Bytes.{Bytes, same}
use Rattle.wire.proofs.ChoiceLaws.{and_left, and_right, and_both, and-three, three-and}
use Rattle.wire.proofs.PartsLaws.{length_part, part-part, get-part, part-append-left, part-append-right}
use Rattle.wire.proofs.BytesLaws.{bytes-part, same_refl, same_true}
use Rattle.model.specs.Sizes.{body_size, trailer_size, entry_size, entry_limit}
use Rattle.model.specs.Image.{Saved, body_bytes, timers_at, saved_at, in_range, body_holds_under, body_holds, trailer_place, previous_place, link_place, trailer_bytes, body_at, trailer_at, alike, entry_holds_under, entry_holds, every, entries, newest_in, readable_under, readable, chain_holds, same_disk}
use Rattle.model.specs.ImageForm.{AreAlike, EntryForm, ImageForm}
use Rattle.model.proofs.EntryFormat.{get-trailer, trailer-fields}
use Rattle.model.proofs.EntryLaws.{length-body, length-trailer, saved-back, saved-at, body-holds, read_fits, alike-parts, parts-alike, alike-others}

-- ---- every entry, and the chain of trailers

pub every-all : (n : ℕ) (f : ℕ → Bool) → every n f ≡ true → (k : ℕ) → 1 ≤ k → k ≤ n → f k ≡ true
every-all zero f h k low high = absurd (omega arith)
every-all (suc n) f h k low high = go (eqb k (suc n)) refl (every-all n f (and_right (f (suc n)) (every n f) h) k low)
  where
    go : (b : Bool) → eqb k (suc n) ≡ b → (k ≤ n → f k ≡ true) → f k ≡ true
    go true e rest = ap f (eqb-true k (suc n) e) ∙ and_left (f (suc n)) (every n f) h
    go false e rest = rest (let other = eqb-false k (suc n) e in omega arith)

pub all-every : (n : ℕ) (f : ℕ → Bool) → ((k : ℕ) → 1 ≤ k → k ≤ n → f k ≡ true) → every n f ≡ true
all-every zero f h = refl
all-every (suc n) f h =
    and_both (f (suc n)) (every n f) (h (suc n) (omega arith) (omega arith)) (all-every n f (λ k low high. h k low (omega arith)))

-- the previous trailer of entry k + 1 is trailer k
previous-place : (k : ℕ) → 1 ≤ k → previous_place (suc k) ≡ trailer_place k
previous-place k h = rw (ne_eqb (suc k) 1 (omega arith)) (omega arith)

trailer-reads : (k : ℕ) → k ≤ entry_limit → get 4 (trailer_bytes k) link_place ≡ previous_place k
trailer-reads k h = get-trailer k link_place (omega arith) ∙ (trailer-fields k (omega arith)).1.0

-- what the test of an entry states
pub entry-held : (newest : Saved) (image : List ℕ) (k : ℕ) → entry_holds newest image k ≡ true
    → (body_holds (body_at image k) ≡ true) × AreAlike newest (saved_at (body_at image k) 0) × (trailer_at image k ≡ trailer_bytes k)
unfolding entry_holds_under
entry-held newest image k h =
    let body = body_at image k in
    let parts = and-three (body_holds body) (alike newest (saved_at body 0)) (same (trailer_at image k) (trailer_bytes k)) h in
    (parts.0, alike-parts newest (saved_at body 0) parts.1, same_true (trailer_at image k) (trailer_bytes k) parts.2)

-- whether an entry holds is the same for two newest entries that are alike
pub holds-alike : (a b : Saved) (image : List ℕ) (k : ℕ) → AreAlike a b → entry_holds a image k ≡ entry_holds b image k
unfolding entry_holds_under
holds-alike a b image k r = rw (alike-others a b (saved_at (body_at image k) 0) r)

-- "follows the chain back": the trailer of an entry that holds points to the trailer before it
previous-read : (newest : Saved) (image : List ℕ) (k : ℕ) → k ≤ entry_limit → entry_holds newest image k ≡ true
    → get 4 image (trailer_place k + link_place) ≡ previous_place k
previous-read newest image k h e =
    sym (get-part 4 image (trailer_place k) trailer_size link_place (omega arith))
    ∙ ap (λ (l : List ℕ). get 4 l link_place) (entry-held newest image k e).2
    ∙ trailer-reads k h

-- The recursion from the last trailer is true exactly if every entry holds.
pub chain-every : (newest : Saved) (image : List ℕ) (n : ℕ) → n ≤ entry_limit
    → chain_holds newest image n (previous_place (suc n)) ≡ every n (entry_holds newest image)
unfolding chain_holds
chain-every newest image zero h = refl
chain-every newest image (suc k) h =
    ap (λ (at : ℕ). chain_holds newest image (suc k) at) (previous-place (suc k) (omega arith))
    ∙ rw (eq-eqb (trailer_place (suc k)) (trailer_place (suc k)) refl) (go (entry_holds newest image (suc k)) refl (chain-every newest image k (omega arith)))
  where
    go : (b : Bool) → entry_holds newest image (suc k) ≡ b → chain_holds newest image k (previous_place (suc k)) ≡ every k (entry_holds newest image)
        → (b && chain_holds newest image k (get 4 image (trailer_place (suc k) + link_place))) ≡ (b && every k (entry_holds newest image))
    go false e rest = refl
    go true e rest = rw (previous-read newest image (suc k) h e) rest

-- ---- the form of an image

-- the places of a body and of a trailer, from the entry's first byte
body-place : (k : ℕ) → 1 ≤ k → trailer_place k - body_size ≡ entry_size * (k - 1)
body-place k h = omega arith

trailer-place : (k : ℕ) → 1 ≤ k → trailer_place k ≡ entry_size * (k - 1) + body_size
trailer-place k h = omega arith

-- an entry is its body and then its trailer
entry-parts : (image : List ℕ) (k : ℕ) → 1 ≤ k → part image (entry_size * (k - 1)) entry_size ≡ body_at image k ++ trailer_at image k
entry-parts image k h =
    take-add body_size trailer_size (drop (entry_size * (k - 1)) image)
    ∙ rw (drop-drop body_size (entry_size * (k - 1)) image, body-place k h, trailer-place k h)

-- the body and the trailer of an entry that has the form
body-formed : (newest : Saved) (image : List ℕ) (k : ℕ) → 1 ≤ k → (e : EntryForm newest image k) → body_at image k ≡ body_bytes e.saved
body-formed newest image k h e =
    ap (λ (at : ℕ). part image at body_size) (body-place k h ∙ sym (add-zero (entry_size * (k - 1))))
    ∙ sym (part-part image (entry_size * (k - 1)) entry_size 0 body_size (omega arith))
    ∙ ap (λ (l : List ℕ). part l 0 body_size) e.bytes
    ∙ part-append-left (body_bytes e.saved) (trailer_bytes k) body_size (length-body e.saved e.fits.whole)

trailer-formed : (newest : Saved) (image : List ℕ) (k : ℕ) → 1 ≤ k → EntryForm newest image k → trailer_at image k ≡ trailer_bytes k
trailer-formed newest image k h e =
    ap (λ (at : ℕ). part image at trailer_size) (trailer-place k h)
    ∙ sym (part-part image (entry_size * (k - 1)) entry_size body_size trailer_size (omega arith))
    ∙ ap (λ (l : List ℕ). part l body_size trailer_size) e.bytes
    ∙ part-append-right (body_bytes e.saved) (trailer_bytes k) body_size trailer_size (length-body e.saved e.fits.whole) (length-trailer k)

-- what such an entry decodes to, and that it holds
pub form-saved : (newest : Saved) (image : List ℕ) (k : ℕ) → 1 ≤ k → (e : EntryForm newest image k) → saved_at (body_at image k) 0 ≡ e.saved
form-saved newest image k h e = ap (λ (body : List ℕ). saved_at body 0) (body-formed newest image k h e) ∙ saved-back e.saved e.fits

pub form-holds : (newest : Saved) (image : List ℕ) (k : ℕ) → 1 ≤ k → EntryForm newest image k → entry_holds newest image k ≡ true
unfolding entry_holds_under
form-holds newest image k h e =
    three-and (body_holds (body_at image k)) (alike newest (saved_at (body_at image k) 0)) (same (trailer_at image k) (trailer_bytes k))
    (rw (body-formed newest image k h e) (body-holds e.saved e.fits e.ranged))
    (rw (form-saved newest image k h e) (parts-alike newest e.saved e.like))
    (rw (trailer-formed newest image k h e) (same_refl (trailer_bytes k)))

-- a part that has its full length is within the run
part-within : (l : List ℕ) (b n : ℕ) → 0 < n → length (part l b n) ≡ n → b + n ≤ length l
part-within l b n p e = omega (arith, rw (length-take, length-drop) at e)

-- a body that holds is the body of the values that it decodes to, and they are in range
body-parts : (b : List ℕ) → body_holds b ≡ true → (body_bytes (saved_at b 0) ≡ b) × (in_range (saved_at b 0) ≡ true)
unfolding body_holds_under
body-parts b h =
    let again = same (body_bytes (saved_at b 0)) b in
    (same_true (body_bytes (saved_at b 0)) b (and_left again (in_range (saved_at b 0)) h), and_right again (in_range (saved_at b 0)) h)

-- an entry that holds has the form
pub holds-form : (newest : Saved) (image : List ℕ) (k : ℕ) → 1 ≤ k → Bytes image → entry_holds newest image k ≡ true → EntryForm newest image k
holds-form newest image k h b e =
    let parts = entry-held newest image k e in
    let body = body-parts (body_at image k) parts.0 in
    let within = part-within image (trailer_place k) trailer_size (omega arith) (ap length parts.2 ∙ length-trailer k) in
    record {
      saved = saved_at (body_at image k) 0;
      fits =
          read_fits (body_at image k) (bytes-part image (trailer_place k - body_size) body_size b)
          (length_part image (trailer_place k - body_size) body_size (omega arith));
      ranged = body.1;
      like = parts.1;
      bytes = entry-parts image k h ∙ ap₂ (λ (x y : List ℕ). x ++ y) (sym body.0) parts.2;
    }

-- the three parts of a readable image
pub record Readable (image : List ℕ) (used : ℕ) : Type 0 where
  pub multiple : used % entry_size ≡ 0
  pub most : used ≤ entry_size * entry_limit
  pub each : (k : ℕ) → 1 ≤ k → k ≤ entries used → entry_holds (newest_in image used) image k ≡ true

pub readable-parts : (image : List ℕ) (used : ℕ) → readable image used ≡ true → Readable image used
unfolding readable_under
readable-parts image used h =
    let holds = entry_holds (newest_in image used) image in
    let parts = and-three (eqb (used % entry_size) 0) (leb used (entry_size * entry_limit)) (every (entries used) holds) h in
    record {
      multiple = eqb-true (used % entry_size) 0 parts.0;
      most = leb-true used (entry_size * entry_limit) parts.1;
      each = every-all (entries used) holds parts.2;
    }

pub parts-readable : (image : List ℕ) (used : ℕ) → Readable image used → readable image used ≡ true
unfolding readable_under
parts-readable image used r =
    let holds = entry_holds (newest_in image used) image in
    three-and (eqb (used % entry_size) 0) (leb used (entry_size * entry_limit)) (every (entries used) holds)
    (eq-eqb (used % entry_size) 0 r.multiple)
    (le-leb used (entry_size * entry_limit) r.most)
    (all-every (entries used) holds r.each)

-- THEOREM: an image of bytes is readable exactly if it has the form.
pub readable-form : (image : List ℕ) (used : ℕ) → Bytes image → readable image used ≡ true → ImageForm image used
readable-form image used b h =
    let r = readable-parts image used h in
    let multiple = r.multiple in
    let most = r.most in
    record {
      newest = newest_in image used;
      number = entries used;
      used_length = omega arith;
      most = omega arith;
      each = λ k low high. holds-form (newest_in image used) image k low b (r.each k low high);
    }

-- the newest entry of an image of the form is like its entries
pub newest-like : (image : List ℕ) (used : ℕ) (f : ImageForm image used) → 1 ≤ f.number → AreAlike f.newest (newest_in image used)
newest-like image used f h =
    let number : entries used ≡ f.number = omega (arith, f.used_length) in
    let e = f.each f.number h (omega arith) in
    subst (AreAlike f.newest)
    (sym (ap (λ (n : ℕ). saved_at (body_at image n) 0) number ∙ form-saved f.newest image f.number h e))
    e.like

pub form-readable : (image : List ℕ) (used : ℕ) → ImageForm image used → readable image used ≡ true
form-readable image used f =
    parts-readable image used
    (
    record {
      multiple = omega (arith, f.used_length);
      most = omega (arith, f.used_length, f.most);
      each =
          λ k low high.
          sym (holds-alike f.newest (newest_in image used) image k (newest-like image used f (omega (arith, number))))
          ∙ form-holds f.newest image k low (f.each k low (rw number at high));
    }
    )
  where
    number : entries used ≡ f.number
    number = omega (arith, f.used_length)

-- ---- the newest entry

-- .. is the last 560 bytes of the used length
pub newest-at : (image : List ℕ) (used : ℕ) → used % entry_size ≡ 0 → entry_size ≤ used → newest_in image used ≡ saved_at image (used - entry_size)
newest-at image used whole some = saved-at image (trailer_place (entries used) - body_size) ∙ ap (saved_at image) (omega arith)

-- the timers that it holds
pub newest-timers-at : (image : List ℕ) (used : ℕ) → used % 560 ≡ 0 → 560 ≤ used → (newest_in image used).timers ≡ timers_at image (used - 560)
unfolding saved_at
newest-timers-at image used whole some = ap (λ (s : Saved). s.timers) (newest-at image used whole some)

-- "newest entry's N is not this disk's": N is its first field
newest-native : (image : List ℕ) (used : ℕ) → used % 560 ≡ 0 → 560 ≤ used → (newest_in image used).native ≡ get 8 image (used - 560)
unfolding saved_at
newest-native image used whole some = ap (λ (s : Saved). s.native) (newest-at image used whole some) ∙ ap (get 8 image) (add-zero (used - 560))

pub other-disk : (native : ℕ) (image : List ℕ) (used : ℕ) → used % 560 ≡ 0 → 560 ≤ used → (get 8 image (used - 560) ≡ native → ⊥) → same_disk native image used ≡ false
other-disk native image used whole some ne =
    rw (ne_eqb used 0 (λ e. omega arith), newest-native image used whole some, ne_eqb (get 8 image (used - 560)) native ne)

pub own-disk : (native : ℕ) (image : List ℕ) (used : ℕ) → used % 560 ≡ 0 → 560 ≤ used → get 8 image (used - 560) ≡ native → same_disk native image used ≡ true
own-disk native image used whole some e =
    rw (ne_eqb used 0 (λ z. omega arith), newest-native image used whole some, eq-eqb (get 8 image (used - 560)) native e)

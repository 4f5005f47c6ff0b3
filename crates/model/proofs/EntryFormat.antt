-- The bytes of an entry of the saved image: what is at each place that document 01 names, and what a device saves.
use Rattle.std.specs.Prelude.{if◌then◌else◌}
use mathlib.Core.Path.{◌≡◌, refl, ◌∙◌}
use mathlib.Core.Bool.{Bool, true, false, ◌||◌}
use Prim.Native.Nat.{ℕ, ◌+◌, ◌-◌, ◌*◌, ◌^◌, ◌≤◌, ◌<◌}
use native.Mathlib.Omega.{arith}
use mathlib.Core.List.{List, [], ◌∷◌}
use lib.ListN.{length, get_or, get_or-append}
use lib.Dec.{eqb, ltb}
use borrow.Author.Tests.{le-ltb, eq-eqb, ne_eqb}
use Rattle.wire.specs.Choice.{bit}
use Rattle.wire.specs.Numbers.{get}
use Rattle.wire.specs.Parts.{part}
use Rattle.wire.specs.Layout.{form, Reads, outside}
use Rattle.wire.proofs.ChoiceLaws.{below, below_all}
use Rattle.wire.proofs.NumbersLaws.{get-append-left}
use Rattle.wire.proofs.PartsLaws.{part-append-right}
use Rattle.wire.proofs.LayoutLaws.{length-form, reads-form, form-outside}
use Rattle.model.specs.Sizes.{sector_size}
use Rattle.model.specs.Device.{Device}
use Rattle.model.specs.Temperature.{table_bytes}
use Rattle.model.specs.Image.{left_out, stored, Saved, saved_from, zeros_place, head_size, head_fields, body_bytes, tag, trailer_place, no_trailer, link_place, number_place, tag_place, trailer_fields, trailer_bytes}
use Rattle.model.specs.ImageForm.{SavedFits}
use Rattle.model.proofs.EntryLaws.{TimersHeld, timers-held, length-table, length-body, length-trailer, head-reads}

-- ---- what a device saves

-- s is what is saved of d; its timers by the form, in numbers
pub record SavedIs (entry_form : ℕ) (d : Device) (s : Saved) : Type 0 where
  pub sizes : (s.native ≡ d.native) × (s.visible ≡ d.visible)
  pub initialized : s.initialized ≡ d.initialized
  pub life_maximum : s.life_maximum ≡ d.thermal.life_maximum
  pub write_cache : s.write_cache ≡ d.settings.write_cache
  pub reordering : s.reordering ≡ d.settings.reordering
  pub log_interval : s.log_interval ≡ d.settings.log_interval
  pub history : s.history ≡ d.thermal.history
  pub index : s.index ≡ d.thermal.index
  -- W-204: "form 1 leaves the timers out"
  pub timers_left_out : entry_form ≡ 1 → s.timers ≡ left_out
  pub timers_stored : entry_form ≡ 2 → s.timers ≡ stored d.settings.read_timer d.settings.write_timer

pub saved-from : (entry_form : ℕ) (d : Device) → SavedIs entry_form d (saved_from entry_form d)
unfolding saved_from
saved-from entry_form d =
    record {
      sizes = (refl, refl);
      initialized = refl;
      life_maximum = refl;
      write_cache = refl;
      reordering = refl;
      log_interval = refl;
      history = refl;
      index = refl;
      timers_left_out = λ e. rw e;
      timers_stored = λ e. rw e;
    }

-- ---- the body

-- "Body: N at 0 and V at 8 (8 bytes each), flag 16, life maximum 17, features 1 to 3 at 18, 20, 22,
-- kept marks in bits 0 to 2 of byte 24, zeros to 31, then the temperature table."
pub record BodyAt (s : Saved) (b : List ℕ) : Type 0 where
  pub native : get 8 b 0 ≡ s.native
  pub visible : get 8 b 8 ≡ s.visible
  pub flag : get 1 b 16 ≡ bit s.initialized
  pub life_maximum : get 1 b 17 ≡ s.life_maximum
  pub write_cache : get 2 b 18 ≡ s.write_cache.state
  pub reordering : get 2 b 20 ≡ s.reordering.state
  pub log_interval : get 2 b 22 ≡ s.log_interval.state
  pub options : get 1 b 24 ≡ 1 * bit s.write_cache.persistent + 2 * bit s.reordering.persistent + 4 * bit s.log_interval.persistent
  pub timers : TimersHeld s.timers b
  pub zero : (i : ℕ) → 30 ≤ i → i < 32 → get_or b i 0 ≡ 0
  pub table : part b 32 512 ≡ table_bytes s.log_interval.state s.index s.history
  pub size : length b ≡ 544

-- bytes 30 and 31 belong to no field
head-gap : (s : Saved) → below head_size (λ i. ltb i zeros_place || outside (head_fields s) i) ≡ true
head-gap s = refl

pub body_at : (s : Saved) → SavedFits s → BodyAt s (body_bytes s)
unfolding body_bytes
body_at s f =
    let r = head-reads s f in
    let head = form head_size (head_fields s) in
    let rest = table_bytes s.log_interval.state s.index s.history in
    let size = length-form head_size (head_fields s) in
    record {
      native = r.0;
      visible = r.1.0;
      flag = r.1.1.0;
      life_maximum = r.1.1.1.0;
      write_cache = r.1.1.1.1.0;
      reordering = r.1.1.1.1.1.0;
      log_interval = r.1.1.1.1.1.1.0;
      options = r.1.1.1.1.1.1.1.0 ∙ omega arith;
      timers = timers-held s.timers (body_bytes s) r.1.1.1.1.1.1.1.1;
      zero = λ i low high.
          get_or-append head rest 0 i (rw size high)
          ∙ form-outside head_size (head_fields s) i
          (rw (le-ltb i zeros_place low) at (below_all head_size (λ j. ltb j zeros_place || outside (head_fields s) j) (head-gap s) i high));
      table = part-append-right head rest head_size sector_size size (length-table s.log_interval.state s.index s.history f.whole);
      size = length-body s f.whole;
    }

-- ---- the trailer

-- "Trailer: 544, the place of the previous trailer (FFFFFFFFh for the first), the entry number from 1 (4 bytes each), then the letters SCTE."
-- "Trailer k stands at 560k - 16."
pub record TrailerAt (k : ℕ) (t : List ℕ) : Type 0 where
  pub body : get 4 t 0 ≡ 544
  pub first_entry : k ≡ 1 → get 4 t 4 ≡ 0xFFFFFFFF
  pub later_entry : 2 ≤ k → get 4 t 4 ≡ 560 * (k - 1) - 16
  pub number : get 4 t 8 ≡ k
  pub letters : part t 12 4 ≡ 0x53 ∷ 0x43 ∷ 0x54 ∷ 0x45 ∷ []
  pub size : length t ≡ 16

-- one number of the trailer, and all three of them
pub get-trailer : (k at : ℕ) → at + 4 ≤ tag_place → get 4 (trailer_bytes k) at ≡ get 4 (form tag_place (trailer_fields k)) at
unfolding trailer_bytes
get-trailer k at h = get-append-left 4 (form tag_place (trailer_fields k)) tag at (rw (length-form tag_place (trailer_fields k)) h)

pub trailer-fields : (k : ℕ) → k ≤ 117 → Reads (trailer_fields k) (form tag_place (trailer_fields k))
trailer-fields k h = reads-form tag_place (trailer_fields k) refl (omega arith, (below (eqb k 1), (omega arith, tt)))
  where
    below : (b : Bool) → (if b then no_trailer else trailer_place (k - 1)) < 256 ^ 4
    below true = omega arith
    below false = omega arith

pub trailer-at : (k : ℕ) → 1 ≤ k → k ≤ 117 → TrailerAt k (trailer_bytes k)
unfolding trailer_bytes
trailer-at k low high =
    let r = trailer-fields k high in
    record {
      body = get-trailer k 0 (omega arith) ∙ r.0;
      first_entry = λ e. get-trailer k link_place (omega arith) ∙ r.1.0 ∙ rw (eq-eqb k 1 e);
      later_entry = λ h. get-trailer k link_place (omega arith) ∙ r.1.0 ∙ rw (ne_eqb k 1 (λ e. omega arith));
      number = get-trailer k number_place (omega arith) ∙ r.1.1.0;
      letters = part-append-right (form tag_place (trailer_fields k)) tag tag_place 4 (length-form tag_place (trailer_fields k)) refl;
      size = length-trailer k;
    }

-- The tests of an entry in place are equivalent to the definition of an entry that holds.
use Rattle.std.specs.Prelude.{if◌then◌else◌}
use mathlib.Core.Path.{◌≡◌, refl, sym, ap, ap₂, ◌∙◌, subst}
use mathlib.Core.Bool.{Bool, true, false, not, ◌&&◌, ◌||◌}
use Prim.Native.Nat.{ℕ, zero, suc, ◌+◌, ◌-◌, ◌*◌, ◌≤◌, ◌<◌}
use native.Mathlib.Omega.{arith}
use native.Mathlib.Nat.{add-zero}
use native.Mathlib.Decide.{dec_lt}
use mathlib.Core.List.{List, ◌++◌}
use lib.ListN.{length, get_or, take, drop, length-take, get_or-eq_default}
use lib.Seq.{take-add, drop-drop}
use lib.Dec.{eqb, leb}
use borrow.Author.Tests.{eqb-true, eq-eqb, leb-true, le-leb}
use Rattle.wire.specs.Choice.{bit}
use Rattle.wire.specs.Numbers.{get}
use Rattle.wire.specs.Parts.{part}
use Rattle.wire.specs.Layout.{form, Reads, outside}
use Rattle.wire.specs.Bytes.{Bytes, same, all_zero}
use Rattle.wire.proofs.ChoiceLaws.{and_left, and_right, and_both, and-three, bit-small, below, below_all, tests_same}
use Rattle.wire.proofs.PartsLaws.{length_part, get_or_part, get-part, part-part, part-append-right}
use Rattle.wire.proofs.LayoutLaws.{length-form}
use Rattle.wire.proofs.FormUnique.{form-unique}
use Rattle.wire.proofs.BytesLaws.{bytes-part, all-zero-true, zero-all-true, same_refl, same_true}
use Rattle.model.specs.Sizes.{sector_size, history_size, body_size, trailer_size, entry_size, entry_limit}
use Rattle.model.specs.Temperature.{table_interval_place, table_index_place, table_head_size, table_bytes}
use Rattle.model.specs.Image.{left_out, stored, Saved, native_place, visible_place, flag_place, life_place, cache_place, reordering_place, interval_place, options_place, form_place, read_timer_place, write_timer_place, zeros_place, head_size, timer_fields, head_fields, body_bytes, has_bit, timers_at, saved_at, in_range, body_holds_under, body_holds, tag, trailer_place, previous_place, link_place, number_place, tag_place, trailer_fields, trailer_bytes, alike, entry_holds_under, entry_holds}
use Rattle.model.proofs.FormatLaws.{table_at}
use Rattle.model.specs.ImageForm.{SavedFits}
use Rattle.model.proofs.EntryLaws.{TimersHeld, saved-at, read_fits}
use Rattle.model.proofs.EntryFormat.{BodyAt, body_at, get-trailer, trailer-fields}
use Rattle.store.specs.RecordTests.{table_fixed}
use Rattle.store.proofs.TableInPlace.{implied, table_is, table-fixed}
use Rattle.store.proofs.RecordTestLaws.{flag-exact}
use Rattle.image.specs.EntryTests.{timers_in_place, body_in_place, trailer_in_place}

-- ---- a body's head

-- a byte below 8 is the encoding of its three options
options-exact : (n : ℕ) → n ≤ 7 → n ≡ bit (has_bit 1 n) + 2 * bit (has_bit 2 n) + 4 * bit (has_bit 4 n)
options-exact zero h = refl
options-exact (suc zero) h = refl
options-exact (suc (suc zero)) h = refl
options-exact (suc (suc (suc zero))) h = refl
options-exact (suc (suc (suc (suc zero)))) h = refl
options-exact (suc (suc (suc (suc (suc zero))))) h = refl
options-exact (suc (suc (suc (suc (suc (suc zero)))))) h = refl
options-exact (suc (suc (suc (suc (suc (suc (suc zero))))))) h = refl
options-exact (suc (suc (suc (suc (suc (suc (suc (suc n)))))))) h = absurd (omega arith)

abbrev zeros_size : ℕ
zeros_size = head_size - zeros_place

-- the zeros of the head are the bytes that belong to no field
head-gap : (s : Saved) → below head_size (λ i. not (outside (head_fields s) i) || leb zeros_place i) ≡ true
head-gap s = refl

module _ (image : List ℕ) (at : ℕ) (b : Bytes image) (fits : at + body_size ≤ length image) where
  abbrev head : List ℕ
  head = part image at head_size

  front : (k i : ℕ) → i + k ≤ head_size → get k head i ≡ get k image (at + i)
  front k i h = get-part k image at head_size i h

  -- byte 25 and the timers are those of what is read from them
  timers-read : timers_in_place image at ≡ true → Reads (timer_fields (timers_at image at)) head
  unfolding timers_in_place
  timers-read h = go (eqb (get 1 image (at + form_place)) 2) refl h
    where
      byte : get 1 head form_place ≡ get 1 image (at + form_place)
      byte = front 1 form_place (omega arith)

      for_read : get 2 head read_timer_place ≡ get 2 image (at + read_timer_place)
      for_read = front 2 read_timer_place (omega arith)

      for_write : get 2 head write_timer_place ≡ get 2 image (at + write_timer_place)
      for_write = front 2 write_timer_place (omega arith)

      none : Bool
      none = eqb (get 1 image (at + form_place)) 0 && eqb (get 2 image (at + read_timer_place)) 0 && eqb (get 2 image (at + write_timer_place)) 0

      go : (b : Bool) → eqb (get 1 image (at + form_place)) 2 ≡ b → (b || none) ≡ true
          → Reads (timer_fields (if b then stored (get 2 image (at + read_timer_place)) (get 2 image (at + write_timer_place)) else left_out)) head
      go true e t = (byte ∙ eqb-true (get 1 image (at + form_place)) 2 e, (for_read, (for_write, tt)))
      go false e t =
          let zero = and-three (eqb (get 1 image (at + form_place)) 0) (eqb (get 2 image (at + read_timer_place)) 0) (eqb (get 2 image (at + write_timer_place)) 0) t in (
            byte ∙ eqb-true (get 1 image (at + form_place)) 0 zero.0,
            (for_read ∙ eqb-true (get 2 image (at + read_timer_place)) 0 zero.1, (for_write ∙ eqb-true (get 2 image (at + write_timer_place)) 0 zero.2, tt)),
          )

  head_read : leb (get 1 image (at + flag_place)) 1 ≡ true → leb (get 1 image (at + options_place)) 7 ≡ true → timers_in_place image at ≡ true
      → Reads (head_fields (saved_at image at)) head
  unfolding saved_at
  head_read flag options timers = (
    front 8 native_place (omega arith),
    (
      front 8 visible_place (omega arith),
      (
        front 1 flag_place (omega arith) ∙ flag-exact (get 1 image (at + flag_place)) (leb-true (get 1 image (at + flag_place)) 1 flag),
        (
          front 1 life_place (omega arith),
          (
            front 2 cache_place (omega arith),
            (
              front 2 reordering_place (omega arith),
              (
                front 2 interval_place (omega arith),
                (front 1 options_place (omega arith) ∙ options-exact (get 1 image (at + options_place)) (leb-true (get 1 image (at + options_place)) 7 options), timers-read timers),
              ),
            ),
          ),
        ),
      ),
    ),
  )

  head-rest : all_zero (part image (at + zeros_place) zeros_size) ≡ true → (i : ℕ) → outside (head_fields (saved_at image at)) i ≡ true → get_or head i 0 ≡ 0
  head-rest zeroes i out = go (dec_lt i head_size)
    where
      go : Dec (i < head_size) → get_or head i 0 ≡ 0
      go (yes k) =
          let fs = head_fields (saved_at image at) in
          let low = leb-true zeros_place i (implied (outside fs i) (leb zeros_place i) (below_all head_size (λ j. not (outside fs j) || leb zeros_place j) (head-gap (saved_at image at)) i k) out) in
          let place : at + zeros_place + (i - zeros_place) ≡ at + i = omega arith in
          get_or_part image at head_size i k
          ∙ ap (λ (j : ℕ). get_or image j 0) (sym place)
          ∙ sym (get_or_part image (at + zeros_place) zeros_size (i - zeros_place) (omega arith))
          ∙ all-zero-true (part image (at + zeros_place) zeros_size) zeroes (i - zeros_place)
      go (no k) = get_or-eq_default head 0 (rw (length_part image at head_size (omega arith)) (omega arith))

-- ---- the tests of a body, one by one

record BodyTests (image : List ℕ) (at : ℕ) : Type 0 where
  flag : leb (get 1 image (at + flag_place)) 1 ≡ true
  options : leb (get 1 image (at + options_place)) 7 ≡ true
  timers : timers_in_place image at ≡ true
  zeroes : all_zero (part image (at + zeros_place) zeros_size) ≡ true
  fixed : table_fixed image (at + head_size) ≡ true
  interval : get 2 image (at + (head_size + table_interval_place)) ≡ get 2 image (at + interval_place)
  ranged : in_range (saved_at image at) ≡ true

tests-hold : (image : List ℕ) (at : ℕ) → body_in_place image at ≡ true → BodyTests image at
unfolding body_in_place
tests-hold image at h =
    let a = leb (get 1 image (at + flag_place)) 1 in
    let b = leb (get 1 image (at + options_place)) 7 in
    let t = timers_in_place image at in
    let c = all_zero (part image (at + zeros_place) zeros_size) in
    let d = table_fixed image (at + head_size) in
    let e = eqb (get 2 image (at + (head_size + table_interval_place))) (get 2 image (at + interval_place)) in
    let w = and-three (a && b && t && c && d) e (in_range (saved_at image at)) h in
    let v = and-three (a && b && t) c d w.0 in
    let u = and-three a b t v.0 in
    record {
      flag = u.0;
      options = u.1;
      timers = u.2;
      zeroes = v.1;
      fixed = v.2;
      interval = eqb-true (get 2 image (at + (head_size + table_interval_place))) (get 2 image (at + interval_place)) w.1;
      ranged = w.2;
    }

hold-tests : (image : List ℕ) (at : ℕ) → BodyTests image at → body_in_place image at ≡ true
unfolding body_in_place
hold-tests image at t =
    rw (t.flag, t.options, t.timers, t.zeroes, t.fixed, eq-eqb (get 2 image (at + (head_size + table_interval_place))) (get 2 image (at + interval_place)) t.interval, t.ranged)

module _ (image : List ℕ) (at : ℕ) (b : Bytes image) (fits : at + body_size ≤ length image) where
  -- from the tests to the body
  again : BodyTests image at → body_bytes (saved_at image at) ≡ part image at body_size
  unfolding body_bytes saved_at
  again t =
      let s = saved_at image at in
      let front =
      form-unique head_size (head_fields s) (part image at head_size) (bytes-part image at head_size b) (length_part image at head_size (omega arith)) refl
      (head_read image at b fits t.flag t.options t.timers) (head-rest image at b fits t.zeroes) in
      let table = table_is image (at + head_size) b (omega arith) t.fixed in
      sym
      (take-add head_size sector_size (drop at image)
      ∙ ap₂ (λ (x y : List ℕ). x ++ y) front
      (ap (take sector_size) (drop-drop head_size at image)
      ∙ table
      ∙ (λ j. table_bytes ((ap (get 2 image) interval-place ∙ t.interval) j) (get 2 image (index-place j)) (part image (history-place j) history_size))))
    where
      interval-place : at + head_size + table_interval_place ≡ at + (head_size + table_interval_place)
      interval-place = omega arith

      index-place : at + head_size + table_index_place ≡ at + (head_size + table_index_place)
      index-place = omega arith

      history-place : at + head_size + table_head_size ≡ at + (head_size + table_head_size)
      history-place = omega arith

  -- .. and back
  held-in-place : BodyAt (saved_at image at) (part image at body_size) → timers_in_place image at ≡ true
  unfolding timers_in_place saved_at
  held-in-place says = go (eqb (get 1 image (at + form_place)) 2) says.timers
    where
      number : (k i : ℕ) → i + k ≤ body_size → get k image (at + i) ≡ get k (part image at body_size) i
      number k i h = sym (get-part k image at body_size i h)

      go : (b : Bool) → TimersHeld (if b then stored (get 2 image (at + read_timer_place)) (get 2 image (at + write_timer_place)) else left_out) (part image at body_size)
          → (b || (eqb (get 1 image (at + form_place)) 0 && eqb (get 2 image (at + read_timer_place)) 0 && eqb (get 2 image (at + write_timer_place)) 0)) ≡ true
      go true held = refl
      go false held =
          rw (
            eq-eqb (get 1 image (at + form_place)) 0 (number 1 form_place (omega arith) ∙ held.0),
            eq-eqb (get 2 image (at + read_timer_place)) 0 (number 2 read_timer_place (omega arith) ∙ held.1),
            eq-eqb (get 2 image (at + write_timer_place)) 0 (number 2 write_timer_place (omega arith) ∙ held.2),
          )

  -- from a body that holds to the tests
  passes : body_bytes (saved_at image at) ≡ part image at body_size → in_range (saved_at image at) ≡ true → BodyTests image at
  passes again ranged =
      let s = saved_at image at in
      let fit : SavedFits s = subst SavedFits (saved-at image at) (read_fits (part image at body_size) (bytes-part image at body_size b) (length_part image at body_size fits)) in
      let says : BodyAt s (part image at body_size) = subst (BodyAt s) again (body_at s fit) in
      let number : (k i : ℕ) → i + k ≤ body_size → get k image (at + i) ≡ get k (part image at body_size) i = λ k i h. sym (get-part k image at body_size i h) in
      let table : part image (at + head_size) sector_size ≡ table_bytes s.log_interval.state s.index s.history =
      sym (part-part image at body_size head_size sector_size (omega arith)) ∙ says.table in
      let flag : get 1 image (at + flag_place) ≡ bit s.initialized = number 1 flag_place (omega arith) ∙ says.flag in
      let options = number 1 options_place (omega arith) ∙ says.options in
      record {
        flag = le-leb (get 1 image (at + flag_place)) 1 (omega (arith, flag, bit-small s.initialized));
        options =
            le-leb (get 1 image (at + options_place)) 7
            (omega (arith, options, bit-small s.write_cache.persistent, bit-small s.reordering.persistent, bit-small s.log_interval.persistent));
        timers = held-in-place says;
        zeroes =
            zero-all-true (part image (at + zeros_place) zeros_size)
            (λ i h.
            let low : i < zeros_size = omega (arith, rw length-take at h) in
            get_or_part image (at + zeros_place) zeros_size i low
            ∙ ap (λ (j : ℕ). get_or image j 0) (shift i)
            ∙ sym (get_or_part image at body_size (zeros_place + i) (omega arith))
            ∙ says.zero (zeros_place + i) (omega arith) (omega arith));
        fixed = table-fixed image (at + head_size) (omega arith) s.log_interval.state s.index s.history fit.log_interval fit.index fit.whole table;
        interval =
            ap (get 2 image) interval-place
            ∙ sym (get-part 2 image (at + head_size) sector_size table_interval_place (omega arith))
            ∙ ap (λ (l : List ℕ). get 2 l table_interval_place) table
            ∙ (table_at s.log_interval.state s.index s.history fit.log_interval fit.index fit.whole).interval_at
            ∙ sym (number 2 interval_place (omega arith) ∙ says.log_interval);
        ranged = ranged;
      }
    where
      shift : (i : ℕ) → at + zeros_place + i ≡ at + (zeros_place + i)
      shift i = omega arith

      interval-place : at + (head_size + table_interval_place) ≡ at + head_size + table_interval_place
      interval-place = omega arith

  -- THEOREM: a body holds exactly if it passes the tests in place.
  pub body-in-place : body_holds (part image at body_size) ≡ body_in_place image at
  unfolding body_holds_under
  body-in-place =
      ap (λ (s : Saved). same (body_bytes s) (part image at body_size) && in_range s) (saved-at image at)
      ∙ tests_same (same (body_bytes (saved_at image at)) (part image at body_size) && in_range (saved_at image at)) (body_in_place image at) there back
    where
      there : (same (body_bytes (saved_at image at)) (part image at body_size) && in_range (saved_at image at)) ≡ true → body_in_place image at ≡ true
      there e =
          let equal = same (body_bytes (saved_at image at)) (part image at body_size) in
          hold-tests image at
          (passes
          (same_true (body_bytes (saved_at image at)) (part image at body_size) (and_left equal (in_range (saved_at image at)) e))
          (and_right equal (in_range (saved_at image at)) e))

      back : body_in_place image at ≡ true → (same (body_bytes (saved_at image at)) (part image at body_size) && in_range (saved_at image at)) ≡ true
      back e =
          let t = tests-hold image at e in
          and_both (same (body_bytes (saved_at image at)) (part image at body_size)) (in_range (saved_at image at))
          (ap (λ (l : List ℕ). same l (part image at body_size)) (again t) ∙ same_refl (part image at body_size))
          t.ranged

-- ---- a trailer

module _ (image : List ℕ) (at k : ℕ) (b : Bytes image) (fits : at + trailer_size ≤ length image) (high : k ≤ entry_limit) where
  abbrev here : List ℕ
  here = part image at trailer_size

  record TrailerTests : Type 0 where
    size : get 4 image at ≡ body_size
    before : get 4 image (at + link_place) ≡ previous_place k
    named : get 4 image (at + number_place) ≡ k
    letters : part image (at + tag_place) 4 ≡ tag

  trailer-tests : trailer_in_place image at k ≡ true → TrailerTests
  unfolding trailer_in_place
  trailer-tests e =
      let size = eqb (get 4 image at) body_size in
      let before = eqb (get 4 image (at + link_place)) (previous_place k) in
      let w = and-three (size && before) (eqb (get 4 image (at + number_place)) k) (same (part image (at + tag_place) 4) tag) e in
      record {
        size = eqb-true (get 4 image at) body_size (and_left size before w.0);
        before = eqb-true (get 4 image (at + link_place)) (previous_place k) (and_right size before w.0);
        named = eqb-true (get 4 image (at + number_place)) k w.1;
        letters = same_true (part image (at + tag_place) 4) tag w.2;
      }

  tests-trailer : TrailerTests → trailer_in_place image at k ≡ true
  unfolding trailer_in_place
  tests-trailer t =
      rw (eq-eqb (get 4 image at) body_size t.size, eq-eqb (get 4 image (at + link_place)) (previous_place k) t.before, eq-eqb (get 4 image (at + number_place)) k t.named, t.letters)
      (same_refl tag)

  -- every byte before the letters belongs to a field
  none-outside : below tag_place (λ i. not (outside (trailer_fields k) i) || false) ≡ true
  none-outside = refl

  trailer-rest : (i : ℕ) → outside (trailer_fields k) i ≡ true → get_or (part image at tag_place) i 0 ≡ 0
  trailer-rest i out = go (dec_lt i tag_place)
    where
      go : Dec (i < tag_place) → get_or (part image at tag_place) i 0 ≡ 0
      go (yes h) =
          let f : false ≡ true = implied (outside (trailer_fields k) i) false (below_all tag_place (λ j. not (outside (trailer_fields k) j) || false) none-outside i h) out in
          absurd (let z : ◌≡◌ {A = ℕ} 0 1 = cc in omega arith)
      go (no h) = get_or-eq_default (part image at tag_place) 0 (rw (length_part image at tag_place (omega arith)) (omega arith))

  trailer-is : TrailerTests → here ≡ trailer_bytes k
  unfolding trailer_bytes
  trailer-is t =
      let front =
      form-unique tag_place (trailer_fields k) (part image at tag_place) (bytes-part image at tag_place b) (length_part image at tag_place (omega arith)) refl (
        get-part 4 image at tag_place 0 (omega arith) ∙ ap (get 4 image) (add-zero at) ∙ t.size,
        (get-part 4 image at tag_place link_place (omega arith) ∙ t.before, (get-part 4 image at tag_place number_place (omega arith) ∙ t.named, tt)),
      )
      trailer-rest in
      take-add tag_place 4 (drop at image) ∙ ap₂ (λ (x y : List ℕ). x ++ y) front (ap (take 4) (drop-drop tag_place at image) ∙ t.letters)

  is-trailer : here ≡ trailer_bytes k → TrailerTests
  unfolding trailer_bytes
  is-trailer e =
      let r = trailer-fields k (omega arith) in
      let number : (i : ℕ) → i + 4 ≤ tag_place → get 4 image (at + i) ≡ get 4 (form tag_place (trailer_fields k)) i =
      λ i h. sym (get-part 4 image at trailer_size i (omega arith)) ∙ ap (λ (l : List ℕ). get 4 l i) e ∙ get-trailer k i h in
      record {
        size = ap (get 4 image) (sym (add-zero at)) ∙ number 0 (omega arith) ∙ r.0;
        before = number link_place (omega arith) ∙ r.1.0;
        named = number number_place (omega arith) ∙ r.1.1.0;
        letters =
            sym (part-part image at trailer_size tag_place 4 (omega arith))
            ∙ ap (λ (l : List ℕ). part l tag_place 4) e
            ∙ part-append-right (form tag_place (trailer_fields k)) tag tag_place 4 (length-form tag_place (trailer_fields k)) refl;
      }

  -- THEOREM: a trailer is the one of entry k exactly if it passes the tests in place.
  pub trailer-in-place : same here (trailer_bytes k) ≡ trailer_in_place image at k
  trailer-in-place =
      tests_same (same here (trailer_bytes k)) (trailer_in_place image at k)
      (λ e. tests-trailer (is-trailer (same_true here (trailer_bytes k) e)))
      (λ e. ap (λ (l : List ℕ). same l (trailer_bytes k)) (trailer-is (trailer-tests e)) ∙ same_refl (trailer_bytes k))

-- ---- an entry

-- THEOREM: entry k holds exactly if its body and its trailer pass the tests in place and it is like the newest.
pub entry-in-place : (newest : Saved) (image : List ℕ) (at k : ℕ) → Bytes image → 1 ≤ k → k ≤ entry_limit → at ≡ trailer_place k → entry_size * k ≤ length image
    → (body_in_place image (at - body_size) && alike newest (saved_at image (at - body_size)) && trailer_in_place image at k) ≡ entry_holds newest image k
unfolding entry_holds_under
entry-in-place newest image at k b low high e long =
    ap (λ (p : ℕ). body_in_place image (p - body_size) && alike newest (saved_at image (p - body_size)) && trailer_in_place image p k) e
    ∙ rw (
      ← body-in-place image (trailer_place k - body_size) b (omega arith),
      ← trailer-in-place image (trailer_place k) k b (omega arith) high,
      ← saved-at image (trailer_place k - body_size),
    )

-- .. in the entry's own bytes
pub entry-alone : (newest : Saved) (image e : List ℕ) (k : ℕ) → Bytes e → length e ≡ entry_size → 1 ≤ k → k ≤ entry_limit → e ≡ part image (entry_size * (k - 1)) entry_size
    → (body_in_place e 0 && alike newest (saved_at e 0) && trailer_in_place e body_size k) ≡ entry_holds newest image k
unfolding entry_holds_under
entry-alone newest image e k b long low high is =
    sym (λ i. body-in-place e 0 b (omega (arith, long)) i && alike newest (saved-at e 0 i) && trailer-in-place e body_size k b (omega (arith, long)) high i)
    ∙ (λ i. body_holds (body i) && alike newest (saved_at (body i) 0) && same (trailer i) (trailer_bytes k))
  where
    within : (i n at : ℕ) → i + n ≤ entry_size → entry_size * (k - 1) + i ≡ at → part e i n ≡ part image at n
    within i n at h p = ap (λ (l : List ℕ). part l i n) is ∙ part-part image (entry_size * (k - 1)) entry_size i n h ∙ ap (λ (j : ℕ). part image j n) p

    body : part e 0 body_size ≡ part image (trailer_place k - body_size) body_size
    body = within 0 body_size (trailer_place k - body_size) (omega arith) (omega arith)

    trailer : part e body_size trailer_size ≡ part image (trailer_place k) trailer_size
    trailer = within body_size trailer_size (trailer_place k) (omega arith) (omega arith)

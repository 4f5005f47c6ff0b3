-- Laws of one entry of the saved image: its sizes, the ranges of its values, and that what is saved is read back.
use Rattle.std.specs.Prelude.{if◌then◌else◌}
use mathlib.Core.Path.{◌≡◌, refl, sym, ap, ◌∙◌}
use mathlib.Core.Bool.{Bool, true, false, ◌&&◌}
use Prim.Native.Nat.{ℕ, ◌+◌, ◌*◌, ◌^◌, ◌≤◌, ◌<◌}
use native.Mathlib.Omega.{arith}
use mathlib.Core.List.{List, [], ◌++◌, append_assoc}
use lib.ListN.{length, drop, length-append}
use lib.Dec.{eqb, ltb}
use borrow.Author.Tests.{eqb-true, eq-eqb, ltb-true, lt-ltb}
use Rattle.wire.specs.Choice.{bit, between}
use Rattle.wire.specs.Numbers.{get}
use Rattle.wire.specs.Parts.{part}
use Rattle.wire.specs.Layout.{form, Reads}
use Rattle.wire.specs.Bytes.{Bytes}
use Rattle.wire.proofs.ChoiceLaws.{and_left, and_right, and_both, and-three, between-true, between-within, bit-small}
use Rattle.wire.proofs.NumbersLaws.{get-append-right}
use Rattle.wire.proofs.PartsLaws.{length_part, part-part, get-part, part-append-right}
use Rattle.wire.proofs.LayoutLaws.{length-form, reads-form, reads-front}
use Rattle.wire.proofs.BytesLaws.{bytes-nil, bytes-cons, bytes-append, bytes-form, bytes-part, get-fits, same_refl}
use Rattle.model.specs.Sizes.{sector_size, native_limit, history_size, body_size, trailer_size}
use Rattle.model.specs.Key.{timer_named, states_named}
use Rattle.model.proofs.StateLaws.{timer-range, range-timer, states-ranges, ranges-states}
use Rattle.model.specs.Temperature.{table_index_place, table_head_size, table_fields, table_bytes}
use Rattle.model.specs.Image.{SavedTimers, left_out, stored, form_of, timers_in, Saved, native_place, visible_place, flag_place, life_place, cache_place, reordering_place, interval_place, options_place, form_place, form_two_byte, read_timer_place, write_timer_place, head_size, timer_numbers, timer_fields, head_fields, body_bytes, has_bit, timers_at, saved_at, timers_named, in_range_under, in_range, body_holds_under, body_holds, tag, tag_place, trailer_fields, trailer_bytes, alike}
use Rattle.model.specs.ImageForm.{TimersFit, SavedFits, AreAlike}
use Rattle.model.specs.Valid.{TimerValid, StateValid}
use Rattle.model.proofs.FormatLaws.{table-reads, table-bytes}

-- ---- the timers of an entry, in its bytes

-- W-204: "image entries of form 2: byte 25 is 2 and bytes 26 to 29 hold the read and write timers"; "Form 1 has byte 25 = 0"
abbrev pub TimersHeld : SavedTimers → List ℕ → Type 0
TimersHeld left_out b = (get 1 b 25 ≡ 0) × (get 2 b 26 ≡ 0) × (get 2 b 28 ≡ 0)
TimersHeld (stored for_read for_write) b = (get 1 b 25 ≡ 2) × (get 2 b 26 ≡ for_read) × (get 2 b 28 ≡ for_write)

pub timers-held : (t : SavedTimers) (b : List ℕ) → Reads (timer_fields t) b → TimersHeld t b
timers-held left_out b r = (r.0, r.1.0, r.1.1.0)
timers-held (stored for_read for_write) b r = (r.0, r.1.0, r.1.1.0)

-- a fact of timers in an entry of a form: it is one of no timers, and of these timers
pub by_form : (P : SavedTimers → Type 0) (entry_form for_read for_write : ℕ) → P left_out → P (stored for_read for_write) → P (timers_in entry_form for_read for_write)
by_form P entry_form for_read for_write without both = go (eqb entry_form 1)
  where
    go : (b : Bool) → P (if b then left_out else stored for_read for_write)
    go true = without
    go false = both

-- ---- sizes

pub length-table : (i x : ℕ) (h : List ℕ) → length h ≡ history_size → length (table_bytes i x h) ≡ sector_size
unfolding table_bytes
length-table i x h e = length-append (form table_head_size (table_fields i x)) h ∙ rw (length-form table_head_size (table_fields i x), e)

pub length-body : (s : Saved) → length s.history ≡ history_size → length (body_bytes s) ≡ body_size
unfolding body_bytes
length-body s e =
    length-append (form head_size (head_fields s)) (table_bytes s.log_interval.state s.index s.history)
    ∙ rw (length-form head_size (head_fields s), length-table s.log_interval.state s.index s.history e)

pub length-trailer : (k : ℕ) → length (trailer_bytes k) ≡ trailer_size
unfolding trailer_bytes
length-trailer k = length-append (form tag_place (trailer_fields k)) tag ∙ rw (length-form tag_place (trailer_fields k))

-- ---- what is saved is read back

-- byte 25 is a byte
form-byte : (t : SavedTimers) → (timer_numbers t).0 < 256 ^ 1
form-byte left_out = omega arith
form-byte (stored for_read for_write) = omega arith

-- every field of the head is read back from the body
pub head-reads : (s : Saved) → SavedFits s → Reads (head_fields s) (body_bytes s)
unfolding body_bytes
head-reads s f =
    let head = form head_size (head_fields s) in
    reads-front (head_fields s) 0 head_size head (table_bytes s.log_interval.state s.index s.history) refl (rw (length-form head_size (head_fields s)) (omega arith))
    (reads-form head_size (head_fields s) refl
    (f.native, (f.visible, (flag, (f.life_maximum, (f.write_cache, (f.reordering, (f.log_interval, (options, (form-byte s.timers, (f.timers.0, (f.timers.1, tt))))))))))))
  where
    flag : bit s.initialized < 256 ^ 1
    flag = omega (arith, bit-small s.initialized)

    options : bit s.write_cache.persistent + 2 * bit s.reordering.persistent + 4 * bit s.log_interval.persistent < 256 ^ 1
    options = omega (arith, bit-small s.write_cache.persistent, bit-small s.reordering.persistent, bit-small s.log_interval.persistent)

-- .. and the table's index
index_read : (s : Saved) → SavedFits s → get 2 (body_bytes s) (head_size + table_index_place) ≡ s.index
unfolding body_bytes
index_read s f =
    let table = table_bytes s.log_interval.state s.index s.history in
    get-append-right 2 (form head_size (head_fields s)) table head_size table_index_place (length-form head_size (head_fields s))
    ∙ (table-reads s.log_interval.state s.index s.history f.log_interval f.index).1.1.1.1.0

-- the history is read back from the body
part-history : (s : Saved) → length s.history ≡ history_size → part (body_bytes s) (head_size + table_head_size) history_size ≡ s.history
unfolding body_bytes table_bytes
part-history s e =
    let head = form head_size (head_fields s) in
    let table = form table_head_size (table_fields s.log_interval.state s.index) in
    ap (λ (l : List ℕ). part l (head_size + table_head_size) history_size) (sym (append_assoc head table s.history))
    ∙ part-append-right (head ++ table) s.history (head_size + table_head_size) history_size
    (length-append head table ∙ rw (length-form head_size (head_fields s), length-form table_head_size (table_fields s.log_interval.state s.index)))
    e

pub flag-back : (b : Bool) → eqb (bit b) 1 ≡ b
flag-back true = refl
flag-back false = refl

-- three options in one byte
options-back : (a b c : Bool) → let byte = bit a + 2 * bit b + 4 * bit c in (has_bit 1 byte ≡ a) × (has_bit 2 byte ≡ b) × (has_bit 4 byte ≡ c)
options-back true true true = (refl, refl, refl)
options-back true true false = (refl, refl, refl)
options-back true false true = (refl, refl, refl)
options-back true false false = (refl, refl, refl)
options-back false true true = (refl, refl, refl)
options-back false true false = (refl, refl, refl)
options-back false false true = (refl, refl, refl)
options-back false false false = (refl, refl, refl)

-- the timers, from the three numbers that an entry holds of them
timers-back : (t : SavedTimers) (l : List ℕ) → Reads (timer_fields t) l → timers_at l 0 ≡ t
timers-back left_out l r = rw r.0
timers-back (stored for_read for_write) l r = rw (r.0, r.1.0, r.1.1.0)

-- .. and the same numbers give the same timers
pub timers-agree : (k l : List ℕ) (at bt : ℕ) → get 1 k (at + form_place) ≡ get 1 l (bt + form_place) → get 2 k (at + read_timer_place) ≡ get 2 l (bt + read_timer_place)
    → get 2 k (at + write_timer_place) ≡ get 2 l (bt + write_timer_place) → timers_at k at ≡ timers_at l bt
timers-agree k l at bt byte for_read for_write = rw (byte, for_read, for_write)

-- THE LAW of an entry's body, of either form: what is saved is read back.
pub saved-back : (s : Saved) → SavedFits s → saved_at (body_bytes s) 0 ≡ s
unfolding saved_at
saved-back s f =
    let sizes = head-reads s f in
    let features = sizes.1.1.1.1 in
    let flag = ap (λ (x : ℕ). eqb x 1) sizes.1.1.0 ∙ flag-back s.initialized in
    let byte = features.1.1.1.0 in
    let options = options-back s.write_cache.persistent s.reordering.persistent s.log_interval.persistent in
    λ i.
    record {
      native = sizes.0 i;
      visible = sizes.1.0 i;
      initialized = flag i;
      life_maximum = sizes.1.1.1.0 i;
      write_cache = record { state = features.0 i; persistent = (ap (has_bit 1) byte ∙ options.0) i };
      reordering = record { state = features.1.0 i; persistent = (ap (has_bit 2) byte ∙ options.1) i };
      log_interval = record { state = features.1.1.0 i; persistent = (ap (has_bit 4) byte ∙ options.2) i };
      history = part-history s f.whole i;
      index = index_read s f i;
      timers = timers-back s.timers (body_bytes s) features.1.1.1.1 i;
    }

-- .. and a body decodes to the same values, read from it alone or in place
pub saved-at : (run : List ℕ) (at : ℕ) → saved_at (part run at body_size) 0 ≡ saved_at run at
unfolding saved_at
saved-at run at =
    let number : (k i : ℕ) → i + k ≤ body_size → get k (part run at body_size) i ≡ get k run (at + i) = λ k i h. get-part k run at body_size i h in
    let options = number 1 options_place (omega arith) in
    λ j.
    record {
      native = number 8 native_place (omega arith) j;
      visible = number 8 visible_place (omega arith) j;
      initialized = eqb (number 1 flag_place (omega arith) j) 1;
      life_maximum = number 1 life_place (omega arith) j;
      write_cache = record { state = number 2 cache_place (omega arith) j; persistent = has_bit 1 (options j) };
      reordering = record { state = number 2 reordering_place (omega arith) j; persistent = has_bit 2 (options j) };
      log_interval = record { state = number 2 interval_place (omega arith) j; persistent = has_bit 4 (options j) };
      history = part-part run at body_size (head_size + table_head_size) history_size (omega arith) j;
      index = number 2 (head_size + table_index_place) (omega arith) j;
      timers =
          timers-agree (part run at body_size) run 0 at (number 1 form_place (omega arith)) (number 2 read_timer_place (omega arith))
          (number 2 write_timer_place (omega arith)) j;
    }

-- .. and a body of values in range holds
pub body-holds : (s : Saved) → SavedFits s → in_range s ≡ true → body_holds (body_bytes s) ≡ true
unfolding body_holds_under
body-holds s f r = rw (saved-back s f, same_refl (body_bytes s)) r

-- the elements of an entry are bytes
pub bytes-body : (s : Saved) → Bytes s.history → Bytes (body_bytes s)
unfolding body_bytes
bytes-body s b =
    bytes-append (form head_size (head_fields s)) (table_bytes s.log_interval.state s.index s.history) (bytes-form head_size (head_fields s))
    (table-bytes s.log_interval.state s.index s.history b)

pub bytes-trailer : (k : ℕ) → Bytes (trailer_bytes k)
unfolding trailer_bytes
bytes-trailer k = bytes-append (form tag_place (trailer_fields k)) tag (bytes-form tag_place (trailer_fields k)) letters
  where
    letters : Bytes tag
    letters =
        bytes-cons 0x53 (drop 1 tag) (omega arith)
        (bytes-cons 0x43 (drop 2 tag) (omega arith) (bytes-cons 0x54 (drop 3 tag) (omega arith) (bytes-cons 0x45 [] (omega arith) bytes-nil)))

-- timers of which both are words fit their places, whether they are left out or not
timers-fit : (t : Bool) (for_read for_write : ℕ) → for_read < 256 ^ 2 → for_write < 256 ^ 2 → TimersFit (if t then stored for_read for_write else left_out)
timers-fit true for_read for_write r w = (r, w)
timers-fit false for_read for_write r w = (omega arith, omega arith)

-- the values that are read from a body of bytes fit their places
pub read_fits : (b : List ℕ) → Bytes b → length b ≡ body_size → SavedFits (saved_at b 0)
unfolding saved_at
read_fits b h e =
    record {
      native = get-fits 8 b native_place h;
      visible = get-fits 8 b visible_place h;
      life_maximum = get-fits 1 b life_place h;
      write_cache = get-fits 2 b cache_place h;
      reordering = get-fits 2 b reordering_place h;
      log_interval = get-fits 2 b interval_place h;
      index = get-fits 2 b (head_size + table_index_place) h;
      whole = length_part b (head_size + table_head_size) history_size (omega arith);
      readings = bytes-part b (head_size + table_head_size) history_size h;
      timers = timers-fit (eqb (get 1 b form_place) form_two_byte) (get 2 b read_timer_place) (get 2 b write_timer_place) (get-fits 2 b read_timer_place h) (get-fits 2 b write_timer_place h);
    }

-- ---- "values in range"

-- W-204: "A saved timer of 1 to 9 is out of range."
abbrev pub TimersRanged : SavedTimers → Type 0
TimersRanged left_out = Unit {0}
TimersRanged (stored for_read for_write) = TimerValid for_read × TimerValid for_write

timers-ranged : (t : SavedTimers) → timers_named t ≡ true → TimersRanged t
timers-ranged left_out h = tt
timers-ranged (stored for_read for_write) h =
    (timer-range for_read (and_left (timer_named for_read) (timer_named for_write) h), timer-range for_write (and_right (timer_named for_read) (timer_named for_write) h))

ranged-timers : (t : SavedTimers) → TimersRanged t → timers_named t ≡ true
ranged-timers left_out r = refl
ranged-timers (stored for_read for_write) r =
    and_both (timer_named for_read) (timer_named for_write) (range-timer for_read r.0) (range-timer for_write r.1)

pub record Ranged (s : Saved) : Type 0 where
  pub native : (1 ≤ s.native) × (s.native ≤ native_limit)
  pub visible : (1 ≤ s.visible) × (s.visible ≤ s.native)
  pub write_cache : StateValid 1 s.write_cache
  pub reordering : StateValid 2 s.reordering
  pub log_interval : StateValid 3 s.log_interval
  pub index : s.index < history_size
  pub timers : TimersRanged s.timers

pub range-parts : (s : Saved) → in_range s ≡ true → Ranged s
unfolding in_range_under
range-parts s h =
    let native = between 1 s.native native_limit in
    let visible = between 1 s.visible s.native in
    let named = states_named s.write_cache.state s.reordering.state s.log_interval.state in
    let index = ltb s.index history_size in
    let timers = timers_named s.timers in
    let last = and-three (native && visible) named index (and_left (native && visible && named && index) timers h) in
    let states = states-ranges s.write_cache.state s.reordering.state s.log_interval.state last.1 in
    record {
      native = between-true 1 s.native native_limit (and_left native visible last.0);
      visible = between-true 1 s.visible s.native (and_right native visible last.0);
      write_cache = states.0;
      reordering = states.1;
      log_interval = states.2;
      index = ltb-true s.index history_size last.2;
      timers = timers-ranged s.timers (and_right (native && visible && named && index) timers h);
    }

pub parts-range : (s : Saved) → Ranged s → in_range s ≡ true
unfolding in_range_under
parts-range s r =
    rw (
      between-within 1 s.native native_limit r.native.0 r.native.1,
      between-within 1 s.visible s.native r.visible.0 r.visible.1,
      ranges-states s.write_cache.state s.reordering.state s.log_interval.state r.write_cache r.reordering r.log_interval,
      lt-ltb s.index history_size r.index,
    )
    (ranged-timers s.timers r.timers)

-- values in range fit their places, if the life maximum and the history are bytes, and the timers words
pub range-fits : (s : Saved) → Ranged s → s.life_maximum < 256 → length s.history ≡ history_size → Bytes s.history
    → TimersFit s.timers → SavedFits s
range-fits s r m w b t =
    record {
      native = omega arith;
      visible = omega arith;
      life_maximum = m;
      write_cache = omega arith;
      reordering = omega arith;
      log_interval = omega arith;
      index = omega arith;
      whole = w;
      readings = b;
      timers = t;
    }

-- ---- "all entries have the same N"; "A chain may not mix forms"

-- what the test `alike` states about two entries
pub alike-parts : (a b : Saved) → alike a b ≡ true → AreAlike a b
unfolding alike
alike-parts a b e =
    let native = eqb b.native a.native in
    let form = eqb (form_of b.timers) (form_of a.timers) in
    record {
      same_native = eqb-true b.native a.native (and_left native form e);
      same_form = eqb-true (form_of b.timers) (form_of a.timers) (and_right native form e);
    }

pub parts-alike : (a b : Saved) → AreAlike a b → alike a b ≡ true
unfolding alike
parts-alike a b r =
    and_both (eqb b.native a.native) (eqb (form_of b.timers) (form_of a.timers))
    (eq-eqb b.native a.native r.same_native)
    (eq-eqb (form_of b.timers) (form_of a.timers) r.same_form)

pub alike_self : (s : Saved) → AreAlike s s
alike_self s = record { same_native = refl; same_form = refl }

-- if two entries are alike, any other entry is like both or like neither
pub alike-others : (a b s : Saved) → AreAlike a b → alike a s ≡ alike b s
unfolding alike
alike-others a b s r = λ i. eqb s.native (sym r.same_native i) && eqb (form_of s.timers) (sym r.same_form i)

-- The tests in place are equivalent to soundness.
use mathlib.Core.Path.{◌≡◌, refl, sym, ap, ap₂, ◌∙◌, subst}
use mathlib.Core.Bool.{Bool, true, false, not, ◌&&◌, ◌||◌}
use Prim.Native.Nat.{ℕ, zero, suc, ◌+◌, ◌-◌, ◌≤◌, ◌<◌}
use native.Mathlib.Omega.{arith}
use native.Mathlib.Decide.{dec_lt}
use mathlib.Core.List.{List, [], ◌∷◌, ◌++◌}
use lib.ListN.{length, get_or, drop, length-take, length-drop, take-append-drop, get_or-append, get_or-eq_default}
use lib.Seq.{take_all}
use lib.Dec.{eqb, leb, ltb}
use borrow.Author.Tests.{eqb-true, eq-eqb, leb-true, le-leb, lt-leb, ltb-true, lt-ltb}
use Rattle.wire.specs.Choice.{bit}
use Rattle.wire.specs.Numbers.{get}
use Rattle.wire.specs.Parts.{part}
use Rattle.wire.specs.Layout.{Field, form, Reads, outside}
use Rattle.wire.specs.Bytes.{Bytes, all_zero}
use Rattle.wire.proofs.ChoiceLaws.{and_left, and_right, and_both, and-three, three-and, bit-small, below, below_all, tests_same}
use Rattle.wire.proofs.PartsLaws.{length_part, get_or_part, get-part}
use Rattle.wire.proofs.LayoutLaws.{length-form, reads_both, form-outside}
use Rattle.wire.proofs.FormUnique.{form-unique}
use Rattle.wire.proofs.BytesLaws.{bytes-part, all-zero-true, zero-all-true}
use Rattle.model.specs.Sizes.{sector_size}
use Rattle.model.specs.Device.{Fill, idle, running, Transfer, none, table, fill_data, read_long, write_long, next_sector}
use Rattle.model.specs.Temperature.{table_bytes}
use Rattle.store.specs.Areas.{record_size, head_size}
use Rattle.store.specs.Record.{Stage, empty, held, answered, Contents, stage_number, fill_kind, fill_first, fill_end, transfer_kind, transfer_first, transfer_end, size_fields, command_fields, settings_fields, thermal_fields, fill_fields, slot_at, slot_fields, slots_fields, head_fields, encode, stage_of, fill_of, transfer_of, flag_of, stage_at, transfer_at, decode}
use Rattle.store.specs.Sound.{device_sound, sound}
use Rattle.store.specs.RecordTests.{spare_runs, zero_runs, flags_named, fill_named, transfer_named, slot_named, table_fixed, sound_in_place}
use Rattle.store.proofs.RecordLaws.{ContentsFit, valid-fits, length-encode, slot, group_reads, slot-reads, table-part}
use Rattle.store.proofs.TableInPlace.{implied, table_is, table-fixed}
use Rattle.store.proofs.SoundLaws.{sound-parts, parts-sound, sound-valid}

-- ---- the spare bytes are those that belong to no field

-- the places of the first half's fields
abbrev head_places : List Field
head_places = head_fields (decode [])

-- whether i is in one of the runs
abbrev pub in_runs : List (ℕ × ℕ) → ℕ → Bool
in_runs [] i = false
in_runs (x ∷ xs) i = (leb x.0 i && ltb i (x.0 + x.1)) || in_runs xs i

spare-outside : below head_size (λ i. not (in_runs spare_runs i) || outside head_places i) ≡ true
unfolding decode
spare-outside = refl

outside-spare : below head_size (λ i. not (outside head_places i) || in_runs spare_runs i) ≡ true
unfolding decode
outside-spare = refl

outside-is-spare : (i : ℕ) → i < head_size → outside head_places i ≡ true → in_runs spare_runs i ≡ true
outside-is-spare i h =
    implied (outside head_places i) (in_runs spare_runs i) (below_all head_size (λ j. not (outside head_places j) || in_runs spare_runs j) outside-spare i h)

spare-is-outside : (i : ℕ) → i < head_size → in_runs spare_runs i ≡ true → outside head_places i ≡ true
spare-is-outside i h =
    implied (in_runs spare_runs i) (outside head_places i) (below_all head_size (λ j. not (in_runs spare_runs j) || outside head_places j) spare-outside i h)

-- a byte of a run that is all zeros
run-zero : (runs : List (ℕ × ℕ)) (r : List ℕ) (i : ℕ) → zero_runs runs r ≡ true → in_runs runs i ≡ true → get_or r i 0 ≡ 0
run-zero [] r i h e = absurd (let z : ◌≡◌ {A = ℕ} 0 1 = cc in omega arith)
run-zero (x ∷ xs) r i h e =
    go (leb x.0 i && ltb i (x.0 + x.1)) refl e (run-zero xs r i (and_right (all_zero (part r x.0 x.1)) (zero_runs xs r) h))
  where
    here : leb x.0 i ≡ true → ltb i (x.0 + x.1) ≡ true → get_or r i 0 ≡ 0
    here p q =
        let low = leb-true x.0 i p in
        let high = ltb-true i (x.0 + x.1) q in
        let place : x.0 + (i - x.0) ≡ i = omega arith in
        ap (λ (j : ℕ). get_or r j 0) (sym place)
        ∙ sym (get_or_part r x.0 x.1 (i - x.0) (omega arith))
        ∙ all-zero-true (part r x.0 x.1) (and_left (all_zero (part r x.0 x.1)) (zero_runs xs r) h) (i - x.0)

    go : (b : Bool) → (leb x.0 i && ltb i (x.0 + x.1)) ≡ b → (b || in_runs xs i) ≡ true → (in_runs xs i ≡ true → get_or r i 0 ≡ 0) → get_or r i 0 ≡ 0
    go true q e rest = here (and_left (leb x.0 i) (ltb i (x.0 + x.1)) q) (and_right (leb x.0 i) (ltb i (x.0 + x.1)) q)
    go false q e rest = rest e

-- every run ends within a bound
abbrev pub RunsWithin : ℕ → List (ℕ × ℕ) → Type 0
RunsWithin n [] = Unit {0}
RunsWithin n (x ∷ xs) = (x.0 + x.1 ≤ n) × RunsWithin n xs

pub runs-within : (n : ℕ) (runs : List (ℕ × ℕ)) (i : ℕ) → RunsWithin n runs → in_runs runs i ≡ true → i < n
runs-within n [] i w e = absurd (let z : ◌≡◌ {A = ℕ} 0 1 = cc in omega arith)
runs-within n (x ∷ xs) i w e = go (leb x.0 i && ltb i (x.0 + x.1)) refl e (runs-within n xs i w.1)
  where
    go : (b : Bool) → (leb x.0 i && ltb i (x.0 + x.1)) ≡ b → (b || in_runs xs i) ≡ true → (in_runs xs i ≡ true → i < n) → i < n
    go true q e rest = omega (arith, ltb-true i (x.0 + x.1) (and_right (leb x.0 i) (ltb i (x.0 + x.1)) q), w.0)
    go false q e rest = rest e

-- runs in which every byte is 0
pub zero-run : (runs : List (ℕ × ℕ)) (r : List ℕ) → ((i : ℕ) → in_runs runs i ≡ true → get_or r i 0 ≡ 0) → zero_runs runs r ≡ true
zero-run [] r h = refl
zero-run (x ∷ xs) r h =
    and_both (all_zero (part r x.0 x.1)) (zero_runs xs r)
    (zero-all-true (part r x.0 x.1) (λ i b. byte i b))
    (zero-run xs r (λ i e. h i (or_right (leb x.0 i && ltb i (x.0 + x.1)) (in_runs xs i) e)))
  where
    or_right : (a b : Bool) → b ≡ true → (a || b) ≡ true
    or_right true b e = refl
    or_right false b e = e

    or_left : (a b : Bool) → a ≡ true → (a || b) ≡ true
    or_left true b e = refl
    or_left false b e = absurd (let z : ◌≡◌ {A = ℕ} 0 1 = cc in omega arith)

    byte : (i : ℕ) → i < length (part r x.0 x.1) → get_or (part r x.0 x.1) i 0 ≡ 0
    byte i b = go (dec_lt i x.1)
      where
        go : Dec (i < x.1) → get_or (part r x.0 x.1) i 0 ≡ 0
        go (yes k) =
            get_or_part r x.0 x.1 i k
            ∙ h (x.0 + i)
            (or_left (leb x.0 (x.0 + i) && ltb (x.0 + i) (x.0 + x.1)) (in_runs xs (x.0 + i))
            (and_both (leb x.0 (x.0 + i)) (ltb (x.0 + i) (x.0 + x.1)) (le-leb x.0 (x.0 + i) (omega arith)) (lt-ltb (x.0 + i) (x.0 + x.1) (omega arith))))
        go (no k) = absurd (omega (arith, rw length-take at b))

-- ---- named values encode to the numbers that they were read from

pub flag-exact : (n : ℕ) → n ≤ 1 → n ≡ bit (flag_of n)
flag-exact zero h = refl
flag-exact (suc zero) h = refl
flag-exact (suc (suc n)) h = absurd (omega arith)

stage-exact : (n : ℕ) → n ≤ 2 → n ≡ stage_number (stage_of n)
stage-exact zero h = refl
stage-exact (suc zero) h = refl
stage-exact (suc (suc zero)) h = refl
stage-exact (suc (suc (suc n))) h = absurd (omega arith)

stage-small : (s : Stage) → stage_number s ≤ 2
stage-small empty = omega arith
stage-small held = omega arith
stage-small answered = omega arith

-- a fill's four numbers
pub record FillExact (kind first next end : ℕ) : Type 0 where
  pub kind_is : kind ≡ fill_kind (fill_of kind first next end)
  pub first_is : first ≡ fill_first (fill_of kind first next end)
  pub next_is : next ≡ next_sector (fill_of kind first next end)
  pub end_is : end ≡ fill_end (fill_of kind first next end)

abbrev fill_test : ℕ → ℕ → ℕ → ℕ → Bool
fill_test kind first next end = eqb kind 1 || (eqb kind 0 && eqb first 0 && (eqb next 0 && eqb end 0))

fill-exact : (kind first next end : ℕ) → fill_test kind first next end ≡ true → FillExact kind first next end
fill-exact kind first next end h = go (eqb kind 1) refl h
  where
    go : (b : Bool) → eqb kind 1 ≡ b → (b || (eqb kind 0 && eqb first 0 && (eqb next 0 && eqb end 0))) ≡ true → FillExact kind first next end
    go true e h = record { kind_is = rw e (eqb-true kind 1 e); first_is = rw e; next_is = rw e; end_is = rw e }
    go false e h =
        let w = and-three (eqb kind 0) (eqb first 0) (eqb next 0 && eqb end 0) h in
        record {
          kind_is = rw e (eqb-true kind 0 w.0);
          first_is = rw e (eqb-true first 0 w.1);
          next_is = rw e (eqb-true next 0 (and_left (eqb next 0) (eqb end 0) w.2));
          end_is = rw e (eqb-true end 0 (and_right (eqb next 0) (eqb end 0) w.2));
        }

fill-test : (f : Fill) → fill_test (fill_kind f) (fill_first f) (next_sector f) (fill_end f) ≡ true
fill-test idle = refl
fill-test (running first next end) = refl

-- a transfer's three numbers
record TransferExact (kind first end : ℕ) : Type 0 where
  kind_is : kind ≡ transfer_kind (transfer_of kind first end)
  first_is : first ≡ transfer_first (transfer_of kind first end)
  end_is : end ≡ transfer_end (transfer_of kind first end)

transfer-exact : (kind first end : ℕ) → transfer_named kind first end ≡ true → TransferExact kind first end
transfer-exact zero first end h =
    let w = and-three true (eqb first 0) (eqb end 0) h in
    record { kind_is = refl; first_is = eqb-true first 0 w.1; end_is = eqb-true end 0 w.2 }
transfer-exact (suc zero) first end h =
    let w = and-three true (eqb first 0) (eqb end 0) h in
    record { kind_is = refl; first_is = eqb-true first 0 w.1; end_is = eqb-true end 0 w.2 }
transfer-exact (suc (suc zero)) first end h = record { kind_is = refl; first_is = refl; end_is = refl }
transfer-exact (suc (suc (suc zero))) first end h = record { kind_is = refl; first_is = refl; end_is = eqb-true end 0 h }
transfer-exact (suc (suc (suc (suc zero)))) first end h = record { kind_is = refl; first_is = refl; end_is = eqb-true end 0 h }
transfer-exact (suc (suc (suc (suc (suc n))))) first end h =
    let f : false ≡ true = rw (lt-leb (suc (suc (suc (suc (suc n))))) 4 (omega arith)) at h in
    absurd (let z : ◌≡◌ {A = ℕ} 0 1 = cc in omega arith)

transfer-test : (t : Transfer) → transfer_named (transfer_kind t) (transfer_first t) (transfer_end t) ≡ true
transfer-test none = refl
transfer-test table = refl
transfer-test (fill_data first end) = refl
transfer-test (read_long lba) = refl
transfer-test (write_long lba) = refl

-- ---- from the tests to the record

-- every byte of the first half that belongs to no field is spare, whatever the fields hold
pub head-rest : (r : List ℕ) (c : Contents) → length r ≡ record_size → zero_runs spare_runs r ≡ true → (i : ℕ) → outside (head_fields c) i ≡ true → get_or (part r 0 head_size) i 0 ≡ 0
unfolding decode
head-rest r c size spare i out = go (dec_lt i head_size)
  where
    go : Dec (i < head_size) → get_or (part r 0 head_size) i 0 ≡ 0
    go (yes h) =
        get_or_part r 0 head_size i h
        ∙ ap (λ (j : ℕ). get_or r j 0) (omega arith)
        ∙ run-zero spare_runs r i spare (outside-is-spare i h out)
    go (no h) = get_or-eq_default (part r 0 head_size) 0 (rw (length_part r 0 head_size (omega arith)) (omega arith))

-- the second half
pub table-half : (r : List ℕ) → length r ≡ record_size → drop head_size r ≡ part r head_size sector_size
table-half r size = sym (take_all sector_size (drop head_size r) (rw length-drop (omega arith)))

module _ (r : List ℕ) (b : Bytes r) (size : length r ≡ record_size) where
  abbrev c : Contents
  c = decode r

  abbrev head : List ℕ
  head = part r 0 head_size

  front : (k at : ℕ) → at + k ≤ head_size → get k head at ≡ get k r at
  front k at h = get-part k r 0 head_size at h ∙ ap (get k r) (omega arith)

  sizes-read : flags_named r ≡ true → Reads (size_fields c.device) head
  unfolding decode flags_named
  sizes-read h =
      let w = and-three (leb (get 1 r 16) 1 && leb (get 1 r 17) 1) (leb (get 1 r 34) 1) (leb (get 1 r 35) 1 && leb (get 1 r 36) 1) h in (
        front 8 0 (omega arith),
        (
          front 8 8 (omega arith),
          (
            front 1 16 (omega arith) ∙ flag-exact (get 1 r 16) (leb-true (get 1 r 16) 1 (and_left (leb (get 1 r 16) 1) (leb (get 1 r 17) 1) w.0)),
            (front 1 17 (omega arith) ∙ flag-exact (get 1 r 17) (leb-true (get 1 r 17) 1 (and_right (leb (get 1 r 16) 1) (leb (get 1 r 17) 1) w.0)), tt),
          ),
        ),
      )

  settings-read : flags_named r ≡ true → Reads (settings_fields c.device.settings) head
  unfolding decode flags_named
  settings-read h =
      let w = and-three (leb (get 1 r 16) 1 && leb (get 1 r 17) 1) (leb (get 1 r 34) 1) (leb (get 1 r 35) 1 && leb (get 1 r 36) 1) h in (
        front 2 26 (omega arith),
        (
          front 2 28 (omega arith),
          (
            front 2 30 (omega arith),
            (
              front 2 32 (omega arith),
              (
                front 1 34 (omega arith) ∙ flag-exact (get 1 r 34) (leb-true (get 1 r 34) 1 w.1),
                (
                  front 1 35 (omega arith) ∙ flag-exact (get 1 r 35) (leb-true (get 1 r 35) 1 (and_left (leb (get 1 r 35) 1) (leb (get 1 r 36) 1) w.2)),
                  (front 1 36 (omega arith) ∙ flag-exact (get 1 r 36) (leb-true (get 1 r 36) 1 (and_right (leb (get 1 r 35) 1) (leb (get 1 r 36) 1) w.2)), tt),
                ),
              ),
            ),
          ),
        ),
      )

  fill-numbers : fill_named r ≡ true → FillExact (get 1 r 18) (get 8 r 48) (get 8 r 56) (get 8 r 64)
  unfolding fill_named
  fill-numbers h = fill-exact (get 1 r 18) (get 8 r 48) (get 8 r 56) (get 8 r 64) h

  command-read : fill_named r ≡ true → Reads (command_fields c.device.command) head
  unfolding decode
  command-read h = (front 1 18 (omega arith) ∙ (fill-numbers h).kind_is, (front 2 20 (omega arith), (front 2 22 (omega arith), (front 2 24 (omega arith), tt))))

  thermal-read : Reads (thermal_fields c.device.thermal) head
  unfolding decode
  thermal-read = (front 2 38 (omega arith), (front 1 40 (omega arith), (front 1 41 (omega arith), (front 1 42 (omega arith), tt))))

  fill-read : fill_named r ≡ true → Reads (fill_fields c.device.command.fill) head
  unfolding decode
  fill-read h =
      let f = fill-numbers h in
      (front 8 48 (omega arith) ∙ f.first_is, (front 8 56 (omega arith) ∙ f.next_is, (front 8 64 (omega arith) ∙ f.end_is, tt)))

  -- a slot within the first half
  slot_read : (i : ℕ) → i < 4 → slot_named r i ≡ true → Reads (slot_fields (slot_at i) (stage_at r i) (transfer_at r i)) head
  unfolding slot_named
  slot_read i h e =
      let stage = leb-true (get 1 r (slot_at i)) 2 (and_left (leb (get 1 r (slot_at i)) 2) (transfer_named (get 1 r (slot_at i + 1)) (get 8 r (slot_at i + 8)) (get 8 r (slot_at i + 16))) e) in
      let t =
      transfer-exact (get 1 r (slot_at i + 1)) (get 8 r (slot_at i + 8)) (get 8 r (slot_at i + 16))
      (and_right (leb (get 1 r (slot_at i)) 2) (transfer_named (get 1 r (slot_at i + 1)) (get 8 r (slot_at i + 8)) (get 8 r (slot_at i + 16))) e) in (
        front 1 (slot_at i) (omega arith) ∙ stage-exact (get 1 r (slot_at i)) stage,
        (
          front 1 (slot_at i + 1) (omega arith) ∙ t.kind_is,
          (front 8 (slot_at i + 8) (omega arith) ∙ t.first_is, (front 8 (slot_at i + 16) (omega arith) ∙ t.end_is, tt)),
        ),
      )

  abbrev slots_test : Bool
  slots_test = slot_named r 0 && slot_named r 1 && (slot_named r 2 && slot_named r 3)

  slots_read : slots_test ≡ true → Reads (slots_fields c.stages c.device.command.pending) head
  unfolding decode
  slots_read h =
      let w = and-three (slot_named r 0) (slot_named r 1) (slot_named r 2 && slot_named r 3) h in
      let at : (i : ℕ) → List Field = λ i. slot_fields (slot_at i) (stage_at r i) (transfer_at r i) in
      reads_both (at 0) (at 1 ++ (at 2 ++ at 3)) head (slot_read 0 (omega arith) w.0)
      (reads_both (at 1) (at 2 ++ at 3) head (slot_read 1 (omega arith) w.1)
      (reads_both (at 2) (at 3) head
      (slot_read 2 (omega arith) (and_left (slot_named r 2) (slot_named r 3) w.2))
      (slot_read 3 (omega arith) (and_right (slot_named r 2) (slot_named r 3) w.2))))

  head_read : flags_named r ≡ true → fill_named r ≡ true → slots_test ≡ true → Reads (head_fields c) head
  head_read flags fill slots_ok =
      let d = c.device in
      let last = slots_fields c.stages d.command.pending in
      let from_fill = fill_fields d.command.fill ++ last in
      let from_thermal = thermal_fields d.thermal ++ from_fill in
      let from_settings = settings_fields d.settings ++ from_thermal in
      reads_both (size_fields d) (command_fields d.command ++ from_settings) head (sizes-read flags)
      (reads_both (command_fields d.command) from_settings head (command-read fill)
      (reads_both (settings_fields d.settings) from_thermal head (settings-read flags)
      (reads_both (thermal_fields d.thermal) from_fill head thermal-read
      (reads_both (fill_fields d.command.fill) last head (fill-read fill) (slots_read slots_ok)))))

  head-is : zero_runs spare_runs r ≡ true → flags_named r ≡ true → fill_named r ≡ true → slots_test ≡ true → head ≡ form head_size (head_fields c)
  head-is spare flags fill slots_ok =
      form-unique head_size (head_fields c) head (bytes-part r 0 head_size b) (length_part r 0 head_size (omega arith)) refl (head_read flags fill slots_ok) (head-rest r (decode r) size spare)

  -- if the tests pass, the record is the encoding of its contents
  again : zero_runs spare_runs r ≡ true → flags_named r ≡ true → fill_named r ≡ true → slots_test ≡ true → table_fixed r head_size ≡ true → encode c ≡ r
  unfolding encode decode
  again spare flags fill slots_ok fixed =
      ap₂ (λ (x y : List ℕ). x ++ y) (sym (head-is spare flags fill slots_ok)) (sym (table-half r size ∙ table_is r head_size b (omega arith) fixed)) ∙ take-append-drop head_size r

-- ---- the tests, one by one

pub record InPlace (r : List ℕ) : Type 0 where
  pub size : length r ≡ record_size
  pub spare : zero_runs spare_runs r ≡ true
  pub flags : flags_named r ≡ true
  pub fill : fill_named r ≡ true
  pub slots_ok : (slot_named r 0 && slot_named r 1 && (slot_named r 2 && slot_named r 3)) ≡ true
  pub fixed : table_fixed r head_size ≡ true
  pub device : device_sound (decode r).device ≡ true

pub tests-hold : (r : List ℕ) → sound_in_place r ≡ true → InPlace r
unfolding sound_in_place
tests-hold r h =
    let a = eqb (length r) record_size in
    let b = zero_runs spare_runs r in
    let c = flags_named r in
    let d = fill_named r in
    let e = slot_named r 0 && slot_named r 1 && (slot_named r 2 && slot_named r 3) in
    let w = and-three (a && b && c && d && e) (table_fixed r head_size) (device_sound (decode r).device) h in
    let u = and-three (a && b && c) d e w.0 in
    let t = and-three a b c u.0 in
    record { size = eqb-true (length r) record_size t.0; spare = t.1; flags = t.2; fill = u.1; slots_ok = u.2; fixed = w.1; device = w.2 }

hold-tests : (r : List ℕ) → InPlace r → sound_in_place r ≡ true
unfolding sound_in_place
hold-tests r t = rw (eq-eqb (length r) record_size t.size, t.spare, t.flags, t.fill, t.slots_ok, t.fixed, t.device)

-- ---- from a sound record to the tests

module _ (r : List ℕ) (b : Bytes r) (same : encode (decode r) ≡ r) (fit : ContentsFit (decode r)) where
  -- the fields of the record's contents are in the record
  says : (fs : List Field) → Reads fs (encode (decode r)) → Reads fs r
  says fs = subst (Reads fs) same

  flag-named : (at : ℕ) (x : Bool) → get 1 r at ≡ bit x → leb (get 1 r at) 1 ≡ true
  flag-named at x e = rw e (le-leb (bit x) 1 (bit-small x))

  flags-hold : flags_named r ≡ true
  unfolding flags_named
  flags-hold =
      let d = (decode r).device in
      let g = group_reads (decode r) fit in
      let z = says (size_fields d) g.0 in
      let s = says (settings_fields d.settings) g.2 in
      rw (
        flag-named 16 d.locked z.1.1.0,
        flag-named 17 d.initialized z.1.1.1.0,
        flag-named 34 d.settings.write_cache.persistent s.1.1.1.1.0,
        flag-named 35 d.settings.reordering.persistent s.1.1.1.1.1.0,
      )
      (flag-named 36 d.settings.log_interval.persistent s.1.1.1.1.1.1.0)

  fill_holds : fill_named r ≡ true
  unfolding fill_named
  fill_holds =
      let d = (decode r).device in
      let g = group_reads (decode r) fit in
      let k = says (command_fields d.command) g.1 in
      let f = says (fill_fields d.command.fill) g.4 in
      (λ j. fill_test (k.0 j) (f.0 j) (f.1.0 j) (f.1.1.0 j)) ∙ fill-test d.command.fill

  slot-holds : (i : ℕ) → Reads (slot (decode r) i) (encode (decode r)) → slot_named r i ≡ true
  unfolding slot_named
  slot-holds i e =
      let s = get_or (decode r).stages i empty in
      let t = get_or (decode r).device.command.pending i none in
      let x = says (slot (decode r) i) e in
      (λ j. leb (x.0 j) 2 && transfer_named (x.1.0 j) (x.1.1.0 j) (x.1.1.1.0 j))
      ∙ and_both (leb (stage_number s) 2) (transfer_named (transfer_kind t) (transfer_first t) (transfer_end t)) (le-leb (stage_number s) 2 (stage-small s)) (transfer-test t)

  slots-hold : (slot_named r 0 && slot_named r 1 && (slot_named r 2 && slot_named r 3)) ≡ true
  slots-hold =
      let x = slot-reads (decode r) fit in
      three-and (slot_named r 0) (slot_named r 1) (slot_named r 2 && slot_named r 3)
      (slot-holds 0 x.0) (slot-holds 1 x.1) (and_both (slot_named r 2) (slot_named r 3) (slot-holds 2 x.2) (slot-holds 3 x.3))

  spare-byte : (i : ℕ) → in_runs spare_runs i ≡ true → get_or r i 0 ≡ 0
  unfolding encode decode
  spare-byte i e =
      let h = runs-within head_size spare_runs i (omega arith) e in
      ap (λ (l : List ℕ). get_or l i 0) (sym same)
      ∙ get_or-append (form head_size (head_fields (decode r))) _ 0 i (rw (length-form head_size (head_fields (decode r))) h)
      ∙ form-outside head_size (head_fields (decode r)) i (spare-is-outside i h e)

  pub spare-holds : zero_runs spare_runs r ≡ true
  spare-holds = zero-run spare_runs r spare-byte

  pub fixed-holds : table_fixed r head_size ≡ true
  fixed-holds =
      let d = (decode r).device in
      table-fixed r head_size (omega (arith, ap length (sym same) ∙ length-encode (decode r) fit)) d.settings.log_interval.state d.thermal.index d.thermal.history
      fit.interval fit.index fit.history
      (ap (λ (l : List ℕ). part l head_size sector_size) (sym same) ∙ table-part (decode r) fit)

-- THEOREM: soundness is these tests in place.
pub sound-in-place : (r : List ℕ) → Bytes r → sound r ≡ sound_in_place r
sound-in-place r b = tests_same (sound r) (sound_in_place r) there back
  where
    there : sound r ≡ true → sound_in_place r ≡ true
    there e =
        let p = sound-parts r e in
        let fit = valid-fits (decode r) (sound-valid r b e) in
        hold-tests r
        (record {
          size = p.size;
          spare = spare-holds r b p.again fit;
          flags = flags-hold r b p.again fit;
          fill = fill_holds r b p.again fit;
          slots_ok = slots-hold r b p.again fit;
          fixed = fixed-holds r b p.again fit;
          device = p.tests;
        })

    back : sound_in_place r ≡ true → sound r ≡ true
    back e =
        let t = tests-hold r e in
        parts-sound r (record { size = t.size; again = again r b t.size t.spare t.flags t.fill t.slots_ok t.fixed; tests = t.device })

pub sound-tests : (r : List ℕ) → Bytes r → sound r ≡ true → InPlace r
sound-tests r b e = tests-hold r (sym (sound-in-place r b) ∙ e)

-- the second half of a sound record is the table of its contents
pub sound-table : (r : List ℕ) → Bytes r → sound r ≡ true
    → part r head_size sector_size ≡ (let d = (decode r).device in table_bytes d.settings.log_interval.state d.thermal.index d.thermal.history)
unfolding decode
sound-table r b e =
    let t = sound-tests r b e in
    table_is r head_size b (omega (arith, t.size)) t.fixed

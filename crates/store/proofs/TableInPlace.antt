-- A temperature table in a run: if its fixed bytes pass the tests in place, it is the table of its own interval, index and history.
use mathlib.Core.Path.{◌≡◌, refl, sym, ap, ap₂, ◌∙◌}
use mathlib.Core.Bool.{Bool, true, false, not, ◌&&◌, ◌||◌}
use Prim.Native.Nat.{ℕ, ◌+◌, ◌-◌, ◌^◌, ◌≤◌, ◌<◌}
use native.Mathlib.Nat.{add-zero}
use native.Mathlib.Omega.{arith}
use native.Mathlib.Decide.{dec_lt}
use mathlib.Core.List.{List, ◌++◌}
use lib.ListN.{length, get_or, take, drop, length-take, get_or-eq_default}
use lib.Seq.{take-add, drop-drop}
use lib.Dec.{eqb, leb, ltb}
use borrow.Author.Tests.{eqb-true, leb-true, ltb-true}
use Rattle.wire.specs.Numbers.{get}
use Rattle.wire.specs.Parts.{part}
use Rattle.wire.specs.Layout.{Reads, outside}
use Rattle.wire.specs.Bytes.{Bytes, all_zero}
use Rattle.wire.proofs.ChoiceLaws.{and_left, and_right, and-three, below, below_all}
use Rattle.wire.proofs.PartsLaws.{length_part, get_or_part, get-part}
use Rattle.wire.proofs.FormUnique.{form-unique}
use Rattle.wire.proofs.BytesLaws.{bytes-part, all-zero-true, zero-all-true}
use Rattle.model.specs.Sizes.{sector_size, history_size}
use Rattle.model.specs.Temperature.{table_versions, table_interval_place, table_limits_place, table_limits, table_zeros_place, table_size_place, table_index_place, table_head_size, table_fields, table_bytes}
use Rattle.model.proofs.FormatLaws.{table-reads, table_at}
use Rattle.store.specs.RecordTests.{table_fixed}

pub implied : (a b : Bool) → (not a || b) ≡ true → a ≡ true → b ≡ true
implied true b h e = h
implied false b h e = absurd (let z : ◌≡◌ {A = ℕ} 0 1 = cc in omega arith)

-- the zeros of a table: those bytes of its head that belong to no field
abbrev in_zeros : ℕ → Bool
in_zeros i = leb table_zeros_place i && ltb i table_size_place

abbrev zeros_size : ℕ
zeros_size = table_size_place - table_zeros_place

table-gap : (interval index : ℕ) → below table_head_size (λ i. not (outside (table_fields interval index) i) || in_zeros i) ≡ true
table-gap interval index = refl

module _ (r : List ℕ) (at : ℕ) (b : Bytes r) (fits : at + sector_size ≤ length r) where
  abbrev table_head : List ℕ
  table_head = part r at table_head_size

  behind : (k i : ℕ) → i + k ≤ table_head_size → get k table_head i ≡ get k r (at + i)
  behind k i h = get-part k r at table_head_size i h

  record FixedTests : Type 0 where
    versions : get 4 r at ≡ table_versions
    limits : get 4 r (at + table_limits_place) ≡ table_limits
    zeroes : all_zero (part r (at + table_zeros_place) zeros_size) ≡ true
    size : get 2 r (at + table_size_place) ≡ history_size

  fixed-tests : table_fixed r at ≡ true → FixedTests
  unfolding table_fixed
  fixed-tests h =
      let versions = eqb (get 4 r at) table_versions in
      let limits = eqb (get 4 r (at + table_limits_place)) table_limits in
      let zeroes = all_zero (part r (at + table_zeros_place) zeros_size) in
      let size = eqb (get 2 r (at + table_size_place)) history_size in
      let w = and-three versions limits (zeroes && size) h in
      record {
        versions = eqb-true (get 4 r at) table_versions w.0;
        limits = eqb-true (get 4 r (at + table_limits_place)) table_limits w.1;
        zeroes = and_left zeroes size w.2;
        size = eqb-true (get 2 r (at + table_size_place)) history_size (and_right zeroes size w.2);
      }

  abbrev interval : ℕ
  interval = get 2 r (at + table_interval_place)

  abbrev index : ℕ
  index = get 2 r (at + table_index_place)

  table-read : table_fixed r at ≡ true → Reads (table_fields interval index) table_head
  table-read h =
      let t = fixed-tests h in (
        behind 4 0 (omega arith) ∙ ap (get 4 r) (add-zero at) ∙ t.versions,
        (
          behind 2 table_interval_place (omega arith),
          (
            behind 4 table_limits_place (omega arith) ∙ t.limits,
            (behind 2 table_size_place (omega arith) ∙ t.size, (behind 2 table_index_place (omega arith), tt)),
          ),
        ),
      )

  table-rest : table_fixed r at ≡ true → (i : ℕ) → outside (table_fields interval index) i ≡ true → get_or table_head i 0 ≡ 0
  table-rest h i out = go (dec_lt i table_head_size)
    where
      gap : in_zeros i ≡ true → get_or r (at + i) 0 ≡ 0
      gap e =
          let low = leb-true table_zeros_place i (and_left (leb table_zeros_place i) (ltb i table_size_place) e) in
          let high = ltb-true i table_size_place (and_right (leb table_zeros_place i) (ltb i table_size_place) e) in
          let place : at + table_zeros_place + (i - table_zeros_place) ≡ at + i = omega arith in
          ap (λ (j : ℕ). get_or r j 0) (sym place)
          ∙ sym (get_or_part r (at + table_zeros_place) zeros_size (i - table_zeros_place) (omega arith))
          ∙ all-zero-true (part r (at + table_zeros_place) zeros_size) (fixed-tests h).zeroes (i - table_zeros_place)

      go : Dec (i < table_head_size) → get_or table_head i 0 ≡ 0
      go (yes k) =
          let fs = table_fields interval index in
          get_or_part r at table_head_size i k
          ∙ gap (implied (outside fs i) (in_zeros i) (below_all table_head_size (λ j. not (outside fs j) || in_zeros j) (table-gap interval index) i k) out)
      go (no k) = get_or-eq_default table_head 0 (rw (length_part r at table_head_size (omega arith)) (omega arith))

  -- the run holds the table of the interval, index and history that are there
  pub table_is : table_fixed r at ≡ true → part r at sector_size ≡ table_bytes interval index (part r (at + table_head_size) history_size)
  unfolding table_bytes
  table_is h =
      let front = form-unique table_head_size (table_fields interval index) table_head (bytes-part r at table_head_size b) (length_part r at table_head_size (omega arith)) refl (table-read h) (table-rest h) in
      take-add table_head_size history_size (drop at r) ∙ ap₂ (λ (x y : List ℕ). x ++ y) front (ap (take history_size) (drop-drop table_head_size at r))

-- .. and the fixed bytes of a table pass the tests
module _ (r : List ℕ) (at : ℕ) (fits : at + sector_size ≤ length r) (interval index : ℕ) (history : List ℕ) (i : interval < 256 ^ 2) (x : index < 256 ^ 2) (h : length history ≡ history_size) (stands : part r at sector_size ≡ table_bytes interval index history) where
  abbrev table_here : List ℕ
  table_here = table_bytes interval index history

  reading : (k j : ℕ) → j + k ≤ sector_size → get k r (at + j) ≡ get k table_here j
  reading k j le = sym (get-part k r at sector_size j le) ∙ ap (λ (l : List ℕ). get k l j) stands

  zeros-hold : all_zero (part r (at + table_zeros_place) zeros_size) ≡ true
  zeros-hold =
      zero-all-true (part r (at + table_zeros_place) zeros_size)
      (λ j e.
      let low : j < zeros_size = omega (arith, rw length-take at e) in
      get_or_part r (at + table_zeros_place) zeros_size j low
      ∙ ap (λ (k : ℕ). get_or r k 0) (shift j)
      ∙ sym (get_or_part r at sector_size (table_zeros_place + j) (omega arith))
      ∙ ap (λ (l : List ℕ). get_or l (table_zeros_place + j) 0) stands
      ∙ (table_at interval index history i x h).zero (table_zeros_place + j) (omega arith) (omega arith))
    where
      shift : (j : ℕ) → at + table_zeros_place + j ≡ at + (table_zeros_place + j)
      shift j = omega arith

  pub table-fixed : table_fixed r at ≡ true
  unfolding table_fixed
  table-fixed =
      let t = table-reads interval index history i x in
      let versions : get 4 r at ≡ table_versions = ap (get 4 r) (sym (add-zero at)) ∙ reading 4 0 (omega arith) ∙ t.0 in
      rw (versions, reading 4 table_limits_place (omega arith) ∙ t.1.1.0, zeros-hold, reading 2 table_size_place (omega arith) ∙ t.1.1.1.0)

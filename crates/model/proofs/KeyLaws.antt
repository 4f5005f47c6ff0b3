-- Laws of the key sector, in document 01's words: what an accepted fill, timer or feature asks for.
use Rattle.std.specs.Prelude.{if◌then◌else◌}
use mathlib.Core.Path.{◌≡◌, refl, sym, ap, ◌∙◌}
use mathlib.Core.Bool.{Bool, true, false, not, ◌&&◌, ◌||◌}
use mathlib.Core.Logic.{inl, inr}
use Prim.Native.Nat.{ℕ, ◌+◌, ◌*◌, ◌/◌, ◌%◌, ◌^◌, ◌≤◌, ◌<◌}
use native.Mathlib.Omega.{arith}
use native.Mathlib.Decide.{dec_lt}
use mathlib.Core.List.{List}
use lib.ListN.{length, get_or}
use lib.Dec.{eqb}
use borrow.Author.Tests.{eqb-false, ne_eqb, leb-true, ltb-true, not-true}
use Rattle.wire.specs.Choice.{between}
use Rattle.wire.specs.Parts.{part}
use Rattle.wire.specs.Bytes.{Bytes}
use Rattle.wire.proofs.ChoiceLaws.{between-true, between-within}
use Rattle.wire.proofs.PartsLaws.{get_or_part, part-repeated, length-repeated, length_part}
use Rattle.wire.proofs.BytesLaws.{bytes-part, bytes-repeated, get-fits}
use Rattle.model.specs.Sizes.{sector_size}
use Rattle.model.specs.Device.{Device}
use Rattle.model.specs.Key.{word, start, count, long_lba, last_lba, long_checks, fill_checks, timer_checks, highest_state, feature_checks, table_checks, action_checks, key_checks, FeatureName, write_cache, reordering, log_interval, Action, access_long, fill_pattern, fill_sector, set_timer, return_timer, set_feature, return_state, return_option, send_table, pattern_sector, fill_end, direction_of, feature_name, long_action, fill_action, timer_action, feature_action, action_of, accepted, judge_key}
use Rattle.model.specs.Valid.{TimerValid, Sized}
use Rattle.model.proofs.KeyRows.{RowsPass, key-accepted}

-- ---- fills

-- "Start + Count is a whole-number sum; it never wraps": for an accepted fill it is at most V
pub accepted-fill-sum : (d : Device) (k : List ℕ) (a : Action) → word k 0 ≡ 2 → judge_key d k ≡ accepted a → start k + count k ≤ d.visible
unfolding key_checks
accepted-fill-sum d k a two e =
    let rows : RowsPass (fill_checks d.visible k) = rw two at (key-accepted d k a e).0.1.1 in
    let sum = leb-true (start k + count k) _ rows.1.1.0 in
    omega (arith, sum)

-- the fill's first sector is Start; "Count 0 means up to the last user LBA"
pub accepted-pattern : (d : Device) (k : List ℕ) (a : Action) → word k 0 ≡ 2 → word k 1 ≡ 1 → judge_key d k ≡ accepted a
    → a ≡ fill_pattern (start k) (fill_end d.visible k) (pattern_sector k)
unfolding action_of
accepted-pattern d k a two one e = (key-accepted d k a e).1 ∙ rw (two, one)

pub accepted-sector : (d : Device) (k : List ℕ) (a : Action) → word k 0 ≡ 2 → word k 1 ≡ 2 → judge_key d k ≡ accepted a
    → a ≡ fill_sector (start k) (fill_end d.visible k)
unfolding action_of
accepted-sector d k a two second e = (key-accepted d k a e).1 ∙ rw (two, second)

pub fill-end-zero : (visible : ℕ) (k : List ℕ) → count k ≡ 0 → fill_end visible k ≡ visible
fill-end-zero visible k e = rw e

pub fill-end-count : (visible : ℕ) (k : List ℕ) → (count k ≡ 0 → ⊥) → fill_end visible k ≡ start k + count k
fill-end-count visible k e = rw (ne_eqb (count k) 0 e)

-- W-201: a fill with a count ends at Start + Count, which is at most V
pub accepted-fill-count : (d : Device) (k : List ℕ) (a : Action) → word k 0 ≡ 2 → judge_key d k ≡ accepted a → (count k ≡ 0 → ⊥)
    → (fill_end d.visible k ≡ start k + count k) × (start k + count k ≤ d.visible)
accepted-fill-count d k a two e some = (fill-end-count d.visible k some, accepted-fill-sum d k a two e)

-- "bytes 20-23 repeated 128 times"
pub pattern-bytes : (k : List ℕ) (i : ℕ) → length k ≡ sector_size → i < sector_size → get_or (pattern_sector k) i 0 ≡ get_or k (20 + i % 4) 0
pattern-bytes k i size h =
    let four : length (part k 20 4) ≡ 4 = length_part k 20 4 (omega arith) in
    let place : 4 * (i / 4) + i % 4 ≡ i = omega arith in
    ap (λ (j : ℕ). get_or (pattern_sector k) j 0) (sym place)
    ∙ sym (get_or_part (pattern_sector k) (4 * (i / 4)) 4 (i % 4) (omega arith))
    ∙ ap (λ (l : List ℕ). get_or l (i % 4) 0) (part-repeated 128 (part k 20 4) 4 (i / 4) four (omega arith))
    ∙ get_or_part k 20 4 (i % 4) (omega arith)

-- ---- what an accepted key asks for is in range

abbrev pub feature_number : FeatureName → ℕ
feature_number write_cache = 1
feature_number reordering = 2
feature_number log_interval = 3

-- what an action's values must satisfy, for this visible size
abbrev pub ActionValid : ℕ → Action → Type 0
ActionValid visible (access_long dir lba) = lba < visible
ActionValid visible (fill_pattern first end sector) = (first < end) × (end ≤ visible) × Sized sector_size sector
ActionValid visible (fill_sector first end) = (first < end) × (end ≤ visible)
ActionValid visible (set_timer t n) = TimerValid n × (n < 256 ^ 2)
ActionValid visible (return_timer t) = Unit {0}
ActionValid visible (set_feature f n keep) = (1 ≤ n) × (n ≤ highest_state (feature_number f))
ActionValid visible (return_state f) = Unit {0}
ActionValid visible (return_option f) = Unit {0}
ActionValid visible send_table = Unit {0}

-- with "1 to 9" refused, 0 (off) and 10 or more are left
timer-range : (n : ℕ) → between 1 n 9 ≡ false → TimerValid n
timer-range n e = go (dec_lt n 1) (dec_lt 9 n)
  where
    go : Dec (n < 1) → Dec (9 < n) → TimerValid n
    go (yes p) q = inl (omega arith)
    go (no p) (yes q) = inr (omega arith)
    go (no p) (no q) =
        let t = between-within 1 n 9 (omega arith) (omega arith) in
        absurd (let z : ◌≡◌ {A = ℕ} 0 1 = cc in omega arith)

-- a feature's number and the feature that it names have the same states
highest-named : (n : ℕ) → highest_state (feature_number (feature_name n)) ≡ highest_state n
highest-named n = go (eqb n 1) (eqb n 2)
  where
    go : (a b : Bool)
        → highest_state (feature_number (if a then write_cache else if b then reordering else log_interval)) ≡ (if a then 3 else if b then 2 else 65535)
    go true b = refl
    go false true = refl
    go false false = refl

module _ (visible : ℕ) (k : List ℕ) (some : 1 ≤ visible) (size : length k ≡ sector_size) (bytes : Bytes k) where
  end-valid : RowsPass (fill_checks visible k) → (start k < fill_end visible k) × (fill_end visible k ≤ visible)
  end-valid rows =
      let low = leb-true (start k) (last_lba visible) rows.1.0 in
      let sum = leb-true (start k + count k) _ rows.1.1.0 in
      go (eqb (count k) 0) refl low (omega (arith, sum))
    where
      go : (b : Bool) → eqb (count k) 0 ≡ b → start k ≤ last_lba visible → start k + count k ≤ visible
          → (start k < (if b then visible else start k + count k)) × ((if b then visible else start k + count k) ≤ visible)
      go true e low sum = (omega arith, omega arith)
      go false e low sum = let some-count = eqb-false (count k) 0 e in (omega arith, omega arith)

  fill-valid : RowsPass (fill_checks visible k) → ActionValid visible (fill_action visible k)
  fill-valid rows = go (eqb (word k 1) 1) (end-valid rows)
    where
      go : (b : Bool) → (start k < fill_end visible k) × (fill_end visible k ≤ visible)
          → ActionValid visible (if b then fill_pattern (start k) (fill_end visible k) (pattern_sector k) else fill_sector (start k) (fill_end visible k))
      go true e = (
        e.0,
        e.1,
        record {
          size = length-repeated 128 (part k 20 4) ∙ rw (length_part k 20 4 (omega arith));
          bytes = bytes-repeated 128 (part k 20 4) (bytes-part k 20 4 bytes);
        },
      )
      go false e = e

  timer-valid : RowsPass (timer_checks k) → ActionValid visible (timer_action k)
  timer-valid rows = go (eqb (word k 1) 1) (between 1 (word k 3) 9) refl refl (not-true _ rows.1.1.0)
    where
      go : (b c : Bool) → eqb (word k 1) 1 ≡ b → between 1 (word k 3) 9 ≡ c → (b && c) ≡ false
          → ActionValid visible (if b then set_timer (direction_of (word k 2)) (word k 3) else return_timer (direction_of (word k 2)))
      go false c p q e = tt
      go true true p q e = absurd (let z : ◌≡◌ {A = ℕ} 0 1 = cc in omega arith)
      go true false p q e = (timer-range (word k 3) q, get-fits 2 k 6 bytes)

  feature-valid : RowsPass (feature_checks k) → ActionValid visible (feature_action k)
  feature-valid rows = go (eqb (word k 1) 1) (eqb (word k 1) 2) rows.1.1.0
    where
      go : (b c : Bool) → (not b || between 1 (word k 3) (highest_state (word k 2))) ≡ true
          → ActionValid visible (if b
          then set_feature (feature_name (word k 2)) (word k 3) (eqb (word k 4) 1)
          else if c
          then return_state (feature_name (word k 2))
          else return_option (feature_name (word k 2)))
      go true c e = let r = between-true 1 (word k 3) (highest_state (word k 2)) e in (r.0, rw (highest-named (word k 2)) r.1)
      go false true e = tt
      go false false e = tt

  -- what the words of an accepted key ask for is in range
  action-valid : RowsPass (action_checks visible k) → ActionValid visible (action_of visible k)
  unfolding action_of
  action-valid = go (eqb (word k 0) 1) (eqb (word k 0) 2) (eqb (word k 0) 3) (eqb (word k 0) 4)
    where
      go : (a b c e : Bool)
          → RowsPass
          (if a then long_checks visible k
          else if b
          then fill_checks visible k
          else if c
          then timer_checks k
          else if e
          then feature_checks k
          else table_checks k)
          → ActionValid visible
          (if a then long_action k
          else if b
          then fill_action visible k
          else if c
          then timer_action k
          else if e
          then feature_action k
          else send_table)
      go true b c e rows = ltb-true (long_lba k) visible rows.1.0
      go false true c e rows = fill-valid rows
      go false false true e rows = timer-valid rows
      go false false false true rows = feature-valid rows
      go false false false false rows = tt

pub accepted-valid : (d : Device) (k : List ℕ) (a : Action) → 1 ≤ d.visible → length k ≡ sector_size → Bytes k
    → judge_key d k ≡ accepted a → ActionValid d.visible a
unfolding key_checks
accepted-valid d k a some size bytes e =
    let w = key-accepted d k a e in
    rw w.1 (action-valid d.visible k some size bytes w.0.1.1)

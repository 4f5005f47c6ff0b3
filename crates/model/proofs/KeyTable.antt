-- The key table of document 01, row by row: a key that passes the rows above and fails this one gets this code, and (W-206) names this word.
use mathlib.Core.Path.{◌≡◌, refl}
use mathlib.Core.Bool.{true, false}
use Prim.Native.Nat.{ℕ, ◌+◌, ◌-◌, ◌≤◌, ◌<◌}
use native.Mathlib.Omega.{arith}
use mathlib.Core.List.{List}
use borrow.Author.Tests.{ne_eqb, lt-ltb, le-ltb, lt-leb, le-leb}
use Rattle.wire.specs.Choice.{between}
use Rattle.wire.specs.Numbers.{get}
use Rattle.wire.proofs.ChoiceLaws.{between-true, between-within}
use Rattle.model.specs.Device.{Device}
use Rattle.model.specs.Key.{word, start, count, key_checks, highest_state, action_of, accepted, rejected, judge_key}

-- low ≤ x ≤ high, and its negation
abbrev pub Within : ℕ → ℕ → ℕ → Type 0
Within low x high = between low x high ≡ true

abbrev pub Beyond : ℕ → ℕ → ℕ → Type 0
Beyond low x high = between low x high ≡ false

-- ---- the first row: any key, locked, gets 0012h

pub key-locked : (d : Device) (k : List ℕ) → d.locked ≡ true → judge_key d k ≡ rejected 0x0012 255
unfolding judge_key key_checks
key-locked d k locked = rw locked

-- ---- a key that passes every row is accepted, with what its words ask for

module _ (d : Device) (k : List ℕ) (unlocked : d.locked ≡ false) where
  abbrev is_accepted : Type 0
  is_accepted = judge_key d k ≡ accepted (action_of d.visible k)

  -- W-202: "action 0001h, functions 1 (read) and 2 (write), LBA in words 2 to 5"
  pub accepts-long : word k 0 ≡ 1 → Within 1 (word k 1) 2 → get 8 k 4 < d.visible → is_accepted
  unfolding judge_key key_checks
  accepts-long long f low = rw (unlocked, long, f, lt-ltb (get 8 k 4) d.visible low)

  pub accepts-fill : word k 0 ≡ 2 → Within 1 (word k 1) 2 → start k ≤ d.visible - 1 → start k + count k ≤ d.visible → is_accepted
  unfolding judge_key key_checks
  accepts-fill fill f low sum = rw (unlocked, fill, f, le-leb (start k) (d.visible - 1) low, le-leb (start k + count k) d.visible sum)

  -- "0 is off"
  pub accepts-timer : word k 0 ≡ 3 → word k 1 ≡ 1 → Within 1 (word k 2) 2 → Beyond 1 (word k 3) 9 → is_accepted
  unfolding judge_key key_checks
  accepts-timer timers f n v = rw (unlocked, timers, f, n, v)

  pub accepts-timer-return : word k 0 ≡ 3 → word k 1 ≡ 2 → Within 1 (word k 2) 2 → is_accepted
  unfolding judge_key key_checks
  accepts-timer-return timers f n = rw (unlocked, timers, f, n)

  pub accepts-feature : word k 0 ≡ 4 → word k 1 ≡ 1 → Within 1 (word k 2) 3 → Within 1 (word k 3) (highest_state (word k 2)) → word k 4 ≤ 1 → is_accepted
  unfolding judge_key key_checks
  accepts-feature feature f n v o = rw (unlocked, feature, f, n, v, le-leb (word k 4) 1 o)

  -- "set only"
  pub accepts-feature-return : word k 0 ≡ 4 → Within 2 (word k 1) 3 → Within 1 (word k 2) 3 → is_accepted
  unfolding judge_key key_checks
  accepts-feature-return feature f n =
      let b = between-true 2 (word k 1) 3 f in
      rw (unlocked, feature, between-within 1 (word k 1) 3 (omega arith) b.1, n, ne_eqb (word k 1) 1 (λ e. omega arith))

  pub accepts-table : word k 0 ≡ 5 → word k 1 ≡ 1 → word k 2 ≡ 2 → is_accepted
  unfolding judge_key key_checks
  accepts-table table f n = rw (unlocked, table, f, n)

-- "Feature states: 1 (write cache) 1 to 3; 2 (reordering) 1 or 2; 3 (log interval) 1 to 65,535 minutes."
pub states : (highest_state 1 ≡ 3) × (highest_state 2 ≡ 2) × (highest_state 3 ≡ 65535)
states = (refl, refl, refl)

-- ---- a key that passes the rows above and fails this one gets this code

module _ (d : Device) (k : List ℕ) (unlocked : d.locked ≡ false) where
  -- an action that is "not 2 to 5": 0010h; W-202: "01's check on actions becomes 1 to 5"
  pub key-action : Beyond 1 (word k 0) 5 → judge_key d k ≡ rejected 0x0010 0
  unfolding judge_key key_checks
  key-action a = rw (unlocked, a)

  -- W-202: "function 000Ah, LBA 0002h after it"
  module _ (long : word k 0 ≡ 1) where
    pub long-function : Beyond 1 (word k 1) 2 → judge_key d k ≡ rejected 0x000A 1
    unfolding judge_key key_checks
    long-function f = rw (unlocked, long, f)

    pub long-lba : Within 1 (word k 1) 2 → d.visible ≤ get 8 k 4 → judge_key d k ≡ rejected 0x0002 2
    unfolding judge_key key_checks
    long-lba f h = rw (unlocked, long, f, le-ltb (get 8 k 4) d.visible h)

  -- "2 fill"
  module _ (fill : word k 0 ≡ 2) where
    pub fill-function : Beyond 1 (word k 1) 2 → judge_key d k ≡ rejected 0x0001 1
    unfolding judge_key key_checks
    fill-function f = rw (unlocked, fill, f)

    pub fill_start : Within 1 (word k 1) 2 → d.visible - 1 < start k → judge_key d k ≡ rejected 0x0002 2
    unfolding judge_key key_checks
    fill_start f h = rw (unlocked, fill, f, lt-leb (start k) (d.visible - 1) h)

    pub fill-sum : Within 1 (word k 1) 2 → start k ≤ d.visible - 1 → d.visible < start k + count k → judge_key d k ≡ rejected 0x0002 6
    unfolding judge_key key_checks
    fill-sum f l h = rw (unlocked, fill, f, le-leb (start k) (d.visible - 1) l, lt-leb (start k + count k) d.visible h)

  -- "3 timers"
  module _ (timers : word k 0 ≡ 3) where
    pub timer-function : Beyond 1 (word k 1) 2 → judge_key d k ≡ rejected 0x0004 1
    unfolding judge_key key_checks
    timer-function f = rw (unlocked, timers, f)

    pub timer-name : Within 1 (word k 1) 2 → Beyond 1 (word k 2) 2 → judge_key d k ≡ rejected 0x0005 2
    unfolding judge_key key_checks
    timer-name f n = rw (unlocked, timers, f, n)

    -- "set: word 3 in 100 ms, 1 to 9 gives 0006h (read) or 0007h (write)"
    pub timer-read : word k 1 ≡ 1 → word k 2 ≡ 1 → Within 1 (word k 3) 9 → judge_key d k ≡ rejected 0x0006 3
    unfolding judge_key key_checks
    timer-read f n v = rw (unlocked, timers, f, n, v)

    pub timer-write : word k 1 ≡ 1 → word k 2 ≡ 2 → Within 1 (word k 3) 9 → judge_key d k ≡ rejected 0x0007 3
    unfolding judge_key key_checks
    timer-write f n v = rw (unlocked, timers, f, n, v)

  -- "4 feature"
  module _ (feature : word k 0 ≡ 4) where
    pub feature-function : Beyond 1 (word k 1) 3 → judge_key d k ≡ rejected 0x000C 1
    unfolding judge_key key_checks
    feature-function f = rw (unlocked, feature, f)

    pub feature-name : Within 1 (word k 1) 3 → Beyond 1 (word k 2) 3 → judge_key d k ≡ rejected 0x000D 2
    unfolding judge_key key_checks
    feature-name f n = rw (unlocked, feature, f, n)

    -- "set only: word 3 invalid 000Eh, then word 4 other than 0 or 1 000Fh"
    pub feature-state : word k 1 ≡ 1 → Within 1 (word k 2) 3 → Beyond 1 (word k 3) (highest_state (word k 2)) → judge_key d k ≡ rejected 0x000E 3
    unfolding judge_key key_checks
    feature-state f n v = rw (unlocked, feature, f, n, v)

    pub feature-option : word k 1 ≡ 1 → Within 1 (word k 2) 3 → Within 1 (word k 3) (highest_state (word k 2)) → 1 < word k 4 → judge_key d k ≡ rejected 0x000F 4
    unfolding judge_key key_checks
    feature-option f n v o = rw (unlocked, feature, f, n, v, lt-leb (word k 4) 1 o)

  -- "5 table"
  module _ (table : word k 0 ≡ 5) where
    pub table-function : (word k 1 ≡ 1 → ⊥) → judge_key d k ≡ rejected 0x0001 1
    unfolding judge_key key_checks
    table-function f = rw (unlocked, table, ne_eqb (word k 1) 1 f)

    pub table-name : word k 1 ≡ 1 → (word k 2 ≡ 2 → ⊥) → judge_key d k ≡ rejected 0x0011 2
    unfolding judge_key key_checks
    table-name f n = rw (unlocked, table, f, ne_eqb (word k 2) 2 n)

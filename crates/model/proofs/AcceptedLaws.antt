-- What an accepted key asks for, for each action and function, and which bytes hold its numbers.
use mathlib.Core.Path.{◌≡◌, refl, ◌∙◌}
use mathlib.Core.Bool.{Bool, true, false}
use Prim.Native.Nat.{ℕ, suc, ◌+◌, ◌*◌, ◌^◌, ◌<◌}
use native.Mathlib.Omega.{arith}
use mathlib.Core.List.{List}
use lib.ListN.{get_or}
use lib.Dec.{eqb}
use Rattle.wire.specs.Numbers.{get}
use Rattle.wire.proofs.NumbersLaws.{get-join}
use Rattle.wire.proofs.PartsLaws.{get-part}
use Rattle.model.specs.Sizes.{sector_size, registers_size}
use Rattle.model.specs.Device.{Device}
use Rattle.model.specs.Registers.{Direction, read, write, data_of}
use Rattle.model.specs.Key.{word, start, count, long_lba, FeatureName, write_cache, reordering, log_interval, Action, access_long, set_timer, return_timer, set_feature, return_state, return_option, send_table, direction_of, feature_name, action_of, accepted, judge_key}
use Rattle.model.proofs.KeyTable.{Within}
use Rattle.model.proofs.KeyLaws.{feature_number}
use Rattle.model.proofs.KeyRows.{key-accepted}

-- ---- the bytes of a key's numbers

-- word i is the two bytes from 2i, low byte first
pub word_bytes : (k : List ℕ) (i : ℕ) → word k i ≡ get_or k (2 * i) 0 + 256 * get_or k (suc (2 * i)) 0
unfolding get
word_bytes k i = omega arith

-- .. of the key sector, and from 16 + 2i of the request
pub word-in-request : (m : List ℕ) (i : ℕ) → i < 256 → word (data_of m) i ≡ get 2 m (16 + 2 * i)
word-in-request m i h = get-part 2 m registers_size sector_size (2 * i) (omega arith)

-- "Start bytes 4-11, Count 12-19"
pub start-bytes : (k : List ℕ) → start k ≡ get 4 k 4 + 2 ^ 32 * get 4 k 8
start-bytes k = get-join 4 4 k 4

pub count-bytes : (k : List ℕ) → count k ≡ get 4 k 12 + 2 ^ 32 * get 4 k 16
count-bytes k = get-join 4 4 k 12

-- W-202: "LBA in words 2 to 5"
pub long-words : (k : List ℕ) → long_lba k ≡ word k 2 + 2 ^ 16 * word k 3 + 2 ^ 32 * word k 4 + 2 ^ 48 * word k 5
long-words k = omega (arith, get-join 2 6 k 4, get-join 2 4 k 6, get-join 2 2 k 8)

-- ---- names

-- timers: "word 2 is 1 read or 2 write"; W-202: "functions 1 (read) and 2 (write)"
abbrev pub direction_number : Direction → ℕ
direction_number read = 1
direction_number write = 2

pub direction-named : (t : Direction) → direction_of (direction_number t) ≡ t
direction-named read = refl
direction-named write = refl

pub direction-within : (t : Direction) → Within 1 (direction_number t) 2
direction-within read = refl
direction-within write = refl

-- "1 (write cache)", "2 (reordering)", "3 (log interval)"
pub feature-named : (f : FeatureName) → feature_name (feature_number f) ≡ f
feature-named write_cache = refl
feature-named reordering = refl
feature-named log_interval = refl

-- "Option 1 keeps a state over power": word 4 is 0 or 1
abbrev pub option_number : Bool → ℕ
option_number true = 1
option_number false = 0

option-named : (keep : Bool) → eqb (option_number keep) 1 ≡ keep
option-named true = refl
option-named false = refl

-- ---- what is asked for

module _ (d : Device) (k : List ℕ) (a : Action) (accepts : judge_key d k ≡ accepted a) where
  asked : a ≡ action_of d.visible k
  asked = (key-accepted d k a accepts).1

  -- W-202: "action 0001h, functions 1 (read) and 2 (write)"
  pub accepted-long : (dir : Direction) → word k 0 ≡ 1 → word k 1 ≡ direction_number dir → a ≡ access_long dir (get 8 k 4)
  unfolding action_of
  accepted-long dir one f = asked ∙ rw (one, f, direction-named dir)

  -- "3 timers": "1 set, 2 return"
  pub accepted-set-timer : (t : Direction) → word k 0 ≡ 3 → word k 1 ≡ 1 → word k 2 ≡ direction_number t → a ≡ set_timer t (word k 3)
  unfolding action_of
  accepted-set-timer t three one two = asked ∙ rw (three, one, two, direction-named t)

  pub accepted-return-timer : (t : Direction) → word k 0 ≡ 3 → word k 1 ≡ 2 → word k 2 ≡ direction_number t → a ≡ return_timer t
  unfolding action_of
  accepted-return-timer t three one two = asked ∙ rw (three, one, two, direction-named t)

  -- "4 feature": "1 set, 2 state, 3 options"
  pub accepted-set-feature : (f : FeatureName) (keep : Bool) → word k 0 ≡ 4 → word k 1 ≡ 1 → word k 2 ≡ feature_number f → word k 4 ≡ option_number keep
      → a ≡ set_feature f (word k 3) keep
  unfolding action_of
  accepted-set-feature f keep four one two o = asked ∙ rw (four, one, two, o, feature-named f, option-named keep)

  pub accepted-return-state : (f : FeatureName) → word k 0 ≡ 4 → word k 1 ≡ 2 → word k 2 ≡ feature_number f → a ≡ return_state f
  unfolding action_of
  accepted-return-state f four one two = asked ∙ rw (four, one, two, feature-named f)

  pub accepted-return-option : (f : FeatureName) → word k 0 ≡ 4 → word k 1 ≡ 3 → word k 2 ≡ feature_number f → a ≡ return_option f
  unfolding action_of
  accepted-return-option f four one two = asked ∙ rw (four, one, two, feature-named f)

  -- "5 table"
  pub accepted-table : word k 0 ≡ 5 → a ≡ send_table
  unfolding action_of
  accepted-table five = asked ∙ rw five

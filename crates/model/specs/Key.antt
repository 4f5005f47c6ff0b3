-- The key sector: its checks in the paper's order, and what an accepted key asks for.
use Rattle.std.specs.Prelude.{Bool, not, ◌&&◌, ◌||◌, ℕ, ◌+◌, ◌-◌, ◌*◌, List, [], ◌∷◌, eqb, leb, ltb, if◌then◌else◌}
use Rattle.wire.specs.Choice.{between}
use Rattle.wire.specs.Numbers.{get}
use Rattle.wire.specs.Parts.{part, repeated}
use Rattle.model.specs.Device.{Device}
use Rattle.model.specs.Registers.{Direction, read, write}
use Rattle.model.specs.Buffers.{Sector}

-- word i of a key sector: "Words 0 and 1 are action and function"
abbrev pub word : Sector → ℕ → ℕ
word k i = get 2 k (2 * i)

-- "Start bytes 4-11, Count 12-19"
abbrev pub start : Sector → ℕ
start k = get 8 k 4

abbrev pub count : Sector → ℕ
count k = get 8 k 12

-- W-202: "LBA in words 2 to 5"
abbrev pub long_lba : Sector → ℕ
long_lba k = get 8 k 4

-- "Last user LBA is V-1."
abbrev pub last_lba : ℕ → ℕ
last_lba visible = visible - 1

-- ---- the checks

-- A row is what must hold, and what a key that fails it is refused with: the code, and (W-206) "the word that caused it: 0 action, 1 function, 2 to 4
-- those words, 2 for Start or a Long LBA, 6 where the sum alone is at fault, 255 for the lock".
abbrev pub KeyCheck : Type 0
KeyCheck = Bool × ℕ × ℕ

-- Action 1 (W-202): "functions 1 (read) and 2 (write)"; "function 000Ah, LBA 0002h after it"
abbrev pub long_checks : ℕ → Sector → List KeyCheck
long_checks visible k = (between 1 (word k 1) 2, 0x000A, 1) ∷ (ltb (long_lba k) visible, 0x0002, 2) ∷ []

-- Action 2: "1 pattern, 2 sector; else 0001h"; then 0002h: "Refuse when Start is above the last user LBA, or when Count is not 0 and Start + Count
-- exceeds the visible size." (W-201; with Count 0 the last row holds after the one before it.) "Start + Count is a whole-number sum; it never wraps."
abbrev pub fill_checks : ℕ → Sector → List KeyCheck
fill_checks visible k =
    (between 1 (word k 1) 2, 0x0001, 1)
    ∷ (leb (start k) (last_lba visible), 0x0002, 2)
    ∷ (leb (start k + count k) visible, 0x0002, 6)
    ∷ []

-- Action 3: "1 set, 2 return; else 0004h"; "word 2 is 1 read or 2 write, else 0005h";
-- "set: word 3 in 100 ms, 1 to 9 gives 0006h (read) or 0007h (write); 0 is off"
abbrev pub timer_checks : Sector → List KeyCheck
timer_checks k =
    (between 1 (word k 1) 2, 0x0004, 1)
    ∷ (between 1 (word k 2) 2, 0x0005, 2)
    ∷ (not (eqb (word k 1) 1 && between 1 (word k 3) 9), if eqb (word k 2) 1 then 0x0006 else 0x0007, 3)
    ∷ []

-- "each timer is 0 or at least 10"
abbrev pub timer_named : ℕ → Bool
timer_named n = eqb n 0 || leb 10 n

-- "Feature states: 1 (write cache) 1 to 3; 2 (reordering) 1 or 2; 3 (log interval) 1 to 65,535 minutes."
abbrev pub highest_state : ℕ → ℕ
highest_state feature = if eqb feature 1 then 3 else if eqb feature 2 then 2 else 65535

-- "every .. feature state has one of its named values", of features 1 to 3
unfoldable pub states_named : ℕ → ℕ → ℕ → Bool
states_named cache reordering interval =
    between 1 cache (highest_state 1) && between 1 reordering (highest_state 2) && between 1 interval (highest_state 3)

-- Action 4: "1 set, 2 state, 3 options; else 000Ch"; "word 2 is 1 to 3, else 000Dh";
-- "set only: word 3 invalid 000Eh, then word 4 other than 0 or 1 000Fh"
abbrev pub feature_checks : Sector → List KeyCheck
feature_checks k =
    (between 1 (word k 1) 3, 0x000C, 1)
    ∷ (between 1 (word k 2) 3, 0x000D, 2)
    ∷ (not (eqb (word k 1) 1) || between 1 (word k 3) (highest_state (word k 2)), 0x000E, 3)
    ∷ (not (eqb (word k 1) 1) || leb (word k 4) 1, 0x000F, 4)
    ∷ []

-- Action 5: "1; else 0001h"; "word 2 is 2, else 0011h"
abbrev pub table_checks : Sector → List KeyCheck
table_checks k = (eqb (word k 1) 1, 0x0001, 1) ∷ (eqb (word k 2) 2, 0x0011, 2) ∷ []

-- the remaining checks of an action
abbrev pub action_checks : ℕ → Sector → List KeyCheck
action_checks visible k =
    if eqb (word k 0) 1 then long_checks visible k
    else if eqb (word k 0) 2 then fill_checks visible k
    else if eqb (word k 0) 3 then timer_checks k
    else if eqb (word k 0) 4 then feature_checks k
    else table_checks k

-- The lock comes first, with 0012h; then an action that is not 1 to 5, with 0010h: W-202: "01's check on actions becomes 1 to 5".
unfoldable pub key_checks : Device → Sector → List KeyCheck
key_checks d k = (not d.locked, 0x0012, 255) ∷ (between 1 (word k 0) 5, 0x0010, 0) ∷ action_checks d.visible k

-- ---- what an accepted key asks for

pub data FeatureName : Type 0 where
  write_cache : FeatureName
  reordering : FeatureName
  log_interval : FeatureName

-- A long sector access has its direction and LBA. A fill's numbers are its first sector and its end; a pattern fill also has the sector to write.
pub data Action : Type 0 where
  access_long : Direction → ℕ → Action
  fill_pattern : ℕ → ℕ → Sector → Action
  fill_sector : ℕ → ℕ → Action
  set_timer : Direction → ℕ → Action
  return_timer : Direction → Action
  set_feature : FeatureName → ℕ → Bool → Action
  return_state : FeatureName → Action
  return_option : FeatureName → Action
  send_table : Action

-- "bytes 20-23 repeated 128 times"
abbrev pub pattern_sector : Sector → Sector
pattern_sector k = repeated 128 (part k 20 4)

-- "Count 0 means up to the last user LBA."
abbrev pub fill_end : ℕ → Sector → ℕ
fill_end visible k = if eqb (count k) 0 then visible else start k + count k

-- the timer that word 2 of a timer key names, and the function of a long sector access: 1 is read, 2 is write
abbrev pub direction_of : ℕ → Direction
direction_of n = if eqb n 1 then read else write

abbrev pub feature_name : ℕ → FeatureName
feature_name n = if eqb n 1 then write_cache else if eqb n 2 then reordering else log_interval

abbrev pub long_action : Sector → Action
long_action k = access_long (direction_of (word k 1)) (long_lba k)

abbrev pub fill_action : ℕ → Sector → Action
fill_action visible k =
    if eqb (word k 1) 1 then fill_pattern (start k) (fill_end visible k) (pattern_sector k)
    else fill_sector (start k) (fill_end visible k)

abbrev pub timer_action : Sector → Action
timer_action k = if eqb (word k 1) 1 then set_timer (direction_of (word k 2)) (word k 3) else return_timer (direction_of (word k 2))

abbrev pub feature_action : Sector → Action
feature_action k =
    if eqb (word k 1) 1 then set_feature (feature_name (word k 2)) (word k 3) (eqb (word k 4) 1)
    else if eqb (word k 1) 2 then return_state (feature_name (word k 2))
    else return_option (feature_name (word k 2))

unfoldable pub action_of : ℕ → Sector → Action
action_of visible k =
    if eqb (word k 0) 1 then long_action k
    else if eqb (word k 0) 2 then fill_action visible k
    else if eqb (word k 0) 3 then timer_action k
    else if eqb (word k 0) 4 then feature_action k
    else send_table

-- A key is accepted with what it asks for, or refused with its code and (W-206) the word that caused it.
pub data Verdict : Type 0 where
  accepted : Action → Verdict
  rejected : ℕ → ℕ → Verdict

-- "Checks, in order": the first row that fails decides; a key that fails none is accepted
abbrev pub judged : List KeyCheck → Action → Verdict
judged [] a = accepted a
judged (c ∷ cs) a = if c.0 then judged cs a else rejected c.1 c.2

unfoldable pub judge_key : Device → Sector → Verdict
judge_key d k = judged (key_checks d k) (action_of d.visible k)

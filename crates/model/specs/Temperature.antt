-- Temperatures: a sample, the history, and the table that a host reads.
use Rattle.std.specs.Prelude.{Bool, ℕ, suc, ◌-◌, List, [], ◌∷◌, ◌++◌, ℤ, pos, negsuc, set, replicate, eqb, ltb, if◌then◌else◌}
use Rattle.std.specs.Int.Signed.{le_z}
use Rattle.wire.specs.Layout.{Field, form}
use Rattle.model.specs.Sizes.{history_size, missing}
use Rattle.model.specs.Device.{Thermal}

-- "Bytes are two's complement": 128 to 255 mean -128 to -1 (negsuc n is -1 - n).
abbrev pub signed : ℕ → ℤ
signed b = if ltb b 128 then pos b else negsuc (255 - b)

-- "A missing sample .. moves no maximum. A missing maximum takes the first real sample."
unfoldable pub new_maximum : ℕ → ℕ → ℕ
new_maximum sample old =
    if eqb sample missing then old
    else if eqb old missing then sample
    else if le_z (signed sample) (signed old) then old
    else sample

-- "a reading is logged at index + 1, and 0 follows 477"
abbrev pub next_index : ℕ → ℕ
next_index index = if eqb (suc index) history_size then 0 else suc index

-- "When the minutes reach the interval, the sample (missing too) is logged and the minutes restart."
-- "One sample is one minute. A missing sample sets "now" missing".
unfoldable pub sampled : ℕ → ℕ → Thermal → Thermal
sampled interval sample t =
    record {
      current = sample;
      cycle_maximum = new_maximum sample t.cycle_maximum;
      life_maximum = new_maximum sample t.life_maximum;
      history = if counting then t.history else set t.history (next_index t.index) sample;
      index = if counting then t.index else next_index t.index;
      minutes = if counting then suc t.minutes else 0;
    }
  where
    counting : Bool
    counting = ltb (suc t.minutes) interval

-- "Empty history is all 80h, index 477, minutes 0"
abbrev pub empty_history : List ℕ
empty_history = replicate history_size missing

abbrev pub empty_index : ℕ
empty_index = 477

unfoldable pub history_emptied : Thermal → Thermal
history_emptied t =
    record {
      current = t.current;
      cycle_maximum = t.cycle_maximum;
      life_maximum = t.life_maximum;
      history = empty_history;
      index = empty_index;
      minutes = 0;
    }

-- "Table (document 001, Table 19): 0002h; period 1; interval; bytes 6-9 = 3Ch, 46h, 05h, F6h; zeros;
-- size 478 at 30; index at 32; history from 34." The bytes before the interval, and bytes 6-9, are a number of four bytes each.
abbrev pub table_versions : ℕ
table_versions = 0x00010002

abbrev pub table_interval_place : ℕ
table_interval_place = 4

abbrev pub table_limits_place : ℕ
table_limits_place = 6

abbrev pub table_limits : ℕ
table_limits = 0xF605463C

abbrev pub table_zeros_place : ℕ
table_zeros_place = 10

abbrev pub table_size_place : ℕ
table_size_place = 30

abbrev pub table_index_place : ℕ
table_index_place = 32

abbrev pub table_head_size : ℕ
table_head_size = 34

abbrev pub table_fields : ℕ → ℕ → List Field
table_fields interval index =
    (0, 4, table_versions)
    ∷ (table_interval_place, 2, interval)
    ∷ (table_limits_place, 4, table_limits)
    ∷ (table_size_place, 2, history_size)
    ∷ (table_index_place, 2, index)
    ∷ []

unfoldable pub table_bytes : ℕ → ℕ → List ℕ → List ℕ
table_bytes interval index history = form table_head_size (table_fields interval index) ++ history

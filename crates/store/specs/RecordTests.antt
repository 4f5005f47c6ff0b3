-- Soundness as tests on the record's bytes in place, with no second copy. They are equivalent to `sound` (proofs/RecordTestLaws.antt).
use Rattle.std.specs.Prelude.{Bool, true, ◌&&◌, ◌||◌, ℕ, ◌+◌, ◌-◌, List, [], ◌∷◌, length, eqb, leb}
use Rattle.wire.specs.Numbers.{get}
use Rattle.wire.specs.Parts.{part}
use Rattle.wire.specs.Bytes.{all_zero}
use Rattle.model.specs.Sizes.{history_size}
use Rattle.model.specs.Temperature.{table_versions, table_limits_place, table_limits, table_zeros_place, table_size_place}
use Rattle.store.specs.Areas.{record_size, head_size}
use Rattle.store.specs.Record.{slot_at, decode}
use Rattle.store.specs.Sound.{device_sound}
use Rattle.store.specs.Areas.{Record}

-- the spare bytes: runs by place and length
abbrev pub spare_runs : List (ℕ × ℕ)
spare_runs = (19, 1) ∷ (37, 1) ∷ (43, 5) ∷ (74, 6) ∷ (98, 6) ∷ (122, 6) ∷ (146, 6) ∷ (168, 344) ∷ []

abbrev pub zero_runs : List (ℕ × ℕ) → List ℕ → Bool
zero_runs [] r = true
zero_runs (x ∷ xs) r = all_zero (part r x.0 x.1) && zero_runs xs r

-- "every .. mark, flag .. has one of its named values"
unfoldable pub flags_named : Record → Bool
flags_named r = leb (get 1 r 16) 1 && leb (get 1 r 17) 1 && leb (get 1 r 34) 1 && (leb (get 1 r 35) 1 && leb (get 1 r 36) 1)

-- a fill runs or not; if not, its numbers are 0
unfoldable pub fill_named : Record → Bool
fill_named r = eqb (get 1 r 18) 1 || (eqb (get 1 r 18) 0 && eqb (get 8 r 48) 0 && (eqb (get 8 r 56) 0 && eqb (get 8 r 64) 0))

-- a named kind of transfer; none and the table (0 and 1) have no first sector, and only a fill (2) has an end: their numbers are 0
abbrev pub transfer_named : ℕ → ℕ → ℕ → Bool
transfer_named kind first end = leb kind 4 && (leb 2 kind || eqb first 0) && (eqb kind 2 || eqb end 0)

-- slot i: a named stage, and its transfer
unfoldable pub slot_named : Record → ℕ → Bool
slot_named r i =
    leb (get 1 r (slot_at i)) 2 && transfer_named (get 1 r (slot_at i + 1)) (get 8 r (slot_at i + 8)) (get 8 r (slot_at i + 16))

-- the fixed bytes of a temperature table at a place of a run
unfoldable pub table_fixed : List ℕ → ℕ → Bool
table_fixed run at =
    eqb (get 4 run at) table_versions
    && eqb (get 4 run (at + table_limits_place)) table_limits
    && (all_zero (part run (at + table_zeros_place) (table_size_place - table_zeros_place)) && eqb (get 2 run (at + table_size_place)) history_size)

unfoldable pub sound_in_place : Record → Bool
sound_in_place r =
    eqb (length r) record_size
    && zero_runs spare_runs r
    && flags_named r
    && fill_named r
    && (slot_named r 0 && slot_named r 1 && (slot_named r 2 && slot_named r 3))
    && table_fixed r head_size
    && device_sound (decode r).device

-- Where the bytes of a fill's sector are in the private area.
use mathlib.Core.Path.{◌≡◌, sym, ap, ◌∙◌}
use Prim.Native.Nat.{ℕ, ◌+◌, ◌≤◌}
use native.Mathlib.Omega.{arith}
use mathlib.Core.List.{List}
use lib.Seq.{sets}
use Rattle.wire.specs.Parts.{part, repeated}
use Rattle.wire.proofs.PartsLaws.{part-part}
use Rattle.model.specs.Sizes.{sector_size, registers_size}
use Rattle.model.specs.Registers.{data_of}
use Rattle.model.specs.Key.{pattern_sector}
use Rattle.store.specs.Areas.{slot_size, slot_place, fill_place}
use Rattle.store.specs.Store.{slot_bytes}
use Rattle.store.proofs.FollowLaws.{slot-data}

-- bytes of a slot's data are bytes of the area
pub data-part : (a : List ℕ) (p i n : ℕ) → registers_size + i + n ≤ slot_size → i + n ≤ sector_size
    → part (data_of (slot_bytes p a)) i n ≡ part a (slot_place p + (registers_size + i)) n
data-part a p i n fits within =
    part-part (slot_bytes p a) registers_size sector_size i n within
    ∙ part-part a (slot_place p) slot_size (registers_size + i) n fits

pub pattern-stored : (a : List ℕ) (p : ℕ) → sets a fill_place (repeated 128 (part a (slot_place p + (registers_size + 20)) 4)) ≡ sets a fill_place (pattern_sector (data_of (slot_bytes p a)))
pattern-stored a p = ap (λ (l : List ℕ). sets a fill_place (repeated 128 l)) (sym (data-part a p 20 4 (omega arith) (omega arith)))

pub data-stored : (a : List ℕ) (p : ℕ) → sets a fill_place (part a (slot_place p + registers_size) sector_size) ≡ sets a fill_place (data_of (slot_bytes p a))
data-stored a p = ap (sets a fill_place) (slot-data a p)

-- What the code finds in a word of 64 bits: its parity, and the places of its ones.
use Rattle.std.specs.Prelude.{ℕ, ◌*◌, ◌/◌, ◌%◌}
use Rattle.std.specs.Int.Bits.{bit_xor}
use Rattle.std.specs.Int.Count.{ones}
use Rattle.sector_check.specs.Xor.{xor_to, digit}

-- 1 where the count of v's ones is odd, otherwise 0
abbrev pub parity : ℕ → ℕ
parity v = ones v % 2

-- the exclusive or of the places of the ones among v's n low digits
unfoldable pub places : ℕ → ℕ → ℕ
places n v = xor_to n (λ i. digit v i * i)

-- the part of v below a power of two and the part above it, in one
abbrev pub folded : ℕ → ℕ → ℕ
folded power v = bit_xor (v % power) (v / power)

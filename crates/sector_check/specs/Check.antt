-- The check of a sector, a number of 13 bits, and a sector with one bit flipped.
use Rattle.std.specs.Prelude.{ℕ, zero, suc, ◌+◌, ◌*◌, ◌/◌, ◌%◌, ◌^◌, List, get_or, set}
use Rattle.std.specs.Int.Bits.{bit_xor}
use Rattle.sector_check.specs.Xor.{xor_to, digit}

-- the bit of a sector at a position, 0 or 1; W-202: "positions (8 times byte plus bit)"
unfoldable pub bit_at : List ℕ → ℕ → ℕ
bit_at s q = digit (get_or s (q / 8) 0) (q % 8)

-- W-202: "bits 0 to 11 are the exclusive or of the positions (8 times byte plus bit) of all one bits, bit 12 is their parity, the rest 0."
-- Each one bit gives its position and, in bit 12, a one.
unfoldable pub check_of : List ℕ → ℕ
check_of s = xor_to 4096 (λ q. bit_at s q * (4096 + q))

-- how many of the first n bits of a sector are one; the law of bit 12 is stated by it
unfoldable pub ones_to : ℕ → List ℕ → ℕ
ones_to zero s = 0
ones_to (suc n) s = bit_at s n + ones_to n s

-- the sector with the bit at a position flipped; W-202: "it flips the data bit at the differing position"
unfoldable pub flip : List ℕ → ℕ → List ℕ
flip s q = set s (q / 8) (bit_xor (get_or s (q / 8) 0) (2 ^ (q % 8)))

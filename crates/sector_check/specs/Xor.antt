-- The exclusive or of several numbers, and the binary digits of one.
use Rattle.std.specs.Prelude.{ℕ, zero, suc, ◌/◌, ◌%◌, ◌^◌}
use Rattle.std.specs.Int.Bits.{bit_xor}

-- the exclusive or of f 0, .., f (n - 1)
unfoldable pub xor_to : ℕ → (ℕ → ℕ) → ℕ
xor_to zero f = 0
xor_to (suc n) f = bit_xor (xor_to n f) (f n)

-- binary digit i of v
unfoldable pub digit : ℕ → ℕ → ℕ
digit v i = v / 2 ^ i % 2

-- What the code finds in a sector within a run of bytes: its 64 words in eight rows of eight.
use Rattle.std.specs.Prelude.{◌≡◌, ℕ, ◌+◌, ◌*◌, List}
use Rattle.wire.specs.Numbers.{get}
use Rattle.sector_check.specs.Xor.{xor_to, digit}
use Rattle.sector_check.specs.Word.{parity}

-- the exclusive or of the words of the row at a place
unfoldable pub row_of : List ℕ → ℕ → ℕ
row_of s at = xor_to 8 (λ i. get 8 s (at + 8 * i))

-- the exclusive or of those whose number in the row has the binary digit d
unfoldable pub picked : List ℕ → ℕ → ℕ → ℕ
picked s at d = xor_to 8 (λ i. digit i d * get 8 s (at + 8 * i))

-- what a row gives
pub record IsRow (s : List ℕ) (at all ones twos fours : ℕ) : Type 0 where
  pub is_all : all ≡ row_of s at
  pub is-ones : ones ≡ picked s at 0
  pub is-twos : twos ≡ picked s at 1
  pub is-fours : fours ≡ picked s at 2

-- both of all eight rows
unfoldable pub all_rows : List ℕ → ℕ → ℕ
all_rows s at = xor_to 8 (λ j. row_of s (at + 64 * j))

unfoldable pub picked_rows : List ℕ → ℕ → ℕ → ℕ
picked_rows s at d = xor_to 8 (λ j. picked s (at + 64 * j) d)

-- the exclusive or of 4096 plus the position of each row whose parity is 1
unfoldable pub odd_rows : List ℕ → ℕ → ℕ
odd_rows s at = xor_to 8 (λ j. parity (row_of s (at + 64 * j)) * (512 * (8 + j)))

-- what all rows give
pub record AreRows (s : List ℕ) (at all ones twos fours odd : ℕ) : Type 0 where
  pub are_all : all ≡ all_rows s at
  pub are-ones : ones ≡ picked_rows s at 0
  pub are-twos : twos ≡ picked_rows s at 1
  pub are-fours : fours ≡ picked_rows s at 2
  pub are-odd : odd ≡ odd_rows s at

-- Ones in rows and columns: the exclusive or of their places from the parities of the rows and of the columns.
use mathlib.Core.Path.{◌≡◌, sym, ap, ap₂, ◌∙◌}
use Prim.Native.Nat.{ℕ, zero, suc, ◌+◌, ◌*◌, ◌^◌, ◌≤◌, ◌<◌}
use native.Mathlib.Nat.{zero-mul, mul_comm, one-mul}
use native.Mathlib.Omega.{arith}
use lib.Bits.{bit_xor, xor_shifted}
use Rattle.sector_check.specs.Xor.{xor_to}
use Rattle.sector_check.proofs.XorLaws.{xor_to-through, xor_to-same, xor_to-both, xor_to-swap}
use Rattle.sector_check.proofs.DigitLaws.{xor_to-times, scale-xor}

-- a one in row a and column i of rows of 2 ^ k
weight : (k p a i : ℕ) → p < 2 → i < 2 ^ k → p * (2 ^ k * a + i) ≡ bit_xor (p * a * 2 ^ k) (p * i)
weight k zero a i h q =
    zero-mul (2 ^ k * a + i) ∙ sym (ap₂ bit_xor (ap (λ (x : ℕ). x * 2 ^ k) (zero-mul a) ∙ zero-mul (2 ^ k)) (zero-mul i))
weight k (suc zero) a i h q =
    one-mul (2 ^ k * a + i)
    ∙ ap (λ (x : ℕ). x + i) (mul_comm (2 ^ k) a)
    ∙ sym (xor_shifted a k i q)
    ∙ sym (ap₂ bit_xor (ap (λ (x : ℕ). x * 2 ^ k) (one-mul a)) (one-mul i))
weight k (suc (suc p)) a i h q = absurd (omega arith)

-- m rows of n ones and zeros, p j i in row j and column i, of which row j is numbered from + j
module _ (k m n from : ℕ) (p : ℕ → ℕ → ℕ) (ones : (j i : ℕ) → p j i < 2) (fits : n ≤ 2 ^ k) where
  row : (j : ℕ) → xor_to n (λ i. p j i * (2 ^ k * (from + j) + i)) ≡ bit_xor (xor_to n (p j) * (from + j) * 2 ^ k) (xor_to n (λ i. p j i * i))
  row j =
      xor_to-same n (λ i. p j i * (2 ^ k * (from + j) + i)) (λ i. bit_xor (p j i * (from + j) * 2 ^ k) (p j i * i))
      (λ i h. weight k (p j i) (from + j) i (ones j i) (omega arith))
      ∙ xor_to-both n (λ i. p j i * (from + j) * 2 ^ k) (λ i. p j i * i)
      ∙ ap (λ (x : ℕ). bit_xor x (xor_to n (λ i. p j i * i)))
      (sym
      (ap (λ (x : ℕ). x * 2 ^ k) (xor_to-times n (p j) (from + j) (ones j))
      ∙ xor_to-through (λ x. x * 2 ^ k) (zero-mul (2 ^ k)) (scale-xor k) n (λ i. p j i * (from + j))))

  pub grid : xor_to m (λ j. xor_to n (λ i. p j i * (2 ^ k * (from + j) + i)))
      ≡ bit_xor (xor_to m (λ j. xor_to n (p j) * (from + j)) * 2 ^ k) (xor_to n (λ i. xor_to m (λ j. p j i) * i))
  grid =
      xor_to-same m (λ j. xor_to n (λ i. p j i * (2 ^ k * (from + j) + i)))
      (λ j. bit_xor (xor_to n (p j) * (from + j) * 2 ^ k) (xor_to n (λ i. p j i * i))) (λ j h. row j)
      ∙ xor_to-both m (λ j. xor_to n (p j) * (from + j) * 2 ^ k) (λ j. xor_to n (λ i. p j i * i))
      ∙ ap₂ bit_xor
      (sym (xor_to-through (λ x. x * 2 ^ k) (zero-mul (2 ^ k)) (scale-xor k) m (λ j. xor_to n (p j) * (from + j))))
      (xor_to-swap m n (λ j i. p j i * i)
      ∙ xor_to-same n (λ i. xor_to m (λ j. p j i * i)) (λ i. xor_to m (λ j. p j i) * i)
      (λ i h. sym (xor_to-times m (λ j. p j i) i (λ j. ones j i))))

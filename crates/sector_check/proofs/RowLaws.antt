-- The check of a sector from its rows of eight words, as the code finds it.
use mathlib.Core.Path.{◌≡◌, refl, ap, ◌∙◌, sym, ap₂}
use Prim.Native.Nat.{ℕ, ◌+◌, ◌*◌, zero, suc, ◌^◌, ◌<◌}
use native.Mathlib.Nat.{mul-zero, mul_assoc, mul_comm}
use native.Mathlib.Omega.{arith}
use mathlib.Core.List.{List}
use lib.Bits.{bit_xor}
use lib.Dec.{eqb}
use borrow.Author.Tests.{eqb-true}
use Rattle.wire.specs.Numbers.{get}
use Rattle.wire.specs.Parts.{part}
use Rattle.wire.specs.Bytes.{Bytes}
use Rattle.wire.proofs.BytesLaws.{get-fits}
use Rattle.wire.proofs.ChoiceLaws.{below_all}
use Rattle.sector_check.specs.Xor.{xor_to, digit}
use Rattle.sector_check.specs.Word.{parity, places}
use Rattle.sector_check.specs.Check.{bit_at, check_of}
use Rattle.sector_check.specs.Row.{row_of, picked, all_rows, picked_rows, odd_rows}
use Rattle.sector_check.proofs.XorLaws.{xor_assoc, xor_to-through, xor_to-same, xor_to-both, xor_to-swap, xor_to-groups}
use Rattle.sector_check.proofs.DigitLaws.{digit_lt, digit-xor, digit-zero, xor-times, scale-xor, parity-lt, parity-zero, parity-xor, parity-times, parity-digits}
use Rattle.sector_check.proofs.GridLaws.{grid}
use Rattle.sector_check.proofs.WordLaws.{bit_word}

-- ---- 64 words, whose digits are the sector's bits

module _ (s : List ℕ) (word : ℕ → ℕ) (small : (w : ℕ) → word w < 2 ^ 64) (bits : (w i : ℕ) → w < 64 → i < 64 → bit_at s (64 * w + i) ≡ digit (word w) i) where
  by-words : check_of s ≡ bit_xor (xor_to 64 (λ w. parity (word w) * (64 + w)) * 64) (places 64 (xor_to 64 word))
  unfolding check_of places
  by-words =
      xor_to-groups 64 64 (λ q. bit_at s q * (4096 + q))
      ∙ xor_to-same 64 (λ w. xor_to 64 (λ i. bit_at s (64 * w + i) * (4096 + (64 * w + i))))
      (λ w. xor_to 64 (λ i. digit (word w) i * (64 * (64 + w) + i)))
      (λ w p. xor_to-same 64 (λ i. bit_at s (64 * w + i) * (4096 + (64 * w + i))) (λ i. digit (word w) i * (64 * (64 + w) + i))
      (λ i q. ap₂ (λ (x y : ℕ). x * y) (bits w i p q) (omega arith)))
      ∙ grid 6 64 64 64 (λ w. digit (word w)) (λ w. digit_lt (word w)) (omega arith)
      ∙ ap₂ (λ (x y : ℕ). bit_xor (x * 64) y)
      (xor_to-same 64 (λ w. xor_to 64 (digit (word w)) * (64 + w)) (λ w. parity (word w) * (64 + w))
      (λ w p. ap (λ (x : ℕ). x * (64 + w)) (sym (parity-digits 64 (word w) (small w)))))
      (xor_to-same 64 (λ i. xor_to 64 (λ w. digit (word w) i) * i) (λ i. digit (xor_to 64 word) i * i)
      (λ i p. ap (λ (x : ℕ). x * i) (sym (xor_to-through (λ v. digit v i) (digit-zero i) (digit-xor i) 64 word))))

-- ---- numbers below 8 by their three digits

-- c times i
abbrev split : ℕ → ℕ → ℕ
split c i = bit_xor (digit i 2 * c * 4) (bit_xor (digit i 1 * c * 2) (digit i 0 * c))

three : (c i : ℕ) → c < 2 → i < 8 → c * i ≡ split c i
unfolding digit
three zero i h p = eqb-true (0 * i) (split 0 i) (below_all 8 (λ k. eqb (0 * k) (split 0 k)) refl i p)
three (suc zero) i h p = eqb-true (1 * i) (split 1 i) (below_all 8 (λ k. eqb (1 * k) (split 1 k)) refl i p)
three (suc (suc c)) i h p = absurd (omega arith)

by_digits : (c : ℕ → ℕ) → ((i : ℕ) → c i < 2) → xor_to 8 (λ i. c i * i)
    ≡ bit_xor (xor_to 8 (λ i. digit i 2 * c i) * 4) (bit_xor (xor_to 8 (λ i. digit i 1 * c i) * 2) (xor_to 8 (λ i. digit i 0 * c i)))
by_digits c h =
    xor_to-same 8 (λ i. c i * i) (λ i. split (c i) i) (λ i p. three (c i) i (h i) p)
    ∙ xor_to-both 8 (λ i. digit i 2 * c i * 4) (λ i. bit_xor (digit i 1 * c i * 2) (digit i 0 * c i))
    ∙ ap₂ bit_xor (sym (xor_to-through (λ x. x * 4) refl (scale-xor 2) 8 (λ i. digit i 2 * c i)))
    (xor_to-both 8 (λ i. digit i 1 * c i * 2) (λ i. digit i 0 * c i)
    ∙ ap (λ (x : ℕ). bit_xor x (xor_to 8 (λ i. digit i 0 * c i))) (sym (xor_to-through (λ x. x * 2) refl (scale-xor 1) 8 (λ i. digit i 1 * c i))))

-- ---- eight rows of eight words

parity-line : (f : ℕ → ℕ) → xor_to 8 (λ i. parity (f i)) ≡ parity (xor_to 8 f)
parity-line f = sym (xor_to-through parity parity-zero parity-xor 8 f)

module _ (word : ℕ → ℕ → ℕ) where
  column : ℕ → ℕ
  column i = xor_to 8 (λ j. word j i)

  -- the columns whose number has the digit d
  columns : (d : ℕ) → xor_to 8 (λ i. digit i d * parity (column i)) ≡ parity (xor_to 8 (λ j. xor_to 8 (λ i. digit i d * word j i)))
  unfolding column
  columns d =
      xor_to-same 8 (λ i. digit i d * parity (column i)) (λ i. parity (xor_to 8 (λ j. digit i d * word j i)))
      (λ i p. sym (parity-times (digit i d) (column i) (digit_lt i d))
      ∙ ap parity (xor_to-through (λ x. digit i d * x) (mul-zero (digit i d)) (xor-times (digit i d) (digit_lt i d)) 8 (λ j. word j i)))
      ∙ parity-line (λ i. xor_to 8 (λ j. digit i d * word j i))
      ∙ ap parity (sym (xor_to-swap 8 8 (λ j i. digit i d * word j i)))

  by_rows : xor_to 8 (λ j. xor_to 8 (λ i. parity (word j i) * (8 * (8 + j) + i)))
      ≡ bit_xor (xor_to 8 (λ j. parity (xor_to 8 (word j)) * (8 + j)) * 8)
      (bit_xor (parity (xor_to 8 (λ j. xor_to 8 (λ i. digit i 2 * word j i))) * 4)
      (bit_xor (parity (xor_to 8 (λ j. xor_to 8 (λ i. digit i 1 * word j i))) * 2) (parity (xor_to 8 (λ j. xor_to 8 (λ i. digit i 0 * word j i))))))
  unfolding column
  by_rows =
      grid 3 8 8 8 (λ j i. parity (word j i)) (λ j i. parity-lt (word j i)) (omega arith)
      ∙ ap₂ (λ (x y : ℕ). bit_xor (x * 8) y)
      (xor_to-same 8 (λ j. xor_to 8 (λ i. parity (word j i)) * (8 + j)) (λ j. parity (xor_to 8 (word j)) * (8 + j))
      (λ j p. ap (λ (x : ℕ). x * (8 + j)) (parity-line (word j))))
      (xor_to-same 8 (λ i. xor_to 8 (λ j. parity (word j i)) * i) (λ i. parity (column i) * i)
      (λ i p. ap (λ (x : ℕ). x * i) (parity-line (λ j. word j i)))
      ∙ by_digits (λ i. parity (column i)) (λ i. parity-lt (column i))
      ∙ ap₂ (λ (x y : ℕ). bit_xor (x * 4) y) (columns 2) (ap₂ (λ (x y : ℕ). bit_xor (x * 2) y) (columns 1) (columns 0)))

-- ---- a sector within a run of bytes

-- the weights in one step
odd-weight : (f : ℕ → ℕ) → xor_to 8 (λ j. parity (f j) * (8 + j)) * 8 * 64 ≡ xor_to 8 (λ j. parity (f j) * (512 * (8 + j)))
odd-weight f =
    regrouped (xor_to 8 (λ j. parity (f j) * (8 + j)))
    ∙ xor_to-through (λ x. x * 512) refl (scale-xor 9) 8 (λ j. parity (f j) * (8 + j))
    ∙ xor_to-same 8 (λ j. parity (f j) * (8 + j) * 512) (λ j. parity (f j) * (512 * (8 + j)))
    (λ j p. mul_assoc (parity (f j)) (8 + j) 512 ∙ ap (λ (x : ℕ). parity (f j) * x) (mul_comm (8 + j) 512))
  where
    regrouped : (x : ℕ) → x * 8 * 64 ≡ x * 512
    regrouped x = omega arith

column-weight : (a b c : ℕ) → bit_xor (a * 4) (bit_xor (b * 2) c) * 64 ≡ bit_xor (a * 256) (bit_xor (b * 128) (c * 64))
column-weight a b c =
    scale-xor 6 (a * 4) (bit_xor (b * 2) c)
    ∙ ap₂ bit_xor (regrouped a 4) (scale-xor 6 (b * 2) c ∙ ap (λ (x : ℕ). bit_xor x (c * 64)) (regrouped b 2))
  where
    regrouped : (x n : ℕ) → x * n * 64 ≡ x * (n * 64)
    regrouped x n = mul_assoc x n 64

module _ (s : List ℕ) (at : ℕ) (b : Bytes s) where
  -- word i of row j
  abbrev word : ℕ → ℕ → ℕ
  word j i = get 8 s (at + 64 * j + 8 * i)

  regroup : (j i : ℕ) → get 8 s (at + 8 * (8 * j + i)) ≡ word j i
  regroup j i = ap (get 8 s) (omega arith)

  numbers : xor_to 64 (λ w. parity (get 8 s (at + 8 * w)) * (64 + w)) ≡ xor_to 8 (λ j. xor_to 8 (λ i. parity (word j i) * (8 * (8 + j) + i)))
  numbers =
      xor_to-groups 8 8 (λ w. parity (get 8 s (at + 8 * w)) * (64 + w))
      ∙ xor_to-same 8 (λ j. xor_to 8 (λ i. parity (get 8 s (at + 8 * (8 * j + i))) * (64 + (8 * j + i))))
      (λ j. xor_to 8 (λ i. parity (word j i) * (8 * (8 + j) + i)))
      (λ j p. xor_to-same 8 (λ i. parity (get 8 s (at + 8 * (8 * j + i))) * (64 + (8 * j + i))) (λ i. parity (word j i) * (8 * (8 + j) + i))
      (λ i q. ap₂ (λ (x y : ℕ). parity x * y) (regroup j i) (omega arith)))

  everything : xor_to 64 (λ w. get 8 s (at + 8 * w)) ≡ xor_to 8 (λ j. xor_to 8 (word j))
  everything =
      xor_to-groups 8 8 (λ w. get 8 s (at + 8 * w))
      ∙ xor_to-same 8 (λ j. xor_to 8 (λ i. get 8 s (at + 8 * (8 * j + i)))) (λ j. xor_to 8 (word j))
      (λ j p. xor_to-same 8 (λ i. get 8 s (at + 8 * (8 * j + i))) (word j) (λ i q. regroup j i))

  pub check-rows : check_of (part s at 512)
      ≡ bit_xor (odd_rows s at)
      (bit_xor (bit_xor (parity (picked_rows s at 2) * 256) (bit_xor (parity (picked_rows s at 1) * 128) (parity (picked_rows s at 0) * 64)))
      (places 64 (all_rows s at)))
  unfolding row_of picked all_rows picked_rows odd_rows
  check-rows =
      by-words (part s at 512) (λ w. get 8 s (at + 8 * w)) (λ w. get-fits 8 s (at + 8 * w) b) (λ w i p q. bit_word s at w i b p q)
      ∙ ap₂ (λ (x y : ℕ). bit_xor (x * 64) (places 64 y)) (numbers ∙ by_rows word) everything
      ∙ ap (λ (x : ℕ). bit_xor x (places 64 (all_rows s at)))
      (scale-xor 6 (xor_to 8 (λ j. parity (xor_to 8 (word j)) * (8 + j)) * 8)
      (bit_xor (parity (picked_rows s at 2) * 4) (bit_xor (parity (picked_rows s at 1) * 2) (parity (picked_rows s at 0))))
      ∙ ap₂ bit_xor (odd-weight (λ j. xor_to 8 (word j))) (column-weight (parity (picked_rows s at 2)) (parity (picked_rows s at 1)) (parity (picked_rows s at 0))))
      ∙ xor_assoc (odd_rows s at)
      (bit_xor (parity (picked_rows s at 2) * 256) (bit_xor (parity (picked_rows s at 1) * 128) (parity (picked_rows s at 0) * 64)))
      (places 64 (all_rows s at))

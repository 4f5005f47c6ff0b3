-- The places of a word's ones, found by halving the word six times.
use mathlib.Core.Path.{◌≡◌, refl, sym, ap, ap₂, ◌∙◌}
use Prim.Native.Nat.{ℕ, ◌+◌, ◌*◌, ◌/◌, ◌%◌, ◌^◌, ◌<◌}
use native.Mathlib.Nat.{zero-add, mul-zero, mul-one, le_refl, mod-lt}
use lib.Pow.{pow_pos, shr_lt}
use lib.Bits.{bit_xor, xor_lt, xor_zero_r}
use Rattle.sector_check.specs.Xor.{xor_to, digit}
use Rattle.sector_check.specs.Word.{parity, places, folded}
use Rattle.sector_check.proofs.XorLaws.{xor_to-same, xor_to-groups}
use Rattle.sector_check.proofs.DigitLaws.{digit_lt, digit-xor, digit-high, digit_low, parity-digits}
use Rattle.sector_check.proofs.GridLaws.{grid}

-- of two numbers, the second
second : (f : ℕ → ℕ) → xor_to 2 (λ j. f j * (0 + j)) ≡ f 1
unfolding xor_to
second f = ap₂ bit_xor (mul-zero (f 0)) (mul-one (f 1))

two : (f : ℕ → ℕ) → xor_to 2 f ≡ bit_xor (f 0) (f 1)
unfolding xor_to
two f = refl

-- a word of two halves of n digits
module _ (k v : ℕ) (h : v < 2 ^ (2 ^ k + 2 ^ k)) where
  high-row : xor_to (2 ^ k) (λ i. digit v (2 ^ k * 1 + i)) ≡ parity (v / 2 ^ 2 ^ k)
  high-row =
      xor_to-same (2 ^ k) (λ i. digit v (2 ^ k * 1 + i)) (digit (v / 2 ^ 2 ^ k))
      (λ i p. ap (λ (x : ℕ). digit v (x + i)) (mul-one (2 ^ k)) ∙ sym (digit-high v (2 ^ k) i))
      ∙ sym (parity-digits (2 ^ k) (v / 2 ^ 2 ^ k) (shr_lt (2 ^ k) (2 ^ k) h))

  column : (i : ℕ) → i < 2 ^ k → xor_to 2 (λ j. digit v (2 ^ k * j + i)) ≡ digit (folded (2 ^ 2 ^ k) v) i
  column i p =
      two (λ j. digit v (2 ^ k * j + i))
      ∙ ap₂ bit_xor (ap (λ (x : ℕ). digit v (x + i)) (mul-zero (2 ^ k)) ∙ ap (digit v) (zero-add i))
      (ap (λ (x : ℕ). digit v (x + i)) (mul-one (2 ^ k)))
      ∙ sym (ap₂ bit_xor (digit_low v (2 ^ k) i p) (digit-high v (2 ^ k) i))
      ∙ sym (digit-xor i (v % 2 ^ 2 ^ k) (v / 2 ^ 2 ^ k))

  halve : places (2 ^ k * 2) v ≡ bit_xor (parity (v / 2 ^ 2 ^ k) * 2 ^ k) (places (2 ^ k) (folded (2 ^ 2 ^ k) v))
  unfolding places
  halve =
      xor_to-groups 2 (2 ^ k) (λ i. digit v i * i)
      ∙ xor_to-same 2 (λ j. xor_to (2 ^ k) (λ i. digit v (2 ^ k * j + i) * (2 ^ k * j + i)))
      (λ j. xor_to (2 ^ k) (λ i. digit v (2 ^ k * j + i) * (2 ^ k * (0 + j) + i)))
      (λ j p. ap (λ (x : ℕ). xor_to (2 ^ k) (λ i. digit v (2 ^ k * j + i) * (2 ^ k * x + i))) (sym (zero-add j)))
      ∙ grid k 2 (2 ^ k) 0 (λ j i. digit v (2 ^ k * j + i)) (λ j i. digit_lt v (2 ^ k * j + i)) (le_refl (2 ^ k))
      ∙ ap₂ bit_xor
      (ap (λ (x : ℕ). x * 2 ^ k) (second (λ j. xor_to (2 ^ k) (λ i. digit v (2 ^ k * j + i))) ∙ high-row))
      (xor_to-same (2 ^ k) (λ i. xor_to 2 (λ j. digit v (2 ^ k * j + i)) * i) (λ i. digit (folded (2 ^ 2 ^ k) v) i * i)
      (λ i p. ap (λ (x : ℕ). x * i) (column i p)))

  folded-lt : folded (2 ^ 2 ^ k) v < 2 ^ 2 ^ k
  folded-lt =
      xor_lt (2 ^ k) (v % 2 ^ 2 ^ k) (v / 2 ^ 2 ^ k) (mod-lt v (pow_pos (2 ^ k))) (shr_lt (2 ^ k) (2 ^ k) h)

places-one : (v : ℕ) → places 1 v ≡ 0
unfolding places xor_to
places-one v = mul-zero (digit v 0)

last : (v : ℕ) → v < 4 → places 2 v ≡ parity (v / 2) * 1
last v h = halve 0 v h ∙ ap (bit_xor (parity (v / 2) * 1)) (places-one (folded 2 v)) ∙ xor_zero_r (parity (v / 2) * 1)

-- all six halvings, as the code does them
pub places-halved : (v : ℕ) → v < 2 ^ 64
    → (a b c d e : ℕ) → a ≡ folded 4294967296 v → b ≡ folded 65536 a → c ≡ folded 256 b → d ≡ folded 16 c → e ≡ folded 4 d
    → bit_xor (parity (v / 4294967296) * 32)
    (bit_xor (parity (a / 65536) * 16) (bit_xor (parity (b / 256) * 8) (bit_xor (parity (c / 16) * 4) (bit_xor (parity (d / 4) * 2) (parity (e / 2) * 1)))))
    ≡ places 64 v
places-halved v h a b c d e ea eb ec ed ee =
    let ha : a < 2 ^ 32 = rw ea (folded-lt 5 v h) in
    let hb : b < 2 ^ 16 = rw eb (folded-lt 4 a ha) in
    let hc : c < 2 ^ 8 = rw ec (folded-lt 3 b hb) in
    let hd : d < 2 ^ 4 = rw ed (folded-lt 2 c hc) in
    let he : e < 2 ^ 2 = rw ee (folded-lt 1 d hd) in
    sym
    (halve 5 v h
    ∙ ap (bit_xor (parity (v / 4294967296) * 32)) (ap (places 32) (sym ea) ∙ halve 4 a ha
    ∙ ap (bit_xor (parity (a / 65536) * 16)) (ap (places 16) (sym eb) ∙ halve 3 b hb
    ∙ ap (bit_xor (parity (b / 256) * 8)) (ap (places 8) (sym ec) ∙ halve 2 c hc
    ∙ ap (bit_xor (parity (c / 16) * 4)) (ap (places 4) (sym ed) ∙ halve 1 d hd
    ∙ ap (bit_xor (parity (d / 4) * 2)) (ap (places 2) (sym ee) ∙ last e he))))))

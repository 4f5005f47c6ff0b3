-- Laws of binary digits and of the parity.
use mathlib.Core.Path.{◌≡◌, refl, sym, ap, ap₂, ◌∙◌}
use Prim.Native.Nat.{ℕ, zero, suc, ◌+◌, ◌-◌, ◌*◌, ◌/◌, ◌%◌, ◌^◌, ◌<◌}
use native.Mathlib.Nat.{mod-lt, zero-add, add-zero, zero-mul, one-mul, zero-lt-suc, div-one, zero-div, div-div-eq-div-mul, pow-succ'}
use native.Mathlib.Omega.{arith}
use lib.Arith.{bin_ind, lt-one}
use lib.Pow.{pow_pos, field, mod-mod-pow, shr-shr, shr_lt}
use lib.Bits.{bit_xor, xor_shr, xor_mod, xor_self, xor_zero_r, xor_block}
use lib.Count.{ones, ones_step}
use Rattle.sector_check.specs.Xor.{xor_to, digit}
use Rattle.sector_check.specs.Word.{parity}
use Rattle.sector_check.proofs.XorLaws.{xor_assoc, xor-pairs, xor_to-same, xor_to-lt}

-- ---- digits

pub digit_lt : (v i : ℕ) → digit v i < 2
unfolding digit
digit_lt v i = mod-lt (v / 2 ^ i) (zero-lt-suc 1)

pub digit-xor : (i a b : ℕ) → digit (bit_xor a b) i ≡ bit_xor (digit a i) (digit b i)
unfolding digit
digit-xor i a b = ap (λ (x : ℕ). x % 2) (xor_shr a b i) ∙ xor_mod (a / 2 ^ i) (b / 2 ^ i) 1

pub digit-high : (v n i : ℕ) → digit (v / 2 ^ n) i ≡ digit v (n + i)
unfolding digit
digit-high v n i = ap (λ (x : ℕ). x % 2) (shr-shr v n i)

pub digit_low : (v n i : ℕ) → i < n → digit (v % 2 ^ n) i ≡ digit v i
unfolding digit
digit_low v n i h =
    let e : n ≡ (n - suc i + 1) + i = omega arith in
    ap (λ (k : ℕ). v % 2 ^ k / 2 ^ i % 2) e
    ∙ ap (λ (x : ℕ). x % 2) (field v (n - suc i + 1) i)
    ∙ mod-mod-pow (v / 2 ^ i) (n - suc i) 1

pub digit-half : (v i : ℕ) → digit (v / 2) i ≡ digit v (suc i)
unfolding digit
digit-half v i = ap (λ (x : ℕ). x % 2) (div-div-eq-div-mul v 2 (2 ^ i)) ∙ ap (λ (x : ℕ). v / x % 2) (sym (pow-succ' 2 i))

pub digit-first : (v : ℕ) → digit v 0 ≡ v % 2
unfolding digit
digit-first v = ap (λ (x : ℕ). x % 2) (div-one v)

pub digit-zero : (i : ℕ) → digit 0 i ≡ 0
unfolding digit
digit-zero i = ap (λ (x : ℕ). x % 2) (zero-div (2 ^ i))

-- ---- a digit as a factor

pub digit-times-lt : (b x n : ℕ) → b < 2 → x < n → b * x < n
digit-times-lt zero x n p q = omega arith
digit-times-lt (suc zero) x n p q = omega arith
digit-times-lt (suc (suc b)) x n p q = absurd (omega arith)

pub times-xor : (a b n : ℕ) → a < 2 → b < 2 → bit_xor a b * n ≡ bit_xor (a * n) (b * n)
times-xor zero b n p q = ap (λ (x : ℕ). bit_xor x (b * n)) (sym (zero-mul n))
times-xor (suc zero) zero n p q = sym (ap (bit_xor (1 * n)) (zero-mul n) ∙ xor_zero_r (1 * n))
times-xor (suc zero) (suc zero) n p q = zero-mul n ∙ sym (xor_self (1 * n))
times-xor (suc zero) (suc (suc b)) n p q = absurd (omega arith)
times-xor (suc (suc a)) b n p q = absurd (omega arith)

pub xor-times : (b : ℕ) → b < 2 → (x y : ℕ) → b * bit_xor x y ≡ bit_xor (b * x) (b * y)
xor-times zero h x y = zero-mul (bit_xor x y) ∙ sym (ap₂ bit_xor (zero-mul x) (zero-mul y))
xor-times (suc zero) h x y = one-mul (bit_xor x y) ∙ sym (ap₂ bit_xor (one-mul x) (one-mul y))
xor-times (suc (suc b)) h x y = absurd (omega arith)

pub xor_to-times : (n : ℕ) (f : ℕ → ℕ) (w : ℕ) → ((i : ℕ) → f i < 2) → xor_to n f * w ≡ xor_to n (λ i. f i * w)
unfolding xor_to
xor_to-times zero f w h = zero-mul w
xor_to-times (suc n) f w h =
    times-xor (xor_to n f) (f n) w (xor_to-lt 1 n f (λ i p. h i)) (h n) ∙ ap (λ (x : ℕ). bit_xor x (f n * w)) (xor_to-times n f w h)

-- a power of two as a factor
pub scale-xor : (k a b : ℕ) → bit_xor a b * 2 ^ k ≡ bit_xor (a * 2 ^ k) (b * 2 ^ k)
scale-xor k a b =
    sym (add-zero (bit_xor a b * 2 ^ k))
    ∙ sym (xor_block k a b 0 0 (pow_pos k) (pow_pos k))
    ∙ ap₂ bit_xor (add-zero (a * 2 ^ k)) (add-zero (b * 2 ^ k))

-- ---- the parity

pub sum-odd : (x y : ℕ) → x < 2 → (x + y) % 2 ≡ bit_xor x (y % 2)
sum-odd zero y p = ap (λ (n : ℕ). n % 2) (zero-add y)
sum-odd (suc zero) y p = go (y % 2) refl
  where
    go : (r : ℕ) → y % 2 ≡ r → (1 + y) % 2 ≡ bit_xor 1 r
    go zero e = omega arith
    go (suc zero) e = omega arith
    go (suc (suc r)) e = absurd (omega arith)
sum-odd (suc (suc x)) y p = absurd (omega arith)

parity-step : (v : ℕ) → parity v ≡ bit_xor (v % 2) (parity (v / 2))
parity-step v = ap (λ (x : ℕ). x % 2) (ones_step v) ∙ sum-odd (v % 2) (ones (v / 2)) (mod-lt v (zero-lt-suc 1))

pub parity-lt : (v : ℕ) → parity v < 2
parity-lt v = mod-lt (ones v) (zero-lt-suc 1)

pub parity-zero : parity 0 ≡ 0
unfolding ones
parity-zero = refl

pub parity-times : (b v : ℕ) → b < 2 → parity (b * v) ≡ b * parity v
parity-times zero v h = ap parity (zero-mul v) ∙ parity-zero ∙ sym (zero-mul (parity v))
parity-times (suc zero) v h = ap parity (one-mul v) ∙ sym (one-mul (parity v))
parity-times (suc (suc b)) v h = absurd (omega arith)

pub parity-xor : (a b : ℕ) → parity (bit_xor a b) ≡ bit_xor (parity a) (parity b)
parity-xor =
    bin_ind (λ (n : ℕ). (b : ℕ) → parity (bit_xor n b) ≡ bit_xor (parity n) (parity b))
    (λ b. ap (λ (x : ℕ). bit_xor x (parity b)) (sym parity-zero)) (λ n ih b.
    parity-step (bit_xor n b)
    ∙ ap₂ bit_xor (xor_mod n b 1) (ap parity (xor_shr n b 1) ∙ ih (b / 2))
    ∙ xor-pairs (n % 2) (b % 2) (parity (n / 2)) (parity (b / 2))
    ∙ sym (ap₂ bit_xor (parity-step n) (parity-step b)))

xor_to-front : (n : ℕ) (f : ℕ → ℕ) → xor_to (suc n) f ≡ bit_xor (f 0) (xor_to n (λ i. f (suc i)))
unfolding xor_to
xor_to-front zero f = sym (xor_zero_r (f 0))
xor_to-front (suc n) f =
    ap (λ (x : ℕ). bit_xor x (f (suc n))) (xor_to-front n f) ∙ xor_assoc (f 0) (xor_to n (λ i. f (suc i))) (f (suc n))

-- the parity is the exclusive or of the digits
pub parity-digits : (n v : ℕ) → v < 2 ^ n → parity v ≡ xor_to n (digit v)
unfolding xor_to
parity-digits zero v h = ap parity (lt-one h) ∙ parity-zero
parity-digits (suc n) v h =
    parity-step v
    ∙ ap₂ bit_xor (sym (digit-first v))
    (parity-digits n (v / 2) (half n h) ∙ xor_to-same n (digit (v / 2)) (λ i. digit v (suc i)) (λ i p. digit-half v i))
    ∙ sym (xor_to-front n (digit v))
  where
    half : (n : ℕ) → v < 2 ^ suc n → v / 2 < 2 ^ n
    half n h = shr_lt n 1 (rw (native.Mathlib.Numerals.add-one n) h)

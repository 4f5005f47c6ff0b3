-- What a flipped bit does to a sector and to its check.
use mathlib.Core.Path.{◌≡◌, refl, sym, ap, ◌∙◌}
use mathlib.Core.Bool.{Bool, true, false}
use Prim.Native.Nat.{ℕ, zero, suc, ◌+◌, ◌*◌, ◌/◌, ◌%◌, ◌^◌, ◌≤◌, ◌<◌}
use native.Mathlib.Nat.{zero-mul, one-mul}
use native.Mathlib.Omega.{arith}
use mathlib.Core.List.{List, [], ◌∷◌, ◌++◌, append_assoc}
use lib.ListN.{length, get_or, set, take, drop, length-set, take-append-drop}
use lib.Seq.{sets, sets-eq, drop-drop, get_or-set_same, get_or-set_other, set-set, set-get_or}
use lib.Bits.{bit_xor, xor_zero_r, shifted_half, shifted_even}
use lib.Dec.{eqb, eqb-zero-suc, eqb-suc-zero, eqb-suc-suc}
use borrow.Author.Tests.{eqb-true, eqb-false, eq-eqb, ne_eqb}
use Rattle.wire.specs.Choice.{bit}
use Rattle.wire.specs.Parts.{part}
use Rattle.wire.proofs.PartsLaws.{length_part, get_or_part}
use Rattle.wire.proofs.WithinLaws.{sets-within}
use Rattle.wire.proofs.ChoiceLaws.{tests_same}
use Rattle.sector_check.specs.Xor.{xor_to, digit}
use Rattle.sector_check.specs.Check.{bit_at, check_of, flip}
use Rattle.sector_check.proofs.XorLaws.{xor-again, xor_to-same, xor_to-both}
use Rattle.sector_check.proofs.DigitLaws.{digit_lt, digit-xor, digit-half, digit-first, digit-zero, times-xor}

-- ---- the sector

pub length-flip : (s : List ℕ) (q : ℕ) → length (flip s q) ≡ length s
unfolding flip
length-flip s q = length-set s (q / 8) (bit_xor (get_or s (q / 8) 0) (2 ^ (q % 8)))

-- a second flip takes the first away
pub flip-again : (s : List ℕ) (q : ℕ) → q / 8 < length s → flip (flip s q) q ≡ s
unfolding flip
flip-again s q h =
    let b = get_or s (q / 8) 0 in
    let m = 2 ^ (q % 8) in
    ap (λ (x : ℕ). set (set s (q / 8) (bit_xor b m)) (q / 8) (bit_xor x m)) (get_or-set_same s (q / 8) (bit_xor b m) 0 h)
    ∙ set-set s (q / 8) (bit_xor b m) (bit_xor (bit_xor b m) m)
    ∙ ap (set s (q / 8)) (xor-again b m)
    ∙ set-get_or s (q / 8) 0

-- a part stored where it stands
pub sets-own : (s : List ℕ) (at n : ℕ) → at + n ≤ length s → sets s at (part s at n) ≡ s
sets-own s at n h =
    let e : length (part s at n) ≡ n = length_part s at n h in
    sets-eq (part s at n) s at (rw e h)
    ∙ ap (λ (k : ℕ). take at s ++ part s at n ++ drop (at + k) s) e
    ∙ append_assoc (take at s) (part s at n) (drop (at + n) s)
    ∙ ap (λ (l : List ℕ). take at s ++ (part s at n ++ l)) (sym (drop-drop n at s))
    ∙ ap (λ (l : List ℕ). take at s ++ l) (take-append-drop n (drop at s))
    ∙ take-append-drop at s

-- a bit flipped in the run that a sector is part of
pub flip-within : (s : List ℕ) (at q : ℕ) → at + 512 ≤ length s → q < 4096
    → set s (at + q / 8) (bit_xor (get_or s (at + q / 8) 0) (2 ^ (q % 8))) ≡ sets s at (flip (part s at 512) q)
unfolding flip
flip-within s at q h p =
    let v = bit_xor (get_or s (at + q / 8) 0) (2 ^ (q % 8)) in
    ap (λ (l : List ℕ). set l (at + q / 8) v) (sym (sets-own s at 512 h))
    ∙ sets-within (v ∷ []) (part s at 512) s at (q / 8) (rw (length_part s at 512 h) (below q p))
    ∙ ap (λ (b : ℕ). sets s at (set (part s at 512) (q / 8) (bit_xor b (2 ^ (q % 8))))) (sym (get_or_part s at 512 (q / 8) (omega arith)))
  where
    below : (q : ℕ) → q < 4096 → q / 8 + 1 ≤ 512
    below q p = omega arith

-- ---- its bits

pub bit-lt : (s : List ℕ) (q : ℕ) → bit_at s q < 2
unfolding bit_at
bit-lt s q = digit_lt _ _

one-digit : (a c : ℕ) → digit (2 ^ a) c ≡ bit (eqb c a)
unfolding digit
one-digit zero zero = refl
one-digit zero (suc c) = sym (digit-half 1 c) ∙ digit-zero c ∙ ap bit (sym (eqb-suc-zero c))
one-digit (suc a) zero =
    digit-first (2 ^ suc a)
    ∙ ap (λ (x : ℕ). x % 2) (sym (one-mul (2 ^ suc a)))
    ∙ shifted_even 1 a
    ∙ ap bit (sym (eqb-zero-suc a))
one-digit (suc a) (suc c) =
    sym (digit-half (2 ^ suc a) c)
    ∙ ap (λ (x : ℕ). digit x c) (ap (λ (x : ℕ). x / 2) (sym (one-mul (2 ^ suc a))) ∙ shifted_half 1 a ∙ one-mul (2 ^ a))
    ∙ one-digit a c
    ∙ ap bit (sym (eqb-suc-suc c a))

same_place : (p q : ℕ) → p / 8 ≡ q / 8 → eqb (p % 8) (q % 8) ≡ eqb p q
same_place p q e =
    tests_same (eqb (p % 8) (q % 8)) (eqb p q) (λ t. eq-eqb p q (joined (eqb-true (p % 8) (q % 8) t)))
    (λ t. eq-eqb (p % 8) (q % 8) (ap (λ (x : ℕ). x % 8) (eqb-true p q t)))
  where
    joined : p % 8 ≡ q % 8 → p ≡ q
    joined d = omega arith

-- one bit differs: the one at the position
pub bit-flip : (s : List ℕ) (q p : ℕ) → q / 8 < length s → bit_at (flip s q) p ≡ bit_xor (bit_at s p) (bit (eqb p q))
unfolding bit_at flip
bit-flip s q p h = go (eqb (p / 8) (q / 8)) refl
  where
    go : (t : Bool) → eqb (p / 8) (q / 8) ≡ t
        → digit (get_or (set s (q / 8) (bit_xor (get_or s (q / 8) 0) (2 ^ (q % 8)))) (p / 8) 0) (p % 8)
        ≡ bit_xor (digit (get_or s (p / 8) 0) (p % 8)) (bit (eqb p q))
    go true t =
        let e : p / 8 ≡ q / 8 = eqb-true (p / 8) (q / 8) t in
        rw e
        (ap (λ (x : ℕ). digit x (p % 8)) (get_or-set_same s (q / 8) (bit_xor (get_or s (q / 8) 0) (2 ^ (q % 8))) 0 h)
        ∙ digit-xor (p % 8) (get_or s (q / 8) 0) (2 ^ (q % 8))
        ∙ ap (bit_xor (digit (get_or s (q / 8) 0) (p % 8))) (one-digit (q % 8) (p % 8) ∙ ap bit (same_place p q e)))
    go false t =
        let n : p / 8 ≡ q / 8 → ⊥ = eqb-false (p / 8) (q / 8) t in
        ap (λ (x : ℕ). digit x (p % 8)) (get_or-set_other s (q / 8) (p / 8) (bit_xor (get_or s (q / 8) 0) (2 ^ (q % 8))) 0 n)
        ∙ sym (xor_zero_r (digit (get_or s (p / 8) 0) (p % 8)))
        ∙ ap (λ (x : Bool). bit_xor (digit (get_or s (p / 8) 0) (p % 8)) (bit x))
        (sym (ne_eqb p q (λ e. n (ap (λ (x : ℕ). x / 8) e))))

-- ---- its check

-- of several numbers, all but one taken away
none : (n q : ℕ) (f : ℕ → ℕ) → n ≤ q → xor_to n (λ p. bit (eqb p q) * f p) ≡ 0
unfolding xor_to
none zero q f h = refl
none (suc n) q f h =
    rw (none n q f (omega arith), ne_eqb n q (λ e. omega arith)) (zero-mul (f n))

only : (n q : ℕ) (f : ℕ → ℕ) → q < n → xor_to n (λ p. bit (eqb p q) * f p) ≡ f q
unfolding xor_to
only zero q f h = absurd (omega arith)
only (suc n) q f h = go (eqb n q) refl (only n q f)
  where
    go : (t : Bool) → eqb n q ≡ t → (q < n → xor_to n (λ p. bit (eqb p q) * f p) ≡ f q)
        → bit_xor (xor_to n (λ p. bit (eqb p q) * f p)) (bit (eqb n q) * f n) ≡ f q
    go true t ih =
        let e : n ≡ q = eqb-true n q t in
        rw (none n q f (omega arith), t) (one-mul (f n) ∙ ap f e)
    go false t ih =
        let e : n ≡ q → ⊥ = eqb-false n q t in
        let k : q < n = omega (arith, e) in
        rw (ih k, t) (ap (bit_xor (f q)) (zero-mul (f n)) ∙ xor_zero_r (f q))

pub check-flip : (s : List ℕ) (q : ℕ) → length s ≡ 512 → q < 4096 → check_of (flip s q) ≡ bit_xor (check_of s) (4096 + q)
unfolding check_of
check-flip s q e h =
    let within : q / 8 < length s = omega arith in
    xor_to-same 4096 (λ p. bit_at (flip s q) p * (4096 + p)) (λ p. bit_xor (bit_at s p * (4096 + p)) (bit (eqb p q) * (4096 + p)))
    (λ p k. ap (λ (x : ℕ). x * (4096 + p)) (bit-flip s q p within)
    ∙ times-xor (bit_at s p) (bit (eqb p q)) (4096 + p) (bit-lt s p) (bool_lt (eqb p q)))
    ∙ xor_to-both 4096 (λ p. bit_at s p * (4096 + p)) (λ p. bit (eqb p q) * (4096 + p))
    ∙ ap (bit_xor (xor_to 4096 (λ p. bit_at s p * (4096 + p)))) (only 4096 q (λ p. 4096 + p) h)
  where
    bool_lt : (t : Bool) → bit t < 2
    bool_lt true = omega arith
    bool_lt false = omega arith

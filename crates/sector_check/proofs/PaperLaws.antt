-- W-202's rules of the check and of the repair, in its words and numbers.
use mathlib.Core.Path.{◌≡◌, refl, sym, ap, ◌∙◌}
use mathlib.Core.Bool.{Bool, true, false}
use Prim.Native.Nat.{ℕ, zero, suc, ◌+◌, ◌-◌, ◌*◌, ◌/◌, ◌%◌, ◌^◌, ◌<◌}
use native.Mathlib.Nat.{zero-add, zero-mul, zero-div}
use native.Mathlib.Omega.{arith}
use mathlib.Core.List.{List}
use lib.ListN.{length, get_or}
use lib.Bits.{bit_xor, xor_shr, xor_mod, xor_lt, xor_self, xor_comm, xor_zero_l, xor_zero_r, xor_block}
use lib.Dec.{eqb}
use borrow.Author.Tests.{eqb-true, eq-eqb, ne_eqb}
use Rattle.std.specs.Prelude.{if◌then◌else◌}
use Rattle.wire.specs.Parts.{zeros}
use Rattle.wire.proofs.PartsLaws.{length-zeros, get_or-zeros}
use Rattle.sector_check.specs.Xor.{xor_to, digit}
use Rattle.sector_check.specs.Check.{bit_at, check_of, ones_to, flip}
use Rattle.sector_check.specs.Repair.{difference, report_of, repaired_sector}
use Rattle.sector_check.proofs.XorLaws.{xor_assoc, xor-back, xor-zero-eq, xor_to-through, xor_to-same}
use Rattle.sector_check.proofs.DigitLaws.{digit_lt, digit-xor, digit-high, digit-first, sum-odd}
use Rattle.sector_check.proofs.FlipLaws.{length-flip, flip-again, bit-lt, bit-flip, check-flip}
use Rattle.sector_check.proofs.SectorLaws.{check-lt}
use Rattle.sector_check.proofs.RepairLaws.{outcome-0, outcome-1, outcome-2, report-1-back, difference-back}

-- ---- the check

-- "positions (8 times byte plus bit)"
pub position : (s : List ℕ) (byte i : ℕ) → i < 8 → bit_at s (8 * byte + i) ≡ digit (get_or s byte 0) i
unfolding bit_at
position s byte i h = rw (byte_of byte i h, bit-of byte i h)
  where
    byte_of : (byte i : ℕ) → i < 8 → (8 * byte + i) / 8 ≡ byte
    byte_of byte i h = omega arith

    bit-of : (byte i : ℕ) → i < 8 → (8 * byte + i) % 8 ≡ i
    bit-of byte i h = omega arith

-- "bits 0 to 11 are the exclusive or of the positions .. of all one bits"
pub positions : (s : List ℕ) → check_of s % 4096 ≡ xor_to 4096 (λ q. bit_at s q * q)
unfolding check_of
positions s =
    xor_to-through (λ x. x % 4096) refl (λ a b. xor_mod a b 12) 4096 (λ q. bit_at s q * (4096 + q))
    ∙ xor_to-same 4096 (λ q. bit_at s q * (4096 + q) % 4096) (λ q. bit_at s q * q) (λ q h. low (bit_at s q) q (bit-lt s q) h)
  where
    low : (b q : ℕ) → b < 2 → q < 4096 → b * (4096 + q) % 4096 ≡ b * q
    low zero q p h = omega arith
    low (suc zero) q p h = omega arith
    low (suc (suc b)) q p h = absurd (omega arith)

parity-ones : (n : ℕ) (s : List ℕ) → xor_to n (bit_at s) ≡ ones_to n s % 2
unfolding xor_to ones_to
parity-ones zero s = refl
parity-ones (suc n) s =
    ap (λ (x : ℕ). bit_xor x (bit_at s n)) (parity-ones n s)
    ∙ xor_comm (ones_to n s % 2) (bit_at s n)
    ∙ sym (sum-odd (bit_at s n) (ones_to n s) (bit-lt s n))

-- "bit 12 is their parity, the rest 0": what is above bits 0 to 11 is the parity alone
pub parity-bit : (s : List ℕ) → check_of s / 4096 ≡ ones_to 4096 s % 2
unfolding check_of
parity-bit s =
    xor_to-through (λ x. x / 4096) refl (λ a b. xor_shr a b 12) 4096 (λ q. bit_at s q * (4096 + q))
    ∙ xor_to-same 4096 (λ q. bit_at s q * (4096 + q) / 4096) (bit_at s) (λ q h. high (bit_at s q) q (bit-lt s q) h)
    ∙ parity-ones 4096 s
  where
    high : (b q : ℕ) → b < 2 → q < 4096 → b * (4096 + q) / 4096 ≡ b
    high zero q p h = omega arith
    high (suc zero) q p h = omega arith
    high (suc (suc b)) q p h = absurd (omega arith)

-- in numbers: no one bit gives 0; the one bit at position q alone gives 4096 + q
zero_bit : (q : ℕ) → bit_at (zeros 512) q ≡ 0
unfolding bit_at digit
zero_bit q = rw (get_or-zeros 512 (q / 8), zero-div (2 ^ (q % 8)))

xor-zeros : (n : ℕ) → xor_to n (λ q. 0) ≡ 0
unfolding xor_to
xor-zeros zero = refl
xor-zeros (suc n) = rw (xor-zeros n)

pub no_bits : check_of (zeros 512) ≡ 0
unfolding check_of
no_bits =
    xor_to-same 4096 (λ q. bit_at (zeros 512) q * (4096 + q)) (λ q. 0) (λ q h. ap (λ (b : ℕ). b * (4096 + q)) (zero_bit q) ∙ zero-mul (4096 + q))
    ∙ xor-zeros 4096

pub one_bit : (q : ℕ) → q < 4096 → check_of (flip (zeros 512) q) ≡ 4096 + q
one_bit q h = check-flip (zeros 512) q (length-zeros 512) h ∙ ap (λ (x : ℕ). bit_xor x (4096 + q)) no_bits ∙ xor_zero_l (4096 + q)

-- ---- a flipped bit is another one, and the others stay

module _ (s : List ℕ) (q : ℕ) (e : length s ≡ 512) (h : q < 4096) where
  within : q / 8 < length s
  within = omega arith

  pub flipped-bit : bit_at (flip s q) q ≡ 1 - bit_at s q
  flipped-bit = rw (bit-flip s q q within, eq-eqb q q refl) (one (bit_at s q) (bit-lt s q))
    where
      one : (b : ℕ) → b < 2 → bit_xor b 1 ≡ 1 - b
      one zero p = refl
      one (suc zero) p = refl
      one (suc (suc b)) p = absurd (omega arith)

  pub other-bits : (p : ℕ) → (p ≡ q → ⊥) → bit_at (flip s q) p ≡ bit_at s p
  other-bits p n = rw (bit-flip s q p within, ne_eqb p q n) (xor_zero_r (bit_at s p))

-- ---- "reports 0 (check equal)"

module _ (stored : ℕ) (s : List ℕ) where
  pub equal-reports-0 : stored ≡ check_of s → report_of stored s ≡ 0
  unfolding difference
  equal-reports-0 e = (outcome-0 stored s (ap (λ (x : ℕ). bit_xor x (check_of s)) e ∙ xor_self (check_of s))).0

  pub report-0-equal : report_of stored s ≡ 0 → stored ≡ check_of s
  unfolding report_of
  report-0-equal r = go (eqb stored (check_of s)) (eqb (difference stored s / 4096) 1) refl r
    where
      go : (a b : Bool) → eqb stored (check_of s) ≡ a → ◌≡◌ {A = ℕ} (if a then 0 else if b then 1 else 2) 0 → stored ≡ check_of s
      go true b t r = eqb-true stored (check_of s) t
      go false true t r = absurd (omega arith)
      go false false t r = absurd (omega arith)

  -- ---- "1 (bit 12 differs, 13 to 15 don't ..)"

  digits-differ : (i : ℕ) → digit (difference stored s) i ≡ bit_xor (digit stored i) (digit (check_of s) i)
  unfolding difference
  digits-differ i = digit-xor i stored (check_of s)

  difference-lt : stored < 65536 → difference stored s < 65536
  unfolding difference
  difference-lt h = xor_lt 16 stored (check_of s) h (omega (arith, check-lt s))

  same_bit : (i : ℕ) → digit stored i ≡ digit (check_of s) i → digit (difference stored s) i ≡ 0
  same_bit i e = digits-differ i ∙ ap (λ (x : ℕ). bit_xor x (digit (check_of s) i)) e ∙ xor_self (digit (check_of s) i)

  bit-same : (i : ℕ) → digit (difference stored s) i ≡ 0 → digit stored i ≡ digit (check_of s) i
  bit-same i e = xor-zero-eq (digit stored i) (digit (check_of s) i) (sym (digits-differ i) ∙ e)

  other-bit : (i : ℕ) → (digit stored i ≡ digit (check_of s) i → ⊥) → digit (difference stored s) i ≡ 1
  other-bit i n = go (digit (difference stored s) i) refl (digit_lt (difference stored s) i)
    where
      go : (d : ℕ) → digit (difference stored s) i ≡ d → d < 2 → d ≡ 1
      go zero e h = absurd (n (bit-same i e))
      go (suc zero) e h = refl
      go (suc (suc d)) e h = absurd (omega arith)

-- four bits that are 1, 0, 0, 0
four : (x : ℕ) → x < 16 → x % 2 ≡ 1 → x / 2 % 2 ≡ 0 → x / 4 % 2 ≡ 0 → x / 8 % 2 ≡ 0 → x ≡ 1
four x h a b c e = last (third (second (first x h e) c) b) a
  where
    first : (x : ℕ) → x < 16 → x / 8 % 2 ≡ 0 → x < 8
    first x h e = omega arith

    second : {x : ℕ} → x < 8 → x / 4 % 2 ≡ 0 → x < 4
    second h e = omega arith

    third : {x : ℕ} → x < 4 → x / 2 % 2 ≡ 0 → x < 2
    third h e = omega arith

    last : {x : ℕ} → x < 2 → x % 2 ≡ 1 → x ≡ 1
    last h e = omega arith

top : (d i j : ℕ) → 12 + i ≡ j → digit d j ≡ digit (d / 4096) i
top d i j e = ap (digit d) (sym e) ∙ sym (digit-high d 12 i)

high : (d : ℕ) → d < 65536 → digit d 12 ≡ 1 → digit d 13 ≡ 0 → digit d 14 ≡ 0 → digit d 15 ≡ 0 → d / 4096 ≡ 1
unfolding digit
high d h a b c e =
    four (d / 4096) (omega arith) (sym (digit-first (d / 4096)) ∙ sym (top d 0 12 refl) ∙ a) (sym (top d 1 13 refl) ∙ b) (sym (top d 2 14 refl) ∙ c)
    (sym (top d 3 15 refl) ∙ e)

low : (d i n : ℕ) → d / 4096 ≡ 1 → digit 1 i ≡ n → digit d (12 + i) ≡ n
low d i n e f = sym (digit-high d 12 i) ∙ ap (λ (x : ℕ). digit x i) e ∙ f

clash : {x : ℕ} → x ≡ 1 → x ≡ 0 → ⊥
clash a b = omega arith

-- bit 12 differs, bits 13 to 15 do not
pub record Bit12Differs (stored : ℕ) (s : List ℕ) : Type 0 where
  pub bit-12 : digit stored 12 ≡ digit (check_of s) 12 → ⊥
  pub bit-13 : digit stored 13 ≡ digit (check_of s) 13
  pub bit-14 : digit stored 14 ≡ digit (check_of s) 14
  pub bit-15 : digit stored 15 ≡ digit (check_of s) 15

module _ (stored : ℕ) (s : List ℕ) where
  pub bits-report-1 : stored < 65536 → Bit12Differs stored s → report_of stored s ≡ 1
  bits-report-1 h b =
      (outcome-1 stored s
      (high (difference stored s) (difference-lt stored s h) (other-bit stored s 12 b.bit-12) (same_bit stored s 13 b.bit-13)
      (same_bit stored s 14 b.bit-14) (same_bit stored s 15 b.bit-15))).0

  pub report-1-bits : report_of stored s ≡ 1 → Bit12Differs stored s
  unfolding digit
  report-1-bits r =
      let e = report-1-back stored s r in
      let d = difference stored s in
      record {
        bit-12 = λ same. clash (low d 0 1 e refl) (same_bit stored s 12 same);
        bit-13 = bit-same stored s 13 (low d 1 0 e refl);
        bit-14 = bit-same stored s 14 (low d 2 0 e refl);
        bit-15 = bit-same stored s 15 (low d 3 0 e refl);
      }

  -- "or 2 (else)"
  pub report-2-else : (report_of stored s ≡ 0 → ⊥) → (report_of stored s ≡ 1 → ⊥) → report_of stored s ≡ 2
  unfolding report_of
  report-2-else = go (eqb stored (check_of s)) (eqb (difference stored s / 4096) 1)
    where
      go : (a b : Bool) → (◌≡◌ {A = ℕ} (if a then 0 else if b then 1 else 2) 0 → ⊥) → (◌≡◌ {A = ℕ} (if a then 0 else if b then 1 else 2) 1 → ⊥)
          → ◌≡◌ {A = ℕ} (if a then 0 else if b then 1 else 2) 2
      go true b m n = absurd (m refl)
      go false true m n = absurd (n refl)
      go false false m n = refl

-- ---- "With sound check bytes one flipped data bit is mended and two give 2."

module _ (stored : ℕ) (s : List ℕ) (sound : stored ≡ check_of s) (e : length s ≡ 512) where
  -- one flip: the difference tells the position
  after_one : (q : ℕ) → q < 4096 → difference stored (flip s q) ≡ 4096 + q
  unfolding difference
  after_one q h = rw sound (ap (bit_xor (check_of s)) (check-flip s q e h) ∙ xor-back (check_of s) (4096 + q))

  pub one-flip-repaired : (q : ℕ) → q < 4096 → (report_of stored (flip s q) ≡ 1) × (repaired_sector stored (flip s q) ≡ s)
  one-flip-repaired q h =
      let t = outcome-1 stored (flip s q) (rw (after_one q h) (above q h)) in
      (t.0, t.1 ∙ ap (flip (flip s q)) (rw (after_one q h) (below q h)) ∙ flip-again s q (omega arith))
    where
      above : (q : ℕ) → q < 4096 → (4096 + q) / 4096 ≡ 1
      above q h = omega arith

      below : (q : ℕ) → q < 4096 → (4096 + q) % 4096 ≡ q
      below q h = omega arith

  -- two flips: bit 12 is the same, and the positions still differ
  after_two : (p q : ℕ) → p < 4096 → q < 4096 → difference stored (flip (flip s p) q) ≡ bit_xor p q
  unfolding difference
  after_two p q h k =
      rw sound
      (ap (bit_xor (check_of s)) (check-flip (flip s p) q (length-flip s p ∙ e) k ∙ ap (λ (x : ℕ). bit_xor x (4096 + q)) (check-flip s p e h))
      ∙ ap (bit_xor (check_of s)) (xor_assoc (check_of s) (4096 + p) (4096 + q))
      ∙ xor-back (check_of s) (bit_xor (4096 + p) (4096 + q))
      ∙ xor_block 12 1 1 p q h k
      ∙ zero-add (bit_xor p q))

  pub two-flips-report-2 : (p q : ℕ) → p < 4096 → q < 4096 → (p ≡ q → ⊥) → report_of stored (flip (flip s p) q) ≡ 2
  two-flips-report-2 p q h k n =
      (outcome-2 stored (flip (flip s p) q) (λ d. n (xor-zero-eq p q (sym (after_two p q h k) ∙ d)))
      (λ d. small (xor_lt 12 p q h k) (rw (after_two p q h k) at d))).0
    where
      small : {x : ℕ} → x < 4096 → x / 4096 ≡ 1 → ⊥
      small a b = omega arith

-- ---- bit 12 alone differs: report 1, and the bit at position 0 is flipped

pub bit-12-alone : (stored : ℕ) (s : List ℕ) → difference stored s ≡ 4096 → (report_of stored s ≡ 1) × (repaired_sector stored s ≡ flip s 0)
bit-12-alone stored s e = let t = outcome-1 stored s (rw e) in (t.0, t.1 ∙ ap (λ (x : ℕ). flip s (x % 4096)) e)

-- ---- any stored check: after report 1 it is the computed one, and a second repair reports 0

module _ (stored : ℕ) (s : List ℕ) (e : length s ≡ 512) (r : report_of stored s ≡ 1) where
  pub stored-is-computed : stored ≡ check_of (repaired_sector stored s)
  stored-is-computed =
      let d = difference stored s in
      let h : d / 4096 ≡ 1 = report-1-back stored s r in
      let whole : 4096 + d % 4096 ≡ d = omega arith in
      sym
      (ap check_of (outcome-1 stored s h).1
      ∙ check-flip s (d % 4096) e (omega arith)
      ∙ ap (bit_xor (check_of s)) whole
      ∙ difference-back stored s)

  pub second-reports-0 : report_of stored (repaired_sector stored s) ≡ 0
  second-reports-0 = equal-reports-0 stored (repaired_sector stored s) stored-is-computed

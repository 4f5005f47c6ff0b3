-- For callers: a check is below 8192, that of zeros is 0, and a sector with a bit flipped, or repaired, is a sector of the same length.
use mathlib.Core.Path.{◌≡◌, refl, ap, ◌∙◌}
use mathlib.Core.Bool.{Bool, true, false}
use Prim.Native.Nat.{ℕ, ◌+◌, ◌*◌, ◌/◌, ◌%◌, ◌^◌, ◌<◌}
use native.Mathlib.Nat.{mod-lt, zero-lt-suc, zero-mul}
use native.Mathlib.Omega.{arith}
use mathlib.Core.List.{List}
use lib.ListN.{length, get_or}
use lib.Bits.{bit_xor, xor_lt}
use lib.Pow.{pow-lt}
use lib.Dec.{eqb}
use Rattle.std.specs.Prelude.{if◌then◌else◌}
use Rattle.wire.specs.Parts.{zeros}
use Rattle.wire.specs.Bytes.{Bytes}
use Rattle.wire.proofs.PartsLaws.{get_or-zeros}
use Rattle.wire.proofs.BytesLaws.{bytes-set}
use Rattle.sector_check.specs.Xor.{digit}
use Rattle.sector_check.specs.Check.{bit_at, check_of, flip}
use Rattle.sector_check.specs.Repair.{difference, report_of, repaired_sector}
use Rattle.sector_check.proofs.XorLaws.{xor_to-same, xor_to-zeros, xor_to-lt}
use Rattle.sector_check.proofs.DigitLaws.{digit-zero, digit-times-lt}
use Rattle.sector_check.proofs.FlipLaws.{length-flip, bit-lt}

-- ---- the check

pub check-lt : (s : List ℕ) → check_of s < 8192
unfolding check_of
check-lt s =
    xor_to-lt 13 4096 (λ q. bit_at s q * (4096 + q)) (λ q h. digit-times-lt (bit_at s q) (4096 + q) 8192 (bit-lt s q) (omega arith))

-- it fits in the two bytes of a sector
pub check-fits : (s : List ℕ) → check_of s < 256 ^ 2
check-fits s = omega (arith, check-lt s)

zero_bit : (n q : ℕ) → bit_at (zeros n) q ≡ 0
unfolding bit_at
zero_bit n q = ap (λ (x : ℕ). digit x (q % 8)) (get_or-zeros n (q / 8)) ∙ digit-zero (q % 8)

pub check-zeros : (n : ℕ) → check_of (zeros n) ≡ 0
unfolding check_of
check-zeros n =
    xor_to-same 4096 (λ q. bit_at (zeros n) q * (4096 + q)) (λ q. 0)
    (λ q h. ap (λ (x : ℕ). x * (4096 + q)) (zero_bit n q) ∙ zero-mul (4096 + q))
    ∙ xor_to-zeros 4096

-- ---- the sector

pub bytes-flip : (s : List ℕ) (q : ℕ) → Bytes s → Bytes (flip s q)
unfolding flip
bytes-flip s q b =
    bytes-set s (q / 8) (bit_xor (get_or s (q / 8) 0) (2 ^ (q % 8))) b
    (xor_lt 8 (get_or s (q / 8) 0) (2 ^ (q % 8)) (b (q / 8)) (pow-lt (mod-lt q (zero-lt-suc 7))))

module _ (stored : ℕ) (s : List ℕ) where
  pub length-repaired : length (repaired_sector stored s) ≡ length s
  unfolding repaired_sector
  length-repaired = go (eqb (report_of stored s) 1)
    where
      go : (t : Bool) → length (if t then flip s (difference stored s % 4096) else s) ≡ length s
      go true = length-flip s (difference stored s % 4096)
      go false = refl

  pub bytes-repaired : Bytes s → Bytes (repaired_sector stored s)
  unfolding repaired_sector
  bytes-repaired b = go (eqb (report_of stored s) 1)
    where
      go : (t : Bool) → Bytes (if t then flip s (difference stored s % 4096) else s)
      go true = bytes-flip s (difference stored s % 4096) b
      go false = b

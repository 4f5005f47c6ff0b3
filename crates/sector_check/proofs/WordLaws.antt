-- The digits of a number in bytes are those of its bytes.
use mathlib.Core.Path.{◌≡◌, refl, sym, ap, ap₂, ◌∙◌}
use mathlib.Core.Bool.{Bool, true, false}
use Prim.Native.Nat.{ℕ, zero, suc, ◌+◌, ◌-◌, ◌*◌, ◌/◌, ◌%◌, ◌≤◌, ◌<◌}
use native.Mathlib.Omega.{arith}
use mathlib.Core.List.{List}
use lib.ListN.{get_or}
use lib.Dec.{ltb}
use borrow.Author.Tests.{ltb-true, ltb-false}
use Rattle.wire.specs.Numbers.{get}
use Rattle.wire.specs.Parts.{part}
use Rattle.wire.specs.Bytes.{Bytes}
use Rattle.wire.proofs.PartsLaws.{get_or_part}
use Rattle.sector_check.specs.Xor.{digit}
use Rattle.sector_check.specs.Check.{bit_at}
use Rattle.sector_check.proofs.DigitLaws.{digit-high, digit_low}

low_digit : (b g i : ℕ) → b < 256 → i < 8 → digit (b + 256 * g) i ≡ digit b i
low_digit b g i h p = sym (digit_low (b + 256 * g) 8 i p) ∙ ap (λ (x : ℕ). digit x i) (omega arith)

high_digit : (b g i : ℕ) → b < 256 → digit (b + 256 * g) (8 + i) ≡ digit g i
high_digit b g i h = sym (digit-high (b + 256 * g) 8 i) ∙ ap (λ (x : ℕ). digit x i) (omega arith)

digit-get : (k : ℕ) (s : List ℕ) (at i : ℕ) → Bytes s → i < 8 * k → digit (get k s at) i ≡ digit (get_or s (at + i / 8) 0) (i % 8)
unfolding get
digit-get zero s at i b h = absurd (omega arith)
digit-get (suc k) s at i b h = go (ltb i 8) refl (digit-get k s (suc at) (i - 8) b)
  where
    go : (t : Bool) → ltb i 8 ≡ t
        → (i - 8 < 8 * k → digit (get k s (suc at)) (i - 8) ≡ digit (get_or s (suc at + (i - 8) / 8) 0) ((i - 8) % 8))
        → digit (get_or s at 0 + 256 * get k s (suc at)) i ≡ digit (get_or s (at + i / 8) 0) (i % 8)
    go true e ih =
        let p : i < 8 = ltb-true i 8 e in
        low_digit (get_or s at 0) (get k s (suc at)) i (b at) p
        ∙ ap₂ (λ (x y : ℕ). digit (get_or s x 0) y) (omega arith) (omega arith)
    go false e ih =
        let p : 8 ≤ i = ltb-false i 8 e in
        ap (digit (get_or s at 0 + 256 * get k s (suc at))) (omega arith)
        ∙ high_digit (get_or s at 0) (get k s (suc at)) (i - 8) (b at)
        ∙ ih (omega arith)
        ∙ ap₂ (λ (x y : ℕ). digit (get_or s x 0) y) (omega arith) (omega arith)

-- the bits of a sector within a run are those of its words
pub bit_word : (s : List ℕ) (at w i : ℕ) → Bytes s → w < 64 → i < 64
    → bit_at (part s at 512) (64 * w + i) ≡ digit (get 8 s (at + 8 * w)) i
unfolding bit_at
bit_word s at w i b p q =
    ap (λ (x : ℕ). digit x ((64 * w + i) % 8)) (get_or_part s at 512 ((64 * w + i) / 8) (omega arith))
    ∙ ap₂ (λ (x y : ℕ). digit (get_or s x 0) y) (omega arith) (omega arith)
    ∙ sym (digit-get 8 s (at + 8 * w) i b (omega arith))

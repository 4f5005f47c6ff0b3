-- Laws of how the code compares temperatures and of a sample.
use mathlib.Core.Path.{◌≡◌, refl, ap}
use mathlib.Core.Bool.{Bool, true, false}
use Prim.Native.Nat.{ℕ, suc, ◌-◌, ◌^◌}
use native.Mathlib.Omega.{arith}
use lib.IntN.{pos, negsuc}
use lib.Signed.{le_z}
use lib.ListN.{set}
use lib.Dec.{ltb}
use borrow.Author.Tests.{ne_eqb}
use Rattle.std.specs.Prelude.{if◌then◌else◌}
use Rattle.model.specs.Temperature.{signed, new_maximum, next_index, sampled}
use Rattle.record.specs.declared.device as code
use Rattle.temperature.specs.Sampled.{Sampled}
use mir.Syntax.{w8}
use mir.Val.{to_z, sel}

-- a byte as two's complement
pub signed-cast : (b : ℕ) → to_z w8 b ≡ signed b
signed-cast b = go (ltb b 128)
  where
    go : (x : Bool) → sel x (pos b) (negsuc (2 ^ 8 - suc b)) ≡ (if x then pos b else negsuc (255 - b))
    go true = refl
    go false = ap negsuc (omega arith)

module _ (sample old : ℕ) (real : sample ≡ 128 → ⊥) (known : old ≡ 128 → ⊥) where
  pub maximum-old : le_z (to_z w8 sample) (to_z w8 old) ≡ true → old ≡ new_maximum sample old
  unfolding new_maximum
  maximum-old h = rw (ne_eqb sample 128 real, ne_eqb old 128 known, ← signed-cast sample, ← signed-cast old, h)

  pub maximum-sample : le_z (to_z w8 sample) (to_z w8 old) ≡ false → sample ≡ new_maximum sample old
  unfolding new_maximum
  maximum-sample h = rw (ne_eqb sample 128 real, ne_eqb old 128 known, ← signed-cast sample, ← signed-cast old, h)

-- ---- a sample

module _ (t : code.Thermal.Thermal) (interval sample cycle life : ℕ) (c : cycle ≡ new_maximum sample t.cycle_maximum) (l : life ≡ new_maximum sample t.life_maximum) where
  -- one that is logged ..
  pub sampled-logged : (index : ℕ) → index ≡ next_index t.index → ltb (suc t.minutes) interval ≡ false
      → Sampled t interval sample (record { current = sample; cycle_maximum = cycle; life_maximum = life; index = index; minutes = 0 })
  unfolding sampled
  sampled-logged index i e =
      record {
        thermal = λ h.
            rw e
            (λ j. record { current = sample; cycle_maximum = c j; life_maximum = l j; history = set h (next_index t.index) sample; index = i j; minutes = 0 });
      }

  -- .. and one that is counted
  pub sampled-counted : (minutes : ℕ) → minutes ≡ suc t.minutes → ltb (suc t.minutes) interval ≡ true
      → Sampled t interval sample (record { current = sample; cycle_maximum = cycle; life_maximum = life; index = t.index; minutes = minutes })
  unfolding sampled
  sampled-counted minutes m e =
      record {
        thermal = λ h. rw e (λ j. record { current = sample; cycle_maximum = c j; life_maximum = l j; history = h; index = t.index; minutes = m j });
      }

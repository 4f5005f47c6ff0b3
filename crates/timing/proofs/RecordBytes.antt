-- The seven bytes of a record.
use mathlib.Core.Path.{◌≡◌}
use Prim.Native.Nat.{ℕ, ◌+◌, ◌*◌}
use native.Mathlib.Omega.{arith}
use mathlib.Core.List.{[], ◌∷◌}
use Rattle.wire.specs.Numbers.{get}
use Rattle.timing.specs.Command.{command_at}

-- "command, feature, count (a byte each) and duration in ms (4 bytes)", low byte first
pub record-bytes : (code feature count d₀ d₁ d₂ d₃ : ℕ)
    → command_at (code ∷ feature ∷ count ∷ d₀ ∷ d₁ ∷ d₂ ∷ d₃ ∷ []) 0 ≡ record { code = code; feature = feature; count = count; duration = d₀ + 256 * d₁ + 65536 * d₂ + 16777216 * d₃ }
unfolding command_at get
record-bytes code feature count d₀ d₁ d₂ d₃ = λ i. record { code = code; feature = feature; count = count; duration = sum i }
  where
    sum : d₀ + 256 * (d₁ + 256 * (d₂ + 256 * (d₃ + 256 * 0))) ≡ d₀ + 256 * d₁ + 65536 * d₂ + 16777216 * d₃
    sum = omega arith

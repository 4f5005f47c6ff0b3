use mathlib.Core.Path.{◌≡◌, ◌∙◌}
use Prim.Native.Nat.{ℕ, ◌*◌, ◌%◌, ◌^◌, ◌<◌}
use native.Mathlib.Nat.{one-mul}
use native.Mathlib.Omega.{arith}
use lib.Pow.{shl_exact}
use Rattle.sector_check.proofs.FlipLaws.{flip-within}
use Rattle.sector_check.proofs.repairing.flip_bit.Goals as goal

mask : (k : ℕ) → k < 8 → 1 * 2 ^ k % 256 ≡ 2 ^ k
mask k h = shl_exact 1 k 8 (omega arith) (omega arith) ∙ one-mul (2 ^ k)

pub returns : goal.returns
returns c =
    let a = c.args in
    rw (mask (a.q % 8) (omega arith)) (flip-within a.s.now a.at a.q c.requires.0 c.requires.1)

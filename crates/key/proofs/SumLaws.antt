-- A test of a sum without computing the sum.
use mathlib.Core.Path.{◌≡◌}
use Prim.Native.Nat.{ℕ, ◌+◌, ◌-◌, ◌≤◌}
use native.Mathlib.Omega.{arith}
use lib.Dec.{leb}
use borrow.Author.Tests.{leb-true, le-leb}
use Rattle.wire.proofs.ChoiceLaws.{tests_same}

pub sum-test : (a b n : ℕ) → a ≤ n → leb b (n - a) ≡ leb (a + b) n
sum-test a b n h =
    tests_same (leb b (n - a)) (leb (a + b) n) (λ e. le-leb (a + b) n (omega (arith, h, leb-true b (n - a) e))) (λ e. le-leb b (n - a) (omega (arith, h, leb-true (a + b) n e)))

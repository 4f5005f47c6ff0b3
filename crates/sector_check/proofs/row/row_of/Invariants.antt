-- What holds at each turn.
use mathlib.Core.Path.{◌≡◌}
use Prim.Native.Nat.{◌+◌, ◌*◌}
use Rattle.wire.specs.Numbers.{get}
use Rattle.sector_check.specs.Xor.{xor_to, digit}
use Rattle.sector_check.proofs.row.row_of.Given as goal

abbrev pub invariant-loop-i : goal.invariant-loop-i
invariant-loop-i l =
    (l.row.all ≡ xor_to l.i (λ i. get 8 l.s (l.at + 8 * i))) × (l.row.ones ≡ xor_to l.i (λ i. digit i 0 * get 8 l.s (l.at + 8 * i)))
    × (l.row.twos ≡ xor_to l.i (λ i. digit i 1 * get 8 l.s (l.at + 8 * i))) × (l.row.fours ≡ xor_to l.i (λ i. digit i 2 * get 8 l.s (l.at + 8 * i)))

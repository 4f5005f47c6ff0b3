-- What holds at each turn.
use mathlib.Core.Path.{◌≡◌}
use Prim.Native.Nat.{◌+◌, ◌*◌}
use Rattle.sector_check.specs.Xor.{xor_to}
use Rattle.sector_check.specs.Word.{parity}
use Rattle.sector_check.specs.Row.{row_of, picked}
use Rattle.sector_check.proofs.row.rows_of.Given as goal

abbrev pub invariant-loop-k : goal.invariant-loop-k
invariant-loop-k l =
    (l.all ≡ xor_to l.k (λ j. row_of l.s (l.at + 64 * j))) × (l.ones ≡ xor_to l.k (λ j. picked l.s (l.at + 64 * j) 0))
    × (l.twos ≡ xor_to l.k (λ j. picked l.s (l.at + 64 * j) 1)) × (l.fours ≡ xor_to l.k (λ j. picked l.s (l.at + 64 * j) 2))
    × (l.odd ≡ xor_to l.k (λ j. parity (row_of l.s (l.at + 64 * j)) * (512 * (8 + j))))

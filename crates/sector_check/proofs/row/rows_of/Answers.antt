use native.Mathlib.Numerals.{add-one}
use mathlib.Core.Path.{◌≡◌, refl}
use Prim.Native.Nat.{◌+◌, ◌*◌}
use native.Mathlib.Omega.{arith}
use Rattle.sector_check.specs.Xor.{xor_to}
use Rattle.sector_check.specs.Word.{parity}
use Rattle.sector_check.specs.Row.{row_of, picked, all_rows, picked_rows, odd_rows}
use Rattle.sector_check.proofs.XorLaws.{xor_to-more}
use Rattle.sector_check.proofs.row.rows_of.Goals as goal

pub loop-k-init : goal.loop-k-init
unfolding xor_to
loop-k-init c = (refl, refl, refl, refl, refl)

pub loop-k-preserved : goal.loop-k-preserved
loop-k-preserved c =
    let k = c.loop-k.k in
    let a = c.args in
    let s = a.s.now in (
      rw (c.loop-k.invariant.0, c.row_of-row.ensures.is_all, add-one) (xor_to-more k (λ j. row_of s (a.at + 64 * j))),
      rw (c.loop-k.invariant.1, c.row_of-row.ensures.is-ones, add-one) (xor_to-more k (λ j. picked s (a.at + 64 * j) 0)),
      rw (c.loop-k.invariant.2, c.row_of-row.ensures.is-twos, add-one) (xor_to-more k (λ j. picked s (a.at + 64 * j) 1)),
      rw (c.loop-k.invariant.3, c.row_of-row.ensures.is-fours, add-one) (xor_to-more k (λ j. picked s (a.at + 64 * j) 2)),
      rw (c.loop-k.invariant.4, c.weighed-odd.ensures, c.row_of-row.ensures.is_all, add-one)
          (xor_to-more k (λ j. parity (row_of s (a.at + 64 * j)) * (512 * (8 + j)))),
    )

pub returns : goal.returns
unfolding all_rows picked_rows odd_rows
returns c =
    let g = c.loop-k.invariant in
    let past : c.loop-k.k ≡ 8 = omega arith in
    record {
      are_all = rw (g.0, past);
      are-ones = rw (g.1, past);
      are-twos = rw (g.2, past);
      are-fours = rw (g.3, past);
      are-odd = rw (g.4, past);
    }

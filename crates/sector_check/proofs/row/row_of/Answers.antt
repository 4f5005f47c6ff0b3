use native.Mathlib.Numerals.{add-one}
use mathlib.Core.Path.{◌≡◌, refl}
use Prim.Native.Nat.{◌+◌, ◌*◌}
use native.Mathlib.Omega.{arith}
use Rattle.wire.specs.Numbers.{get}
use Rattle.sector_check.specs.Xor.{xor_to, digit}
use Rattle.sector_check.specs.Row.{row_of, picked}
use Rattle.sector_check.proofs.XorLaws.{xor_to-more}
use Rattle.sector_check.proofs.DigitLaws.{digit-first}
use Rattle.sector_check.proofs.row.row_of.Goals as goal

pub loop-i-init : goal.loop-i-init
unfolding xor_to
loop-i-init c = (refl, refl, refl, refl)

pub loop-i-preserved : goal.loop-i-preserved
unfolding digit
loop-i-preserved c =
    let a = c.args in
    let s = a.s.now in
    let i = c.loop-i.i in
    let read = c.get-word.ensures in (
      rw (c.loop-i.invariant.0, read, add-one) (xor_to-more i (λ i. get 8 s (a.at + 8 * i))),
      rw (c.loop-i.invariant.1, c.taken.ensures, read, add-one, ← digit-first i) (xor_to-more i (λ i. digit i 0 * get 8 s (a.at + 8 * i))),
      rw (c.loop-i.invariant.2, c.taken-in-loop-i.ensures, read, add-one) (xor_to-more i (λ i. digit i 1 * get 8 s (a.at + 8 * i))),
      rw (c.loop-i.invariant.3, c.taken-in-loop-i-2.ensures, read, add-one) (xor_to-more i (λ i. digit i 2 * get 8 s (a.at + 8 * i))),
    )

pub returns : goal.returns
unfolding row_of picked
returns c =
    let g = c.loop-i.invariant in
    let past : c.loop-i.i ≡ 8 = omega arith in
    record { is_all = rw (g.0, past); is-ones = rw (g.1, past); is-twos = rw (g.2, past); is-fours = rw (g.3, past) }

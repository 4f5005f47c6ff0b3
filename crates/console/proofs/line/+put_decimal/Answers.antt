-- The digits of v / 10, then the last one.
use mathlib.Core.Path.{sym}
use Prim.Native.Nat.{◌/◌}
use native.Mathlib.Omega.{arith}
use Rattle.console.proofs.WroteLaws.{wrote_then, wrote_as}
use Rattle.console.proofs.DigitsLaws.{decimal-small, decimal-more, decimal-most}
use Rattle.console.proofs.line.+put_decimal.Goals as goal

pub returns-then-v-lt-DECIMAL-clause-wrote : goal.returns-then-v-lt-DECIMAL-clause-wrote
returns-then-v-lt-DECIMAL-clause-wrote t c =
    wrote_as (sym (decimal-small c.args.v (omega arith))) c.put_byte.ensures.wrote

pub put_byte-requires-2 : goal.put_byte-requires-2
put_byte-requires-2 t c =
    omega (arith, c.put_decimal-next.ensures.wrote.place, decimal-most 18 (c.args.v / 10) (omega arith))

pub returns-clause-upper_bound : goal.returns-clause-upper_bound
returns-clause-upper_bound t c =
    omega (arith, c.put_decimal-next.ensures.wrote.place, decimal-most 18 (c.args.v / 10) (omega arith))

pub returns-clause-wrote : goal.returns-clause-wrote
returns-clause-wrote t c =
    wrote_as (sym (decimal-more c.args.v (omega arith))) (wrote_then c.put_decimal-next.ensures.wrote c.put_byte-2.ensures.wrote)

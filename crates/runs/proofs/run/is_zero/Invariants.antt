-- What holds at each turn.
use mathlib.Core.Path.{◌≡◌}
use Rattle.wire.specs.Parts.{part}
use Rattle.wire.specs.Bytes.{all_zero}
use Rattle.runs.proofs.run.is_zero.Given as goal

abbrev pub invariant-loop-j : goal.invariant-loop-j
invariant-loop-j l = l.all ≡ all_zero (part l.s l.from l.j)

-- What holds at each turn.
use mathlib.Core.Path.{◌≡◌}
use Rattle.wire.specs.Parts.{part}
use Rattle.wire.specs.Bytes.{same}
use Rattle.runs.proofs.run.same_part.Given as goal

abbrev pub invariant-loop-j : goal.invariant-loop-j
invariant-loop-j l = l.all ≡ same (part l.a l.at l.j) (part l.b l.from l.j)

-- What holds at each turn.
use mathlib.Core.Path.{◌≡◌}
use lib.ListN.{length}
use lib.Seq.{sets}
use Rattle.wire.specs.Parts.{part}
use Rattle.runs.proofs.run.copy_part.Given as goal

abbrev pub invariant-loop-j : goal.invariant-loop-j
invariant-loop-j l = (length l.dst ≡ length l.initial.dst) × (l.dst ≡ sets l.initial.dst l.at (part l.src l.from l.j))

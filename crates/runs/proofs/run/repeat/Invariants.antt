-- What holds at each turn.
use mathlib.Core.Path.{◌≡◌}
use lib.ListN.{length}
use lib.Seq.{sets}
use Rattle.wire.specs.Numbers.{le}
use Rattle.wire.specs.Parts.{repeated}
use Rattle.runs.proofs.run.repeat.Given as goal

abbrev pub invariant-loop-k : goal.invariant-loop-k
invariant-loop-k g l =
    (length l.s ≡ length l.initial.s) × (l.s ≡ sets l.initial.s l.at (repeated l.k (le g.N.Number.SIZE (g.N.Number.value l.n))))

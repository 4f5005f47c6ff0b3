-- What holds at each turn: the first k entries are converted.
use mathlib.Core.Path.{◌≡◌}
use Rattle.model.specs.Convert.{converted}
use Rattle.entry_timers.specs.TimersMeaning.{form_number}
use Rattle.convert.proofs.converting.convert_entries.Given as goal

abbrev pub invariant-loop-k : goal.invariant-loop-k
invariant-loop-k l = l.image ≡ converted (form_number l.form) l.initial.image l.k

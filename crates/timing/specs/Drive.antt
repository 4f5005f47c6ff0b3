-- A drive with time-limited commands: its timer and mode, and what it makes of a command.
use Rattle.std.specs.Prelude.{◌||◌, ℕ, eqb, ltb, if◌then◌else◌}
use Rattle.timing.specs.declared.timer.Timer.{Timer}
use Rattle.timing.specs.declared.timer.Timer.TheVariants.{Disabled}
use Rattle.timing.specs.declared.command.Command.{Command}
use Rattle.timing.specs.declared.command.Kind.{Kind}
use Rattle.timing.specs.declared.command.Kind.TheVariants.{SetLimit, SetMode, Access, Flush, Other}
use Rattle.timing.specs.declared.drive.Mode.{Mode}
use Rattle.timing.specs.declared.drive.Mode.TheVariants.{Abort, Continue}
use Rattle.timing.specs.declared.drive.Outcome.{Outcome}
use Rattle.timing.specs.declared.drive.Outcome.TheVariants.{Done, Aborted, Continued, Deferred}
use Rattle.timing.specs.declared.drive.Drive.{Drive}
use Rattle.timing.specs.declared.drive.Traced.{Traced}
use Rattle.timing.specs.Timer.{set_to, commanded, passed, rearmed, is_disabled, is_expired}
use Rattle.timing.specs.Command.{kind_of}

-- "`trace` starts disabled with abort chosen."
abbrev pub at_start : Drive
at_start = record { timer = Disabled; mode = Abort }

-- "Features 21h with 0 chooses abort, 1 choosing continue."
abbrev pub mode_of : ℕ → Mode
mode_of count = if eqb count 0 then Abort else Continue

-- the timer at the end of a command: a read or write "starts it as it begins"; "other commands pass time"
abbrev pub at_end : Kind → Timer → ℕ → Timer
at_end SetLimit timer duration = passed timer duration
at_end SetMode timer duration = passed timer duration
at_end Access timer duration = commanded timer duration
at_end Flush timer duration = passed timer duration
at_end Other timer duration = passed timer duration

-- ".. aborted or continued as chosen"
abbrev pub as_chosen : Mode → Outcome
as_chosen Abort = Aborted
as_chosen Continue = Continued

-- "a timed command is done exactly if the time run at its end is below the limit; else .. a read or write is aborted or continued as chosen"
abbrev pub access_outcome : Timer → Mode → Outcome
access_outcome timer mode = if is_expired timer then as_chosen mode else Done

-- ".. else a flush is deferred"
abbrev pub flush_outcome : Timer → Outcome
flush_outcome timer = if is_expired timer then Deferred else Done

abbrev pub traced_as : Outcome → Timer → Mode → Traced
traced_as outcome timer mode = record { outcome = outcome; drive = record { timer = timer; mode = mode } }

-- "feature 21h while disabled, or a count above 1 with it, is aborted and changes nothing but the time passed."
abbrev pub mode_set : ℕ → Timer → Mode → Traced
mode_set count timer mode =
    if is_disabled timer || ltb 1 count then traced_as Aborted timer mode else traced_as Done timer (mode_of count)

-- what a command leads to at whose end this is the timer: "A setting's own duration passes first, then it takes hold"; "All else .. is done."
abbrev pub ended : Kind → ℕ → Timer → Mode → Traced
ended SetLimit count timer mode = traced_as Done (set_to timer count) mode
ended SetMode count timer mode = mode_set count timer mode
ended Access count timer mode = traced_as (access_outcome timer mode) timer mode
ended Flush count timer mode = traced_as (flush_outcome timer) (rearmed timer) mode
ended Other count timer mode = traced_as Done timer mode

-- one record of a trace
unfoldable pub traced : Drive → Command → Traced
traced d c = ended (kind_of c) c.count (at_end (kind_of c) d.timer c.duration) d.mode

-- What `trace` prints for a run of bytes.
use Rattle.std.specs.Prelude.{ℕ, zero, suc, ◌+◌, ◌*◌, List, [], ◌∷◌, ◌++◌, length, eqb, if◌then◌else◌}
use Rattle.console.specs.Text.{ascii}
use Rattle.console.specs.Records.{whole_records, stray_bytes}
use Rattle.timing.specs.declared.command.Command.{Command}
use Rattle.timing.specs.declared.drive.Outcome.{Outcome}
use Rattle.timing.specs.declared.drive.Outcome.TheVariants.{Done, Aborted, Continued, Deferred}
use Rattle.timing.specs.declared.drive.Drive.{Drive}
use Rattle.timing.specs.Command.{record_size, command_at}
use Rattle.timing.specs.Trace.{outcomes}

-- the first k records of a run
unfoldable pub commands : ℕ → List ℕ → List Command
commands zero s = []
commands (suc k) s = commands k s ++ command_at s (record_size * k) ∷ []

-- all whole records of a run
abbrev pub all_commands : List ℕ → List Command
all_commands s = commands (whole_records record_size (length s)) s

-- "one word a line for each: done, aborted, continued or deferred"
abbrev pub line_of : Outcome → List ℕ
line_of Done = ascii "done\n"
line_of Aborted = ascii "aborted\n"
line_of Continued = ascii "continued\n"
line_of Deferred = ascii "deferred\n"

unfoldable pub lines_of : List Outcome → List ℕ
lines_of [] = []
lines_of (o ∷ os) = line_of o ++ lines_of os

-- "an incomplete last record prints `cut`": so many bytes of it
abbrev pub cut_line : ℕ → List ℕ
cut_line stray = if eqb stray 0 then [] else ascii "cut\n"

-- a run of bytes, from a drive on
unfoldable pub printed : Drive → List ℕ → List ℕ
printed d s = lines_of (outcomes d (all_commands s)) ++ cut_line (stray_bytes record_size (length s))

-- how long a line is at most, with its end; how long `cut` is; how much room the lines of so many bytes need
abbrev pub line_limit : ℕ
line_limit = 10

abbrev pub cut_length : ℕ
cut_length = 4

abbrev pub room : ℕ → ℕ
room bytes = line_limit * whole_records record_size bytes + cut_length

-- A trace by sums of durations and not by the timer's states: what becomes of a command is read off the commands before it.
use mathlib.Core.Path.{◌≡◌, refl, ap}
use mathlib.Core.Bool.{Bool, true, false, not, ◌||◌}
use Prim.Native.Nat.{ℕ, zero, suc, ◌+◌, ◌*◌}
use native.Mathlib.Omega.{arith}
use mathlib.Core.List.{List, [], ◌∷◌}
use lib.Dec.{eqb, ltb}
use borrow.Author.Tests.{ne_eqb, lt-ltb}
use Rattle.std.specs.Prelude.{if◌then◌else◌}
use Rattle.timing.specs.declared.timer.Timer.{Timer}
use Rattle.timing.specs.declared.timer.Timer.TheVariants.{Disabled, Armed}
use Rattle.timing.specs.declared.command.Command.{Command}
use Rattle.timing.specs.declared.command.Kind.{Kind}
use Rattle.timing.specs.declared.command.Kind.TheVariants.{SetLimit, SetMode, Access, Flush, Other}
use Rattle.timing.specs.declared.drive.Mode.{Mode}
use Rattle.timing.specs.declared.drive.Mode.TheVariants.{Abort, Continue}
use Rattle.timing.specs.declared.drive.Outcome.{Outcome}
use Rattle.timing.specs.declared.drive.Outcome.TheVariants.{Done, Aborted, Continued, Deferred}
use Rattle.timing.specs.declared.drive.Drive.{Drive}
use Rattle.timing.specs.Timer.{set_to, passed, commanded, rearmed, is_disabled, is_expired}
use Rattle.timing.specs.Command.{kind_of}
use Rattle.timing.specs.Drive.{at_start, as_chosen, at_end, traced_as, mode_set, ended, traced}
use Rattle.timing.specs.Trace.{outcomes}
use Rattle.timing.proofs.TimerLaws.{started_timer, either_way, expired-late, time-passes, access-passes}
use Rattle.timing.proofs.KindTable.{accesses, flushes, sets_limit, sets_mode, tests_of, kind-tests}

-- ---- What is read off the commands before, of which the newest is the first.

-- the Sector Count of the last setting of the limit: 0 if the timer is disabled
unfoldable pub count_in : List Command → ℕ
count_in [] = 0
count_in (c ∷ earlier) = if sets_limit c then c.count else count_in earlier

-- the commands since the timer was last armed: by a setting of the limit, or by a flush
unfoldable pub group : List Command → List Command
group [] = []
group (c ∷ earlier) = if sets_limit c || flushes c then [] else c ∷ group earlier

-- of a group, the commands that are timed: from the first read or write on
abbrev pub timed_if : Bool → Command → List Command → List Command
timed_if true c earlier = c ∷ earlier
timed_if false c [] = []
timed_if false c (e ∷ earlier) = c ∷ e ∷ earlier

unfoldable pub timed : List Command → List Command
timed [] = []
timed (c ∷ earlier) = timed_if (accesses c) c (timed earlier)

-- the sum of their durations
unfoldable pub total : List Command → ℕ
total [] = 0
total (c ∷ earlier) = total earlier + c.duration

-- the time run at the end of a command
abbrev pub time_run : List Command → Command → ℕ
time_run earlier c = total (timed (c ∷ group earlier))

-- the last choice that was not refused
abbrev pub chosen_by : ℕ → ℕ → Mode → Mode
chosen_by zero count before = before
chosen_by (suc n) zero before = Abort
chosen_by (suc n) (suc zero) before = Continue
chosen_by (suc n) (suc (suc count)) before = before

unfoldable pub mode_in : List Command → Mode
mode_in [] = Abort
mode_in (c ∷ earlier) = if sets_mode c then chosen_by (count_in earlier) c.count (mode_in earlier) else mode_in earlier

-- ---- What becomes of a command.

-- a choice with the timer disabled, or by a count above 1, is refused
abbrev pub choice_outcome : ℕ → ℕ → Outcome
choice_outcome zero count = Aborted
choice_outcome (suc n) zero = Done
choice_outcome (suc n) (suc zero) = Done
choice_outcome (suc n) (suc (suc count)) = Aborted

-- the time run is below 10 ms times the Sector Count, or the timer is disabled
abbrev pub in_time : ℕ → ℕ → Bool
in_time zero run = true
in_time (suc n) run = ltb run (10 * suc n)

abbrev pub late_outcome : Mode → Outcome
late_outcome Abort = Aborted
late_outcome Continue = Continued

unfoldable pub judged : List Command → Command → Outcome
judged earlier c =
    if sets_mode c then choice_outcome (count_in earlier) c.count
    else if in_time (count_in earlier) (time_run earlier c) then Done
    else if accesses c then late_outcome (mode_in earlier)
    else if flushes c then Deferred
    else Done

-- each command of a list, after those before
unfoldable pub judged_all : List Command → List Command → List Outcome
judged_all earlier [] = []
judged_all earlier (c ∷ cs) = judged earlier c ∷ judged_all (c ∷ earlier) cs

-- ---- The timer, by the same.

-- by the Sector Count of the limit and the commands that are timed
abbrev timer_by : ℕ → List Command → Timer
timer_by zero part = Disabled
timer_by (suc n) [] = Armed (10 * suc n)
timer_by (suc n) (c ∷ part) = started_timer (10 * suc n) (total (c ∷ part))

not-zero : (n : ℕ) → eqb (suc n) 0 ≡ false
not-zero n = ne_eqb (suc n) 0 (λ e. omega arith)

sets : (timer : Timer) (count : ℕ) → set_to timer count ≡ timer_by count []
sets timer zero = refl
sets timer (suc n) = rw (not-zero n)

passes : (count : ℕ) (c : Command) (part : List Command) → passed (timer_by count part) c.duration ≡ timer_by count (timed_if false c part)
unfolding total
passes zero c part = refl
passes (suc n) c [] = refl
passes (suc n) c (p ∷ part) = time-passes (10 * suc n) (total (p ∷ part)) c.duration

starts : (count : ℕ) (c : Command) (part : List Command) → commanded (timer_by count part) c.duration ≡ timer_by count (timed_if true c part)
unfolding total
starts zero c part = refl
starts (suc n) c [] = refl
starts (suc n) c (p ∷ part) = access-passes (10 * suc n) (total (p ∷ part)) c.duration

rearms : (count : ℕ) (part : List Command) → rearmed (timer_by count part) ≡ timer_by count []
rearms zero part = refl
rearms (suc n) [] = refl
rearms (suc n) (p ∷ part) = either_way rearmed (Armed (10 * suc n)) (10 * suc n) (total (p ∷ part)) refl refl

disabled-by : (count : ℕ) (part : List Command) → is_disabled (timer_by count part) ≡ eqb count 0
disabled-by zero part = refl
disabled-by (suc n) [] = rw (not-zero n)
disabled-by (suc n) (p ∷ part) = rw (not-zero n) (either_way is_disabled false (10 * suc n) (total (p ∷ part)) refl refl)

late_by : (count : ℕ) (part : List Command) → is_expired (timer_by count part) ≡ not (in_time count (total part))
unfolding total
late_by zero part = refl
late_by (suc n) [] = rw (lt-ltb 0 (10 * suc n) (omega arith))
late_by (suc n) (p ∷ part) = expired-late (10 * suc n) (total (p ∷ part))

-- ---- By states and by sums the same.

chooses : (n count : ℕ) (timer : Timer) (mode : Mode) → is_disabled timer ≡ eqb n 0
    → mode_set count timer mode ≡ traced_as (choice_outcome n count) timer (chosen_by n count mode)
chooses zero count timer mode e = rw e
chooses (suc n) zero timer mode e = rw (e, not-zero n)
chooses (suc n) (suc zero) timer mode e = rw (e, not-zero n)
chooses (suc n) (suc (suc count)) timer mode e = rw (e, not-zero n, lt-ltb 1 (suc (suc count)) (omega arith))

if-not : (b : Bool) (late : Outcome) → (if not b then late else Done) ≡ (if b then Done else late)
if-not true late = refl
if-not false late = refl

same : {A : Type 0} (b : Bool) (a : A) → (if b then a else a) ≡ a
same true a = refl
same false a = refl

by_mode : (mode : Mode) → as_chosen mode ≡ late_outcome mode
by_mode Abort = refl
by_mode Continue = refl

-- the drive, read off the commands before
abbrev drive_in : List Command → Drive
drive_in earlier = record { timer = timer_by (count_in earlier) (timed (group earlier)); mode = mode_in earlier }

one-command : (earlier : List Command) (c : Command) (k : Kind) → sets_limit c ≡ (tests_of k).0 → sets_mode c ≡ (tests_of k).1 → accesses c ≡ (tests_of k).2 → flushes c ≡ (tests_of k).3
    → ended k c.count (at_end k (drive_in earlier).timer c.duration) (mode_in earlier) ≡ record { outcome = judged earlier c; drive = drive_in (c ∷ earlier) }
unfolding count_in group timed mode_in judged
one-command earlier c SetLimit l m r f = rw (l, m, f, r, sets (passed (drive_in earlier).timer c.duration) c.count, same)
one-command earlier c SetMode l m r f =
    rw (l, m, f, r, passes (count_in earlier) c (timed (group earlier)))
    (chooses (count_in earlier) c.count (timer_by (count_in earlier) (timed_if false c (timed (group earlier)))) (mode_in earlier) (disabled-by (count_in earlier) (timed_if false c (timed (group earlier)))))
one-command earlier c Access l m r f =
    rw (l, m, f, r, starts (count_in earlier) c (timed (group earlier)), late_by (count_in earlier) (c ∷ timed (group earlier)), if-not, by_mode)
one-command earlier c Flush l m r f =
    rw (l, m, f, r, passes (count_in earlier) c (timed (group earlier)), rearms (count_in earlier) (timed_if false c (timed (group earlier))), late_by (count_in earlier) (timed_if false c (timed (group earlier))), if-not)
one-command earlier c Other l m r f = rw (l, m, f, r, passes (count_in earlier) c (timed (group earlier)), same)

traced-by-sums : (earlier : List Command) (c : Command) → traced (drive_in earlier) c ≡ record { outcome = judged earlier c; drive = drive_in (c ∷ earlier) }
unfolding traced
traced-by-sums earlier c =
    let t = kind-tests c in
    one-command earlier c (kind_of c) (λ i. (t i).0) (λ i. (t i).1) (λ i. (t i).2) (λ i. (t i).3)

from-there : (earlier cs : List Command) → outcomes (drive_in earlier) cs ≡ judged_all earlier cs
unfolding outcomes judged_all
from-there earlier [] = refl
from-there earlier (c ∷ cs) = rw (traced-by-sums earlier c) (ap (λ (os : List Outcome). judged earlier c ∷ os) (from-there (c ∷ earlier) cs))

-- Every trace: each command becomes what the sums say.
pub by-sums : (cs : List Command) → outcomes at_start cs ≡ judged_all [] cs
unfolding count_in group timed mode_in
by-sums cs = from-there [] cs

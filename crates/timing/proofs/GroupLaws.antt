-- A group of commands by its sum: an armed timer, a first read or write, commands that neither set the limit nor flush, and a timed command.
use mathlib.Core.Path.{◌≡◌, refl, ap, ◌∙◌}
use mathlib.Core.Bool.{Bool, true, false, ◌||◌}
use Prim.Native.Nat.{ℕ, ◌+◌, ◌≤◌, ◌<◌}
use native.Mathlib.Omega.{arith}
use mathlib.Core.List.{List, [], ◌∷◌}
use lib.Dec.{ltb}
use Rattle.std.specs.Prelude.{if◌then◌else◌}
use Rattle.timing.specs.declared.timer.Timer.{Timer}
use Rattle.timing.specs.declared.timer.Timer.TheVariants.{Armed}
use Rattle.timing.specs.declared.command.Command.{Command}
use Rattle.timing.specs.declared.command.Kind.{Kind}
use Rattle.timing.specs.declared.command.Kind.TheVariants.{SetLimit, SetMode, Access, Flush, Other}
use Rattle.timing.specs.declared.drive.Outcome.TheVariants.{Done, Aborted, Deferred}
use Rattle.timing.specs.declared.drive.Drive.{Drive}
use Rattle.timing.specs.declared.drive.Mode.{Mode}
use Rattle.timing.specs.Timer.{is_disabled}
use Rattle.timing.specs.Command.{kind_of}
use Rattle.timing.specs.Drive.{as_chosen, traced_as, mode_set, mode_of, at_end, ended, traced}
use Rattle.timing.specs.Trace.{after}
use Rattle.timing.proofs.TimerLaws.{started_timer, still-runs, has-expired, time-passes, access-passes}
use Rattle.timing.proofs.BySums.{total}

abbrev pub InGroup : Kind → Type 0
InGroup SetLimit = ⊥
InGroup SetMode = Unit {0}
InGroup Access = Unit {0}
InGroup Flush = ⊥
InGroup Other = Unit {0}

abbrev pub AllInGroup : List Command → Type 0
AllInGroup [] = Unit {0}
AllInGroup (c ∷ cs) = InGroup (kind_of c) × AllInGroup cs

-- a setting of the mode, accepted or not, leaves the timer
mode-apart : (count : ℕ) (timer : Timer) (mode : Mode) → (mode_set count timer mode).drive.timer ≡ timer
mode-apart count timer mode = go (is_disabled timer || ltb 1 count)
  where
    go : (b : Bool) → (if b then traced_as Aborted timer mode else traced_as Done timer (mode_of count)).drive.timer ≡ timer
    go true = refl
    go false = refl

-- one command of a group
runs : (limit run : ℕ) (d : Drive) (c : Command) → d.timer ≡ started_timer limit run → InGroup (kind_of c) → (traced d c).drive.timer ≡ started_timer limit (run + c.duration)
unfolding traced
runs limit run d c e g = go (kind_of c) g
  where
    go : (k : Kind) → InGroup k → (ended k c.count (at_end k d.timer c.duration) d.mode).drive.timer ≡ started_timer limit (run + c.duration)
    go SetLimit x = absurd x
    go SetMode x = rw (mode-apart, e) (time-passes limit run c.duration)
    go Access x = rw e (access-passes limit run c.duration)
    go Flush x = absurd x
    go Other x = rw e (time-passes limit run c.duration)

-- all of them: the time run is the sum of the durations
runs-all : (cs : List Command) (limit run : ℕ) (d : Drive) → d.timer ≡ started_timer limit run → AllInGroup cs → (after d cs).timer ≡ started_timer limit (run + total cs)
unfolding after total
runs-all [] limit run d e g = e ∙ ap (started_timer limit) (omega arith)
runs-all (c ∷ cs) limit run d e g =
    runs-all cs limit (run + c.duration) (traced d c).drive (runs limit run d c e g.0) g.1 ∙ ap (started_timer limit) (omega arith)

module _ (d : Drive) (limit : ℕ) (armed : d.timer ≡ Armed limit) (first : Command) (between : List Command) (last : Command)
    (f : kind_of first ≡ Access) (g : AllInGroup between) where
  abbrev pub before : Drive
  before = after d (first ∷ between)

  -- the time run at the end of the last
  abbrev pub run : ℕ
  run = first.duration + total between + last.duration

  started : (traced d first).drive.timer ≡ started_timer limit first.duration
  unfolding traced
  started = rw (f, armed) (ap (started_timer limit) (omega arith))

  timer-before : before.timer ≡ started_timer limit (first.duration + total between)
  unfolding after
  timer-before = runs-all between limit first.duration (traced d first).drive started g

  pub access-done : kind_of last ≡ Access → run < limit → (traced before last).outcome ≡ Done
  unfolding traced
  access-done k h = rw (k, timer-before, access-passes limit (first.duration + total between) last.duration, still-runs limit run h)

  pub access-late : kind_of last ≡ Access → limit ≤ run → (traced before last).outcome ≡ as_chosen before.mode
  unfolding traced
  access-late k h = rw (k, timer-before, access-passes limit (first.duration + total between) last.duration, has-expired limit run h)

  pub flush-done : kind_of last ≡ Flush → run < limit → (traced before last).outcome ≡ Done
  unfolding traced
  flush-done k h = rw (k, timer-before, time-passes limit (first.duration + total between) last.duration, still-runs limit run h)

  pub flush-late : kind_of last ≡ Flush → limit ≤ run → (traced before last).outcome ≡ Deferred
  unfolding traced
  flush-late k h = rw (k, timer-before, time-passes limit (first.duration + total between) last.duration, has-expired limit run h)

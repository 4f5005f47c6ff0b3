-- The table of transitions of the timer, row by row.
use mathlib.Core.Path.{◌≡◌, refl}
use mathlib.Core.Bool.{Bool, true, false}
use mathlib.Core.Logic.{⊎_elim}
use Prim.Native.Nat.{ℕ, ◌+◌, ◌*◌, ◌≤◌, ◌<◌}
use native.Mathlib.Nat.{zero-add}
use native.Mathlib.Omega.{arith}
use lib.Dec.{eqb}
use borrow.Author.Tests.{eq-eqb, ne_eqb, eqb-true, eqb-false, lt-ltb, le-ltb}
use Rattle.timing.specs.declared.timer.Timer.{Timer}
use Rattle.timing.specs.declared.timer.Timer.TheVariants.{Disabled, Armed, Running, Expired}
use Rattle.timing.specs.declared.command.Command.{Command}
use Rattle.timing.specs.declared.command.Kind.{Kind}
use Rattle.timing.specs.declared.command.Kind.TheVariants.{SetLimit, SetMode, Access, Flush, Other}
use Rattle.timing.specs.declared.drive.Mode.{Mode}
use Rattle.timing.specs.declared.drive.Outcome.{Outcome}
use Rattle.timing.specs.declared.drive.Outcome.TheVariants.{Done, Deferred}
use Rattle.timing.specs.declared.drive.Drive.{Drive}
use Rattle.timing.specs.Command.{kind_of}
use Rattle.timing.specs.Drive.{as_chosen, traced_as, traced}
use Rattle.timing.proofs.TimerLaws.{in-time-or-late}

-- A row: the timer before a command, the outcome, the timer after it. A setting of the mode has no row: it moves the timer as any
-- other command does (SettingLaws).
pub data Row (c : Command) (mode : Mode) : Timer → Outcome → Timer → Type 0 where
  disables : {timer : Timer} → kind_of c ≡ SetLimit → c.count ≡ 0 → Row c mode timer Done Disabled
  arms : {timer : Timer} → kind_of c ≡ SetLimit → 1 ≤ c.count → Row c mode timer Done (Armed (10 * c.count))
  disabled-access : kind_of c ≡ Access → Row c mode Disabled Done Disabled
  disabled-flush : kind_of c ≡ Flush → Row c mode Disabled Done Disabled
  disabled-other : kind_of c ≡ Other → Row c mode Disabled Done Disabled
  armed-access : {limit : ℕ} → kind_of c ≡ Access → c.duration < limit → Row c mode (Armed limit) Done (Running limit c.duration)
  armed-access-late : {limit : ℕ} → kind_of c ≡ Access → limit ≤ c.duration → Row c mode (Armed limit) (as_chosen mode) (Expired limit)
  armed-flush : {limit : ℕ} → kind_of c ≡ Flush → Row c mode (Armed limit) Done (Armed limit)
  armed-other : {limit : ℕ} → kind_of c ≡ Other → Row c mode (Armed limit) Done (Armed limit)
  running-access : {limit run : ℕ} → kind_of c ≡ Access → run + c.duration < limit → Row c mode (Running limit run) Done (Running limit (run + c.duration))
  running-access-late : {limit run : ℕ} → kind_of c ≡ Access → limit ≤ run + c.duration → Row c mode (Running limit run) (as_chosen mode) (Expired limit)
  running-flush : {limit run : ℕ} → kind_of c ≡ Flush → run + c.duration < limit → Row c mode (Running limit run) Done (Armed limit)
  running-flush-late : {limit run : ℕ} → kind_of c ≡ Flush → limit ≤ run + c.duration → Row c mode (Running limit run) Deferred (Armed limit)
  running-other : {limit run : ℕ} → kind_of c ≡ Other → run + c.duration < limit → Row c mode (Running limit run) Done (Running limit (run + c.duration))
  running-other-late : {limit run : ℕ} → kind_of c ≡ Other → limit ≤ run + c.duration → Row c mode (Running limit run) Done (Expired limit)
  expired-access : {limit : ℕ} → kind_of c ≡ Access → Row c mode (Expired limit) (as_chosen mode) (Expired limit)
  expired-flush : {limit : ℕ} → kind_of c ≡ Flush → Row c mode (Expired limit) Deferred (Armed limit)
  expired-other : {limit : ℕ} → kind_of c ≡ Other → Row c mode (Expired limit) Done (Expired limit)

abbrev pub drive_of : Timer → Mode → Drive
drive_of timer mode = record { timer = timer; mode = mode }

-- every row is what happens
pub row-happens : {c : Command} {mode : Mode} {timer : Timer} {outcome : Outcome} {next : Timer}
    → Row c mode timer outcome next → traced (drive_of timer mode) c ≡ traced_as outcome next mode
unfolding traced
row-happens {c} (disables k z) = rw (k, eq-eqb c.count 0 z)
row-happens {c} (arms k p) = rw (k, ne_eqb c.count 0 (λ e. omega arith))
row-happens (disabled-access k) = rw k
row-happens (disabled-flush k) = rw k
row-happens (disabled-other k) = rw k
row-happens {c} (armed-access {limit} k h) = rw (k, zero-add c.duration, lt-ltb c.duration limit h)
row-happens {c} (armed-access-late {limit} k h) = rw (k, zero-add c.duration, le-ltb c.duration limit h)
row-happens (armed-flush k) = rw k
row-happens (armed-other k) = rw k
row-happens {c} (running-access {limit} {run} k h) = rw (k, lt-ltb (run + c.duration) limit h)
row-happens {c} (running-access-late {limit} {run} k h) = rw (k, le-ltb (run + c.duration) limit h)
row-happens {c} (running-flush {limit} {run} k h) = rw (k, lt-ltb (run + c.duration) limit h)
row-happens {c} (running-flush-late {limit} {run} k h) = rw (k, le-ltb (run + c.duration) limit h)
row-happens {c} (running-other {limit} {run} k h) = rw (k, lt-ltb (run + c.duration) limit h)
row-happens {c} (running-other-late {limit} {run} k h) = rw (k, le-ltb (run + c.duration) limit h)
row-happens (expired-access k) = rw k
row-happens (expired-flush k) = rw k
row-happens (expired-other k) = rw k

-- what happens is a row of the table
abbrev pub ByRow : Command → Mode → Timer → Type 0
ByRow c mode timer = Row c mode timer (traced (drive_of timer mode) c).outcome (traced (drive_of timer mode) c).drive.timer

-- nothing else happens, but for a setting of the mode
pub happens-by-row : (c : Command) (mode : Mode) (timer : Timer) → (kind_of c ≡ SetMode → ⊥) → ByRow c mode timer
happens-by-row c mode timer n = by_kind (kind_of c) refl timer
  where
    found : {timer : Timer} {outcome : Outcome} {next : Timer} → Row c mode timer outcome next → ByRow c mode timer
    found row = rw (row-happens row) row

    by_count : (b : Bool) → eqb c.count 0 ≡ b → kind_of c ≡ SetLimit → (timer : Timer) → ByRow c mode timer
    by_count true e k timer = found (disables k (eqb-true c.count 0 e))
    by_count false e k timer = let some = eqb-false c.count 0 e in found (arms k (omega (arith, some)))

    by_kind : (k : Kind) → kind_of c ≡ k → (timer : Timer) → ByRow c mode timer
    by_kind SetLimit k timer = by_count (eqb c.count 0) refl k timer
    by_kind SetMode k timer = absurd (n k)
    by_kind Access k Disabled = found (disabled-access k)
    by_kind Access k (Armed limit) =
        ⊎_elim (λ h. found (armed-access k h)) (λ h. found (armed-access-late k h)) (in-time-or-late c.duration limit)
    by_kind Access k (Running limit run) =
        ⊎_elim (λ h. found (running-access k h)) (λ h. found (running-access-late k h)) (in-time-or-late (run + c.duration) limit)
    by_kind Access k (Expired limit) = found (expired-access k)
    by_kind Flush k Disabled = found (disabled-flush k)
    by_kind Flush k (Armed limit) = found (armed-flush k)
    by_kind Flush k (Running limit run) =
        ⊎_elim (λ h. found (running-flush k h)) (λ h. found (running-flush-late k h)) (in-time-or-late (run + c.duration) limit)
    by_kind Flush k (Expired limit) = found (expired-flush k)
    by_kind Other k Disabled = found (disabled-other k)
    by_kind Other k (Armed limit) = found (armed-other k)
    by_kind Other k (Running limit run) =
        ⊎_elim (λ h. found (running-other k h)) (λ h. found (running-other-late k h)) (in-time-or-late (run + c.duration) limit)
    by_kind Other k (Expired limit) = found (expired-other k)

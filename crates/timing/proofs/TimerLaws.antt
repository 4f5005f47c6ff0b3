-- A timer that was started, by the time that it has run.
use mathlib.Core.Path.{◌≡◌, refl, ◌∙◌}
use mathlib.Core.Bool.{Bool, true, false, not}
use mathlib.Core.Logic.{◌⊎◌, inl, inr}
use Prim.Native.Nat.{ℕ, ◌+◌, ◌≤◌, ◌<◌}
use native.Mathlib.Omega.{arith}
use lib.Dec.{ltb}
use borrow.Author.Tests.{lt-ltb, le-ltb, ltb-true, ltb-false}
use Rattle.std.specs.Prelude.{if◌then◌else◌}
use Rattle.timing.specs.declared.timer.Timer.{Timer}
use Rattle.timing.specs.declared.timer.Timer.TheVariants.{Running, Expired}
use Rattle.timing.specs.Timer.{passed, commanded, is_expired}

abbrev pub started_timer : ℕ → ℕ → Timer
started_timer limit run = if ltb run limit then Running limit run else Expired limit

pub still-runs : (limit run : ℕ) → run < limit → started_timer limit run ≡ Running limit run
still-runs limit run h = rw (lt-ltb run limit h)

pub has-expired : (limit run : ℕ) → limit ≤ run → started_timer limit run ≡ Expired limit
has-expired limit run h = rw (le-ltb run limit h)

-- one or the other
pub in-time-or-late : (run limit : ℕ) → (run < limit) ⊎ (limit ≤ run)
in-time-or-late run limit = go (ltb run limit) refl
  where
    go : (b : Bool) → ltb run limit ≡ b → (run < limit) ⊎ (limit ≤ run)
    go true e = inl (ltb-true run limit e)
    go false e = inr (ltb-false run limit e)

-- what is the same of a running and of an expired timer
pub either_way : {A : Type 0} (f : Timer → A) (a : A) (limit run : ℕ) → f (Running limit run) ≡ a → f (Expired limit) ≡ a → f (started_timer limit run) ≡ a
either_way f a limit run r e = go (ltb run limit)
  where
    go : (b : Bool) → f (if b then Running limit run else Expired limit) ≡ a
    go true = r
    go false = e

pub expired-late : (limit run : ℕ) → is_expired (started_timer limit run) ≡ not (ltb run limit)
expired-late limit run = go (ltb run limit)
  where
    go : (b : Bool) → is_expired (if b then Running limit run else Expired limit) ≡ not b
    go true = refl
    go false = refl

-- a duration passes, also in an expired timer
pub time-passes : (limit run duration : ℕ) → passed (started_timer limit run) duration ≡ started_timer limit (run + duration)
time-passes limit run duration = go (ltb run limit) refl
  where
    go : (b : Bool) → ltb run limit ≡ b → passed (if b then Running limit run else Expired limit) duration ≡ started_timer limit (run + duration)
    go true e = refl
    go false e = let late = ltb-false run limit e in rw (le-ltb (run + duration) limit (omega arith))

-- a read or write does not start it again
pub access-passes : (limit run duration : ℕ) → commanded (started_timer limit run) duration ≡ started_timer limit (run + duration)
access-passes limit run duration = go (ltb run limit) ∙ time-passes limit run duration
  where
    go : (b : Bool) → commanded (if b then Running limit run else Expired limit) duration ≡ passed (if b then Running limit run else Expired limit) duration
    go true = refl
    go false = refl

-- Settings, flushes and other commands, in W-208's words.
use mathlib.Core.Path.{◌≡◌, refl}
use mathlib.Core.Bool.{Bool, true, false, ◌||◌}
use Prim.Native.Nat.{ℕ, ◌+◌, ◌*◌, ◌≤◌}
use native.Mathlib.Omega.{arith}
use borrow.Author.Tests.{eq-eqb, ne_eqb, lt-ltb}
use Rattle.timing.specs.declared.timer.Timer.{Timer}
use Rattle.timing.specs.declared.timer.Timer.TheVariants.{Disabled, Armed, Running, Expired}
use Rattle.timing.specs.declared.command.Command.{Command}
use Rattle.timing.specs.declared.command.Kind.TheVariants.{SetLimit, SetMode, Flush, Other}
use Rattle.timing.specs.declared.drive.Mode.TheVariants.{Abort, Continue}
use Rattle.timing.specs.declared.drive.Outcome.TheVariants.{Done, Aborted}
use Rattle.timing.specs.declared.drive.Drive.{Drive}
use Rattle.timing.specs.Timer.{passed, rearmed, is_disabled}
use Rattle.timing.specs.Command.{kind_of}
use Rattle.timing.specs.Drive.{traced}
use Rattle.timing.proofs.TimerLaws.{either_way}

-- the timer is not disabled, and has that limit
abbrev pub HasLimit : ℕ → Timer → Type 0
HasLimit limit Disabled = ⊥
HasLimit limit (Armed l) = l ≡ limit
HasLimit limit (Running l run) = l ≡ limit
HasLimit limit (Expired l) = l ≡ limit

-- passing time neither disables nor enables
disabled-still : (timer : Timer) (duration : ℕ) → is_disabled (passed timer duration) ≡ is_disabled timer
disabled-still Disabled duration = refl
disabled-still (Armed limit) duration = refl
disabled-still (Running limit run) duration = either_way is_disabled false limit (run + duration) refl refl
disabled-still (Expired limit) duration = refl

enabled : (limit : ℕ) (timer : Timer) → HasLimit limit timer → is_disabled timer ≡ false
enabled limit Disabled h = absurd h
enabled limit (Armed l) h = refl
enabled limit (Running l run) h = refl
enabled limit (Expired l) h = refl

rearms : (limit : ℕ) (timer : Timer) (duration : ℕ) → HasLimit limit timer → rearmed (passed timer duration) ≡ Armed limit
rearms limit Disabled duration h = absurd h
rearms limit (Armed l) duration h = rw h
rearms limit (Running l run) duration h = rw h (either_way rearmed (Armed limit) limit (run + duration) refl refl)
rearms limit (Expired l) duration h = rw h

or-true : (b : Bool) → (b || true) ≡ true
or-true true = refl
or-true false = refl

module _ (d : Drive) (c : Command) where
  -- ---- the limit: "Sector Count 0 disables it; 1 to 255 arms it with that many times 10 ms"; "disabling keeps the choice"

  pub disabling-keeps-choice : kind_of c ≡ SetLimit → c.count ≡ 0 → traced d c ≡ record { outcome = Done; drive = record { timer = Disabled; mode = d.mode } }
  unfolding traced
  disabling-keeps-choice k z = rw (k, eq-eqb c.count 0 z)

  pub arming-keeps-choice : kind_of c ≡ SetLimit → 1 ≤ c.count → traced d c ≡ record { outcome = Done; drive = record { timer = Armed (10 * c.count); mode = d.mode } }
  unfolding traced
  arming-keeps-choice k n = rw (k, ne_eqb c.count 0 (λ e. omega arith))

  -- ---- the mode: it moves the timer as any other command of the same duration does

  module _ (other : Command) (o : kind_of other ≡ Other) (t : other.duration ≡ c.duration) (m : kind_of c ≡ SetMode) where
    -- "feature 21h while disabled .. is aborted and changes nothing but the time passed."
    pub refused-disabled : d.timer ≡ Disabled → traced d c ≡ record { outcome = Aborted; drive = (traced d other).drive }
    unfolding traced
    refused-disabled e = rw (m, o, t, e)

    -- ".. or a count above 1 with it .."
    pub refused-count : 2 ≤ c.count → traced d c ≡ record { outcome = Aborted; drive = (traced d other).drive }
    unfolding traced
    refused-count n = rw (m, o, t, lt-ltb 1 c.count (omega arith), or-true (is_disabled (passed d.timer c.duration)))

    -- "Features 21h with 0 chooses abort"
    pub chooses-abort : (limit : ℕ) → HasLimit limit d.timer → c.count ≡ 0 → traced d c ≡ record { outcome = Done; drive = record { timer = (traced d other).drive.timer; mode = Abort } }
    unfolding traced
    chooses-abort limit h n = rw (m, o, t, disabled-still d.timer c.duration, enabled limit d.timer h, n)

    -- "1 choosing continue"
    pub chooses-continue : (limit : ℕ) → HasLimit limit d.timer → c.count ≡ 1 → traced d c ≡ record { outcome = Done; drive = record { timer = (traced d other).drive.timer; mode = Continue } }
    unfolding traced
    chooses-continue limit h n = rw (m, o, t, disabled-still d.timer c.duration, enabled limit d.timer h, n)

  -- ---- flushes and other commands

  -- "a completed flush stops and arms it again, unless it is disabled"; ".. else a flush is deferred and arms the timer"
  pub flush-arms : (limit : ℕ) → HasLimit limit d.timer → kind_of c ≡ Flush → (traced d c).drive ≡ record { timer = Armed limit; mode = d.mode }
  unfolding traced
  flush-arms limit h k = rw (k, rearms limit d.timer c.duration h)

  pub flush-disabled : d.timer ≡ Disabled → kind_of c ≡ Flush → traced d c ≡ record { outcome = Done; drive = record { timer = Disabled; mode = d.mode } }
  unfolding traced
  flush-disabled e k = rw (k, e)

  -- "other commands pass time but are never affected": done, and the choice stays
  pub other-never-affected : kind_of c ≡ Other → traced d c ≡ record { outcome = Done; drive = record { timer = passed d.timer c.duration; mode = d.mode } }
  unfolding traced
  other-never-affected k = rw k

-- The timer. "The timer is disabled, armed, running or expired."
use Rattle.std.specs.Prelude.{Bool, true, false, ℕ, ◌+◌, ◌*◌, eqb, ltb, if◌then◌else◌}
use Rattle.timing.specs.declared.timer.Timer.{Timer}
use Rattle.timing.specs.declared.timer.Timer.TheVariants.{Disabled, Armed, Running, Expired}

-- "SET FEATURES (EFh) with Features 20h and Sector Count 0 disables it; 1 to 255 arms it with that many times 10 ms."
abbrev pub set_to : Timer → ℕ → Timer
set_to timer count = if eqb count 0 then Disabled else Armed (10 * count)

-- "The first timed read or write after arming starts it as it begins"
abbrev pub started : Timer → Timer
started Disabled = Disabled
started (Armed limit) = Running limit 0
started (Running limit run) = Running limit run
started (Expired limit) = Expired limit

-- A duration passes. Time runs in a running timer only; it expires where the time run is not "below the limit" any more.
abbrev pub passed : Timer → ℕ → Timer
passed Disabled duration = Disabled
passed (Armed limit) duration = Armed limit
passed (Running limit run) duration =
    if ltb (run + duration) limit then Running limit (run + duration) else Expired limit
passed (Expired limit) duration = Expired limit

-- a qualified command, from its beginning to its end
abbrev pub commanded : Timer → ℕ → Timer
commanded timer duration = passed (started timer) duration

-- "a completed flush stops and arms it again, unless it is disabled"; ".. else a flush is deferred and arms the timer"
abbrev pub rearmed : Timer → Timer
rearmed Disabled = Disabled
rearmed (Armed limit) = Armed limit
rearmed (Running limit run) = Armed limit
rearmed (Expired limit) = Armed limit

abbrev pub is_disabled : Timer → Bool
is_disabled Disabled = true
is_disabled (Armed limit) = false
is_disabled (Running limit run) = false
is_disabled (Expired limit) = false

abbrev pub is_expired : Timer → Bool
is_expired Disabled = false
is_expired (Armed limit) = false
is_expired (Running limit run) = false
is_expired (Expired limit) = true

-- The rules at their borders, in numbers: a limit of 10 ms, and commands of 0 to 10 ms and of 100.
use mathlib.Core.Path.{◌≡◌, refl}
use Prim.Native.Nat.{ℕ}
use Rattle.timing.specs.declared.timer.Timer.{Timer}
use Rattle.timing.specs.declared.timer.Timer.TheVariants.{Disabled, Armed, Running, Expired}
use Rattle.timing.specs.declared.drive.Mode.{Mode}
use Rattle.timing.specs.declared.drive.Mode.TheVariants.{Abort, Continue}
use Rattle.timing.specs.declared.drive.Outcome.TheVariants.{Done, Aborted, Continued, Deferred}
use Rattle.timing.specs.declared.drive.Traced.{Traced}
use Rattle.timing.specs.Command.{kind_of}
use Rattle.timing.specs.Drive.{traced_as, traced}

-- from a timer and a mode, by a command: its code, feature, count and duration
abbrev by : Timer → Mode → ℕ → ℕ → ℕ → ℕ → Traced
by timer mode code feature count duration =
    traced (record { timer = timer; mode = mode }) (record { code = code; feature = feature; count = count; duration = duration })

-- settings
pub limit-0 : by (Expired 10) Continue 0xEF 0x20 0 0 ≡ traced_as Done Disabled Continue
unfolding traced kind_of
limit-0 = refl

pub limit-1 : by (Running 10 5) Continue 0xEF 0x20 1 9 ≡ traced_as Done (Armed 10) Continue
unfolding traced kind_of
limit-1 = refl

pub limit-255 : by Disabled Abort 0xEF 0x20 255 0 ≡ traced_as Done (Armed 2550) Abort
unfolding traced kind_of
limit-255 = refl

pub choice-0 : by (Running 10 5) Continue 0xEF 0x21 0 4 ≡ traced_as Done (Running 10 9) Abort
unfolding traced kind_of
choice-0 = refl

pub choice-1 : by (Running 10 5) Abort 0xEF 0x21 1 5 ≡ traced_as Done (Expired 10) Continue
unfolding traced kind_of
choice-1 = refl

pub choice-2 : by (Running 10 5) Abort 0xEF 0x21 2 5 ≡ traced_as Aborted (Expired 10) Abort
unfolding traced kind_of
choice-2 = refl

pub choice-disabled : by Disabled Abort 0xEF 0x21 1 100 ≡ traced_as Aborted Disabled Abort
unfolding traced kind_of
choice-disabled = refl

-- reads and writes
pub read-disabled : by Disabled Abort 0xC8 0 0 100 ≡ traced_as Done Disabled Abort
unfolding traced kind_of
read-disabled = refl

pub read-9 : by (Armed 10) Abort 0xC8 0 0 9 ≡ traced_as Done (Running 10 9) Abort
unfolding traced kind_of
read-9 = refl

pub read-10 : by (Armed 10) Abort 0x25 0 0 10 ≡ traced_as Aborted (Expired 10) Abort
unfolding traced kind_of
read-10 = refl

pub write-5-and-4 : by (Running 10 5) Continue 0xCA 0 0 4 ≡ traced_as Done (Running 10 9) Continue
unfolding traced kind_of
write-5-and-4 = refl

pub write-5-and-5 : by (Running 10 5) Continue 0x35 0 0 5 ≡ traced_as Continued (Expired 10) Continue
unfolding traced kind_of
write-5-and-5 = refl

pub write-expired : by (Expired 10) Abort 0xCA 0 0 0 ≡ traced_as Aborted (Expired 10) Abort
unfolding traced kind_of
write-expired = refl

-- flushes
pub flush-disabled : by Disabled Abort 0xE7 0 0 100 ≡ traced_as Done Disabled Abort
unfolding traced kind_of
flush-disabled = refl

pub flush-armed : by (Armed 10) Abort 0xE7 0 0 100 ≡ traced_as Done (Armed 10) Abort
unfolding traced kind_of
flush-armed = refl

pub flush-5-and-4 : by (Running 10 5) Abort 0xE7 0 0 4 ≡ traced_as Done (Armed 10) Abort
unfolding traced kind_of
flush-5-and-4 = refl

pub flush-5-and-5 : by (Running 10 5) Continue 0xEA 0 0 5 ≡ traced_as Deferred (Armed 10) Continue
unfolding traced kind_of
flush-5-and-5 = refl

-- other commands
pub other-armed : by (Armed 10) Abort 0xEC 0 0 100 ≡ traced_as Done (Armed 10) Abort
unfolding traced kind_of
other-armed = refl

pub other-5-and-4 : by (Running 10 5) Abort 0xEC 0 0 4 ≡ traced_as Done (Running 10 9) Abort
unfolding traced kind_of
other-5-and-4 = refl

pub other-5-and-5 : by (Running 10 5) Abort 0xEF 0x22 0 5 ≡ traced_as Done (Expired 10) Abort
unfolding traced kind_of
other-5-and-5 = refl

pub other-expired : by (Expired 10) Abort 0xEC 0 0 100 ≡ traced_as Done (Expired 10) Abort
unfolding traced kind_of
other-expired = refl

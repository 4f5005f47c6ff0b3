-- A command of a bus trace.
use Rattle.std.specs.Prelude.{Bool, ◌||◌, ℕ, ◌+◌, List, get_or, eqb, if◌then◌else◌}
use Rattle.wire.specs.Numbers.{get}
use Rattle.timing.specs.declared.command.Command.{Command}
use Rattle.timing.specs.declared.command.Kind.{Kind}
use Rattle.timing.specs.declared.command.Kind.TheVariants.{SetLimit, SetMode, Access, Flush, Other}

-- "records of 7 bytes: command, feature, count (a byte each) and duration in ms (4 bytes)"
abbrev pub record_size : ℕ
record_size = 7

unfoldable pub command_at : List ℕ → ℕ → Command
command_at s at = record { code = get_or s at 0; feature = get_or s (at + 1) 0; count = get_or s (at + 2) 0; duration = get 4 s (at + 3) }

-- "Timed commands are C8h, 25h, CAh, 35h, E7h and EAh": READ DMA and WRITE DMA, each also as EXT ..
abbrev pub is_access : ℕ → Bool
is_access code = eqb code 0xC8 || eqb code 0x25 || eqb code 0xCA || eqb code 0x35

-- .. and FLUSH CACHE, also as EXT
abbrev pub is_flush : ℕ → Bool
is_flush code = eqb code 0xE7 || eqb code 0xEA

-- "SET FEATURES (EFh) with Features 20h ..", "Features 21h .."
abbrev pub setting_of : ℕ → Kind
setting_of feature = if eqb feature 0x20 then SetLimit else if eqb feature 0x21 then SetMode else Other

unfoldable pub kind_of : Command → Kind
kind_of c =
    if is_access c.code then Access
    else if is_flush c.code then Flush
    else if eqb c.code 0xEF then setting_of c.feature
    else Other

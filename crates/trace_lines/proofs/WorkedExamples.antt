-- The examples of docs/trace.md.
use mathlib.Core.Path.{◌≡◌, refl}
use Prim.Native.Nat.{ℕ}
use Prim.Native.String.{String}
use mathlib.Core.List.{List, [], ◌∷◌, ◌++◌}
use Rattle.wire.specs.Numbers.{le, get}
use Rattle.console.specs.Text.{ascii}
use Rattle.timing.specs.Command.{command_at, kind_of}
use Rattle.timing.specs.Drive.{at_start, traced}
use Rattle.timing.specs.Trace.{outcomes}
use Rattle.trace_lines.specs.Lines.{commands, lines_of, printed}

-- the bytes of a record
abbrev record7 : ℕ → ℕ → ℕ → ℕ → List ℕ
record7 code feature count duration = code ∷ feature ∷ count ∷ le 4 duration

-- settings: SET FEATURES with Features 20h and 21h, in no time
abbrev limit : ℕ → List ℕ
limit count = record7 0xEF 0x20 count 0

abbrev mode : ℕ → List ℕ
mode count = record7 0xEF 0x21 count 0

-- any other command, with its duration
abbrev for : ℕ → ℕ → List ℕ
for code duration = record7 code 0 0 duration

-- an input, and what is printed
abbrev Example : Type 0
Example = List ℕ × String

abbrev examples : List Example
examples =
    (limit 1 ++ for 0xC8 9, "done\ndone\n")
    ∷ (limit 1 ++ for 0xC8 10, "done\naborted\n")
    ∷ (limit 1 ++ for 0xC8 5 ++ for 0x25 4 ++ for 0xCA 1, "done\ndone\ndone\naborted\n")
    ∷ (limit 255 ++ for 0x35 2549 ++ for 0x35 1, "done\ndone\naborted\n")
    ∷ (limit 1 ++ for 0xEC 100 ++ for 0xE7 100 ++ for 0xC8 9, "done\ndone\ndone\ndone\n")
    ∷ (limit 1 ++ for 0xC8 9 ++ for 0xEC 1 ++ for 0xEC 0 ++ for 0x35 0, "done\ndone\ndone\ndone\naborted\n")
    ∷ (limit 1 ++ for 0xC8 5 ++ for 0xEC 4294967295 ++ for 0xEC 1 ++ for 0xC8 0, "done\ndone\ndone\ndone\naborted\n")
    ∷ (limit 1 ++ for 0xCA 5 ++ for 0xE7 4 ++ for 0xCA 9, "done\ndone\ndone\ndone\n")
    ∷ (limit 1 ++ for 0xCA 5 ++ for 0xEA 5 ++ for 0xCA 9, "done\ndone\ndeferred\ndone\n")
    ∷ (limit 1 ++ mode 1 ++ for 0xC8 10 ++ for 0xC8 0 ++ mode 0 ++ for 0xC8 0, "done\ndone\ncontinued\ncontinued\ndone\naborted\n")
    ∷ (limit 1 ++ mode 1 ++ limit 0 ++ for 0xC8 4294967295 ++ limit 2 ++ for 0xC8 20, "done\ndone\ndone\ndone\ndone\ncontinued\n")
    ∷ (mode 1 ++ limit 1 ++ mode 2 ++ for 0xC8 10, "aborted\ndone\naborted\naborted\n")
    ∷ (limit 1 ++ for 0xC8 4 ++ record7 0xEF 0x21 2 6 ++ for 0x25 0, "done\ndone\naborted\naborted\n")
    ∷ (for 0xC8 10 ++ 0xC8 ∷ 0 ∷ 0 ∷ [], "done\ncut\n")
    ∷ []

abbrev AllPrinted : List Example → Type 0
AllPrinted [] = Unit {0}
AllPrinted (e ∷ es) = (printed at_start e.0 ≡ ascii e.1) × AllPrinted es

pub worked-examples : AllPrinted examples
unfolding printed commands command_at get le outcomes traced kind_of lines_of
worked-examples = (refl, (refl, (refl, (refl, (refl, (refl, (refl, (refl, (refl, (refl, (refl, (refl, (refl, (refl, tt))))))))))))))

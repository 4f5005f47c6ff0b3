-- Text in ASCII, numbers as text, and what it means to write a piece of text into a line.
use Rattle.std.specs.Prelude.{◌≡◌, ℕ, zero, suc, ◌+◌, ◌/◌, ◌%◌, ◌≤◌, List, [], ◌∷◌, ◌++◌, ltb, length, take, if◌then◌else◌}
use Prim.Native.Char.{code}
use Prim.Native.String.{String}
use Rattle.std.proofs.lemmas.List.Edits.{sets}

-- a text as its ASCII codes
abbrev pub ascii : String → List ℕ
ascii String.[] = []
ascii (String.◌∷◌ c text) = code c ∷ ascii text

-- the ASCII code of a digit below 16: 0 to 9, then A to F
abbrev pub hex_digit : ℕ → ℕ
hex_digit d = if ltb d 10 then 48 + d else 55 + d

-- v in k hexadecimal digits, the highest first
unfoldable pub hex_digits : ℕ → ℕ → List ℕ
hex_digits zero v = []
hex_digits (suc k) v = hex_digits k (v / 16) ++ hex_digit (v % 16) ∷ []

-- v in decimal, the highest digit first, in at most f digits
unfoldable pub decimal_up_to : ℕ → ℕ → List ℕ
decimal_up_to zero v = []
decimal_up_to (suc f) v = if ltb v 10 then (48 + v) ∷ [] else decimal_up_to f (v / 10) ++ (48 + v % 10) ∷ []

-- v in decimal, with no leading 0 except for 0 itself; the digits of v are never more than v + 1
unfoldable pub decimal_digits : ℕ → List ℕ
decimal_digits v = decimal_up_to (suc v) v

-- `text` was written into the line `before` from `at`: `next` is the place after it, and `after` is the line afterwards.
pub record Wrote (before : List ℕ) (at : ℕ) (text : List ℕ) (next : ℕ) (after : List ℕ) : Type 0 where
  pub place : next ≡ at + length text
  pub line : after ≡ sets before at text

-- the line has n bytes at its start: so `&line[..n]` is known to be within it. The second part follows from the first.
abbrev pub Begins : ℕ → List ℕ → Type 0
Begins n line = (n ≤ length line) × (n ≡ length (take n line))

-- The line of a record. "Fields, one space between"
use Rattle.std.specs.Prelude.{List, [], ◌∷◌, ◌++◌, ℕ}
use Rattle.console.specs.Text.{hex_digits, decimal_digits}

abbrev pub space : List ℕ
space = 32 ∷ []

abbrev pub newline : List ℕ
newline = 10 ∷ []

-- "capital hex of two, two and four digits"
unfoldable pub codes : ℕ → ℕ → ℕ → List ℕ
codes status error code =
    space ++ (hex_digits 2 status ++ (space ++ (hex_digits 2 error ++ (space ++ (hex_digits 4 code ++ space)))))

-- "record number from 1, Status, Error, stored code after work, sectors written; first and last in decimal"
unfoldable pub report : ℕ → ℕ → ℕ → ℕ → ℕ → List ℕ
report number status error code written =
    decimal_digits number ++ (codes status error code ++ (decimal_digits written ++ newline))

-- Runs of bytes: whether every element is below 256; whether two runs are the same; whether a run is all zeros.
use Rattle.std.specs.Prelude.{Bool, true, false, ◌&&◌, ℕ, ◌<◌, List, [], ◌∷◌, get_or, eqb}

abbrev pub Bytes : List ℕ → Type 0
Bytes l = (i : ℕ) → get_or l i 0 < 256

unfoldable pub same : List ℕ → List ℕ → Bool
same [] [] = true
same [] (b ∷ ys) = false
same (a ∷ xs) [] = false
same (a ∷ xs) (b ∷ ys) = eqb a b && same xs ys

unfoldable pub all_zero : List ℕ → Bool
all_zero [] = true
all_zero (x ∷ l) = eqb x 0 && all_zero l

-- A layout: numbers at fixed places of a run of bytes.
use Rattle.std.specs.Prelude.{◌≡◌, Bool, true, ◌&&◌, ◌||◌, ℕ, ◌+◌, ◌^◌, ◌<◌, List, [], ◌∷◌, leb, ltb}
use Rattle.wire.specs.Numbers.{get, put}
use Rattle.wire.specs.Parts.{zeros}

-- the place of a number, how many bytes it takes, and its value
abbrev pub Field : Type 0
Field = ℕ × ℕ × ℕ

-- s with the fields stored
abbrev pub stores : List Field → List ℕ → List ℕ
stores [] s = s
stores (f ∷ fs) s = stores fs (put f.1 s f.0 f.2)

-- the fields, each moved by that many bytes
abbrev pub placed : ℕ → List Field → List Field
placed at [] = []
placed at (f ∷ fs) = (at + f.0, f.1, f.2) ∷ placed at fs

-- n bytes that hold the fields, and 0 everywhere else
unfoldable pub form : ℕ → List Field → List ℕ
form n fs = stores fs (zeros n)

-- The fields are one after the other, from a place on, within n bytes.
abbrev pub ordered : ℕ → ℕ → List Field → Bool
ordered from n [] = leb from n
ordered from n (f ∷ fs) = leb from f.0 && ordered (f.0 + f.1) n fs

-- Every value fits its width.
abbrev pub Fit : List Field → Type 0
Fit [] = Unit {0}
Fit (f ∷ fs) = (f.2 < 256 ^ f.1) × Fit fs

-- Every field is read from s as its value.
abbrev pub Reads : List Field → List ℕ → Type 0
Reads [] s = Unit {0}
Reads (f ∷ fs) s = (get f.1 s f.0 ≡ f.2) × Reads fs s

-- The place i belongs to no field.
abbrev pub outside : List Field → ℕ → Bool
outside [] i = true
outside (f ∷ fs) i = (ltb i f.0 || leb (f.0 + f.1) i) && outside fs i

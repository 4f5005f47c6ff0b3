-- A test as a number, the first of several tests that fails, and a step that such tests guard.
use Rattle.std.specs.Prelude.{Bool, true, false, ◌&&◌, ℕ, zero, suc, List, [], ◌∷◌, leb, if◌then◌else◌}

-- a test as a bit
abbrev pub bit : Bool → ℕ
bit true = 1
bit false = 0

-- low ≤ x ≤ high
abbrev pub between : ℕ → ℕ → ℕ → Bool
between low x high = leb low x && leb x high

-- A test that must hold, and the number given if it does not.
abbrev pub Check : Type 0
Check = Bool × ℕ

-- The number of the first check that fails; 0 if none does.
abbrev pub first_failed : List Check → ℕ
first_failed [] = 0
first_failed (c ∷ cs) = if c.0 then first_failed cs else c.1

-- a for the number 0 (nothing failed), else b
abbrev pub if_passed : {A : Type 0} → ℕ → A → A → A
if_passed zero a b = a
if_passed (suc n) a b = b

-- A step, of the machine or of an entry: its checks, what it leaves if all of them pass, and what a refusal by number leaves.
pub record Guarded (A : Type 0) : Type 0 where
  pub checks : List Check
  pub done : A
  pub refused : ℕ → A

abbrev pub attempt : {A : Type 0} → Guarded A → A
attempt g = let n = first_failed g.checks in if_passed n g.done (g.refused n)

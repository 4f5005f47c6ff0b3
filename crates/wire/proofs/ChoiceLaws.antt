-- Laws of tests and of lists of checks.
use Rattle.std.specs.Prelude.{if◌then◌else◌}
use mathlib.Core.Path.{◌≡◌, refl, sym, ap, ◌∙◌}
use mathlib.Core.Bool.{Bool, true, false, ◌&&◌, not}
use Prim.Native.Nat.{ℕ, zero, suc, ◌≤◌, ◌<◌}
use native.Mathlib.Omega.{arith}
use native.Mathlib.Decide.{dec_lt}
use mathlib.Core.List.{List, [], ◌∷◌, ◌++◌}
use borrow.Author.Tests.{not-true, not-false, leb-true, le-leb}
use lib.Dec.{leb}
use Rattle.wire.specs.Choice.{bit, between, Check, first_failed, if_passed, Guarded, attempt}

pub and_left : (a b : Bool) → (a && b) ≡ true → a ≡ true
and_left true b h = refl
and_left false b h = h

pub and_right : (a b : Bool) → (a && b) ≡ true → b ≡ true
and_right true b h = h
and_right false b h = cc

pub and_both : (a b : Bool) → a ≡ true → b ≡ true → (a && b) ≡ true
and_both a b p q = rw (p, q)

-- what the callee ensures about a test whose outcome is known
pub told : {t b v : Bool} → t ≡ b → t ≡ v → b ≡ v
told e h = sym e ∙ h

-- .. after `if !test() { return .. }` was not taken, and after it was taken
pub passed : {t b : Bool} → t ≡ b → not t ≡ false → b ≡ true
passed {t} e h = told e (not-false t h)

pub failed : {t b : Bool} → t ≡ b → not t ≡ true → b ≡ false
failed {t} e h = told e (not-true t h)

-- && groups to the left: a && b && c is (a && b) && c
pub and-three : (a b c : Bool) → (a && b && c) ≡ true → (a ≡ true) × (b ≡ true) × (c ≡ true)
and-three a b c h =
    let ab = and_left (a && b) c h in
    (and_left a b ab, and_right a b ab, and_right (a && b) c h)

pub three-and : (a b c : Bool) → a ≡ true → b ≡ true → c ≡ true → (a && b && c) ≡ true
three-and a b c p q r = rw (p, q, r)

pub between-true : (low x high : ℕ) → between low x high ≡ true → (low ≤ x) × (x ≤ high)
between-true low x high h =
    (leb-true low x (and_left (leb low x) (leb x high) h), leb-true x high (and_right (leb low x) (leb x high) h))

pub between-within : (low x high : ℕ) → low ≤ x → x ≤ high → between low x high ≡ true
between-within low x high p q = and_both (leb low x) (leb x high) (le-leb low x p) (le-leb x high q)

pub bit-small : (b : Bool) → bit b ≤ 1
bit-small true = omega arith
bit-small false = omega arith

-- ---- lists of checks

-- every test holds
abbrev pub AllPass : List Check → Type 0
AllPass [] = Unit {0}
AllPass (c ∷ cs) = (c.0 ≡ true) × AllPass cs

-- every number is above 0 and at most the bound
abbrev pub Numbered : ℕ → List Check → Type 0
Numbered bound [] = Unit {0}
Numbered bound (c ∷ cs) = (0 < c.1) × (c.1 ≤ bound) × Numbered bound cs

-- what is chosen by a number: b if a check failed
pub passed-not : {A : Type 0} (n : ℕ) (a b : A) → (n ≡ 0 → ⊥) → if_passed n a b ≡ b
passed-not zero a b some = absurd (some refl)
passed-not (suc n) a b some = refl

-- ---- a step, by the number of the first check that fails: refused with it, or done

module _ {A : Type 0} (g : Guarded A) where
  module _ (n : ℕ) (e : n ≡ first_failed g.checks) where
    pub attempt-refused : (n ≡ 0 → ⊥) → attempt g ≡ g.refused n
    attempt-refused some = ap (λ (k : ℕ). if_passed k g.done (g.refused k)) (sym e) ∙ passed-not n g.done (g.refused n) some

    pub attempt-done : n ≡ 0 → attempt g ≡ g.done
    attempt-done z = ap (λ (k : ℕ). if_passed k g.done (g.refused k)) (sym e ∙ z)

  -- its answer is that number, if it is after both
  pub attempt-answer : (answer : A → ℕ) → answer g.done ≡ 0 → ((n : ℕ) → answer (g.refused n) ≡ n) → answer (attempt g) ≡ first_failed g.checks
  attempt-answer answer d f = go (first_failed g.checks)
    where
      go : (n : ℕ) → answer (if_passed n g.done (g.refused n)) ≡ n
      go zero = d
      go (suc n) = f (suc n)

-- if the number is 0, every test holds
pub all_pass : (bound : ℕ) (cs : List Check) → Numbered bound cs → first_failed cs ≡ 0 → AllPass cs
all_pass bound [] n e = tt
all_pass bound (c ∷ cs) n e = go c.0 refl e (all_pass bound cs n.2)
  where
    go : (b : Bool) → c.0 ≡ b → (if b then first_failed cs else c.1) ≡ 0 → (first_failed cs ≡ 0 → AllPass cs) → (c.0 ≡ true) × AllPass cs
    go true q e f = (q, f e)
    go false q e f = absurd (omega (arith, n.0))

-- if every test holds, the number is 0
pub pass_all : (cs : List Check) → AllPass cs → first_failed cs ≡ 0
pass_all [] p = refl
pass_all (c ∷ cs) p = rw p.0 (pass_all cs p.1)

-- the number is at most the bound on the list's numbers
pub first-bound : (bound : ℕ) (cs : List Check) → Numbered bound cs → first_failed cs ≤ bound
first-bound bound [] n = omega arith
first-bound bound (c ∷ cs) n = go c.0 (first-bound bound cs n.2)
  where
    go : (b : Bool) → first_failed cs ≤ bound → (if b then first_failed cs else c.1) ≤ bound
    go true h = h
    go false h = n.1

-- THE LAW of a table of checks: the first row that fails decides, whatever follows it.
pub first-decides : (before : List Check) (number : ℕ) (behind : List Check) → AllPass before
    → first_failed (before ++ (false, number) ∷ behind) ≡ number
first-decides [] number behind p = refl
first-decides (c ∷ cs) number behind p = rw p.0 (first-decides cs number behind p.1)

-- ---- a test over all numbers below a bound

abbrev pub below : ℕ → (ℕ → Bool) → Bool
below zero f = true
below (suc n) f = f n && below n f

pub below_all : (n : ℕ) (f : ℕ → Bool) → below n f ≡ true → (i : ℕ) → i < n → f i ≡ true
below_all zero f h i b = absurd (omega arith)
below_all (suc n) f h i b = go (dec_lt i n) (below_all n f (and_right (f n) (below n f) h) i)
  where
    go : Dec (i < n) → (i < n → f i ≡ true) → f i ≡ true
    go (yes k) rest = rest k
    go (no k) rest = let last : i ≡ n = omega arith in ap f last ∙ and_left (f n) (below n f) h

-- two tests that imply each other are the same
pub tests_same : (a b : Bool) → (a ≡ true → b ≡ true) → (b ≡ true → a ≡ true) → a ≡ b
tests_same true b f g = sym (f refl)
tests_same false true f g = g refl
tests_same false false f g = refl

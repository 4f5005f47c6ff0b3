-- The kinds of commands, in numbers.
use mathlib.Core.Path.{◌≡◌, refl, sym, ap, ◌∙◌}
use mathlib.Core.Bool.{Bool, true, false, ◌&&◌, ◌||◌}
use Prim.Native.Nat.{ℕ}
use lib.Dec.{eqb}
use borrow.Author.Tests.{eqb-true}
use Rattle.std.specs.Prelude.{if◌then◌else◌}
use Rattle.timing.specs.declared.command.Command.{Command}
use Rattle.timing.specs.declared.command.Kind.{Kind}
use Rattle.timing.specs.declared.command.Kind.TheVariants.{SetLimit, SetMode, Access, Flush, Other}
use Rattle.timing.specs.Command.{is_access, is_flush, kind_of}

-- READ DMA, READ DMA EXT, WRITE DMA, WRITE DMA EXT
abbrev pub accesses : Command → Bool
accesses c = eqb c.code 200 || eqb c.code 37 || eqb c.code 202 || eqb c.code 53

-- FLUSH CACHE, FLUSH CACHE EXT
abbrev pub flushes : Command → Bool
flushes c = eqb c.code 231 || eqb c.code 234

-- SET FEATURES
abbrev pub sets_limit : Command → Bool
sets_limit c = eqb c.code 239 && eqb c.feature 32

abbrev pub sets_mode : Command → Bool
sets_mode c = eqb c.code 239 && eqb c.feature 33

-- the four tests of a command of a kind
abbrev pub tests_of : Kind → Bool × Bool × Bool × Bool
tests_of SetLimit = (true, false, false, false)
tests_of SetMode = (false, true, false, false)
tests_of Access = (false, false, true, false)
tests_of Flush = (false, false, false, true)
tests_of Other = (false, false, false, false)

-- a number of which a test holds is not one of which it does not
apart : (test : ℕ → Bool) (n code : ℕ) → test code ≡ true → test n ≡ false → eqb code n ≡ false
apart test n code h no-n = go (eqb code n) refl
  where
    go : (b : Bool) → eqb code n ≡ b → b ≡ false
    go true e = sym h ∙ ap test (eqb-true code n e) ∙ no-n
    go false e = refl

pub kind-tests : (c : Command) → (sets_limit c, sets_mode c, accesses c, flushes c) ≡ tests_of (kind_of c)
unfolding kind_of
kind-tests c = go (is_access c.code) refl (is_flush c.code) refl (eqb c.code 239) refl (eqb c.feature 32) refl (eqb c.feature 33) refl
  where
    go : (a : Bool) → is_access c.code ≡ a → (f : Bool) → is_flush c.code ≡ f → (s : Bool) → eqb c.code 239 ≡ s → (l : Bool) → eqb c.feature 32 ≡ l → (m : Bool) → eqb c.feature 33 ≡ m
        → (sets_limit c, sets_mode c, accesses c, flushes c) ≡ tests_of (if a then Access else if f then Flush else if s then (if l then SetLimit else if m then SetMode else Other) else Other)
    go true a f f' s s' l l' m m' = rw (a, apart is_access 239 c.code a refl, apart is_access 231 c.code a refl, apart is_access 234 c.code a refl)
    go false a true f s s' l l' m m' = rw (a, f, apart is_flush 239 c.code f refl)
    go false a false f true s true l m m' = rw (a, f, s, eqb-true c.feature 32 l)
    go false a false f true s false l true m = rw (a, f, s, l, m)
    go false a false f true s false l false m = rw (a, f, s, l, m)
    go false a false f false s l l' m m' = rw (a, f, s)

-- The values of a timer and the states of the three features, as tests and as ranges.
use mathlib.Core.Path.{◌≡◌, refl}
use mathlib.Core.Bool.{Bool, true, false, ◌||◌}
use mathlib.Core.Logic.{inl, inr}
use Prim.Native.Nat.{ℕ, ◌≤◌}
use lib.Dec.{eqb, leb}
use borrow.Author.Tests.{eqb-true, leb-true, le-leb}
use Rattle.wire.specs.Choice.{between}
use Rattle.wire.proofs.ChoiceLaws.{between-true, between-within, and-three}
use Rattle.model.specs.Key.{timer_named, highest_state, states_named}
use Rattle.model.specs.Valid.{TimerValid}

pub range-timer : (n : ℕ) → TimerValid n → timer_named n ≡ true
range-timer n (inl e) = rw e
range-timer n (inr h) = go (eqb n 0)
  where
    go : (b : Bool) → (b || leb 10 n) ≡ true
    go true = refl
    go false = le-leb 10 n h

pub timer-range : (n : ℕ) → timer_named n ≡ true → TimerValid n
timer-range n e = go (eqb n 0) refl e
  where
    go : (b : Bool) → eqb n 0 ≡ b → (b || leb 10 n) ≡ true → TimerValid n
    go true z e = inl (eqb-true n 0 z)
    go false z e = inr (leb-true 10 n e)

module _ (cache reordering interval : ℕ) where
  pub states-ranges : states_named cache reordering interval ≡ true
      → ((1 ≤ cache) × (cache ≤ highest_state 1)) × ((1 ≤ reordering) × (reordering ≤ highest_state 2)) × ((1 ≤ interval) × (interval ≤ highest_state 3))
  unfolding states_named
  states-ranges h =
      let each = and-three (between 1 cache (highest_state 1)) (between 1 reordering (highest_state 2)) (between 1 interval (highest_state 3)) h in
      (between-true 1 cache (highest_state 1) each.0, between-true 1 reordering (highest_state 2) each.1, between-true 1 interval (highest_state 3) each.2)

  pub ranges-states : (1 ≤ cache) × (cache ≤ highest_state 1) → (1 ≤ reordering) × (reordering ≤ highest_state 2) → (1 ≤ interval) × (interval ≤ highest_state 3)
      → states_named cache reordering interval ≡ true
  unfolding states_named
  ranges-states a b c =
      rw (between-within 1 cache (highest_state 1) a.0 a.1, between-within 1 reordering (highest_state 2) b.0 b.1)
      (between-within 1 interval (highest_state 3) c.0 c.1)

-- Laws of a key as the code reads it: of the device it depends only on the lock and the visible size, and the action decides which rows follow.
use mathlib.Core.Path.{◌≡◌}
use mathlib.Core.Bool.{Bool, true, false}
use Prim.Native.Nat.{ℕ}
use mathlib.Core.List.{List}
use borrow.Author.Tests.{ne_eqb}
use Rattle.wire.specs.Choice.{between}
use Rattle.model.specs.Device.{Device}
use Rattle.model.specs.Key.{word, long_checks, fill_checks, timer_checks, feature_checks, table_checks, key_checks, send_table, long_action, fill_action, timer_action, feature_action, action_of, rejected, judged, judge_key}

module _ (locked : Bool) (visible : ℕ) (k : List ℕ) (d : Device) (lock : d.locked ≡ locked) (size : d.visible ≡ visible) where
  pub with-lock : locked ≡ true → rejected 0x0012 255 ≡ judge_key d k
  unfolding judge_key key_checks
  with-lock l = rw (lock, l)

  module _ (unlocked : locked ≡ false) where
    pub with-action : between 1 (word k 0) 5 ≡ false → rejected 0x0010 0 ≡ judge_key d k
    unfolding judge_key key_checks
    with-action b = rw (lock, unlocked, b)

    pub with-long : word k 0 ≡ 1 → judged (long_checks visible k) (long_action k) ≡ judge_key d k
    unfolding judge_key key_checks action_of
    with-long w = rw (lock, unlocked, size, w)

    pub with-fill : word k 0 ≡ 2 → judged (fill_checks visible k) (fill_action visible k) ≡ judge_key d k
    unfolding judge_key key_checks action_of
    with-fill w = rw (lock, unlocked, size, w)

    pub with-timer : word k 0 ≡ 3 → judged (timer_checks k) (timer_action k) ≡ judge_key d k
    unfolding judge_key key_checks action_of
    with-timer w = rw (lock, unlocked, size, w)

    pub with-feature : word k 0 ≡ 4 → judged (feature_checks k) (feature_action k) ≡ judge_key d k
    unfolding judge_key key_checks action_of
    with-feature w = rw (lock, unlocked, size, w)

    pub with-table : between 1 (word k 0) 5 ≡ true → (word k 0 ≡ 1 → ⊥) → (word k 0 ≡ 2 → ⊥) → (word k 0 ≡ 3 → ⊥) → (word k 0 ≡ 4 → ⊥)
        → judged (table_checks k) send_table ≡ judge_key d k
    unfolding judge_key key_checks action_of
    with-table b one two three four = rw (lock, unlocked, size, b, ne_eqb (word k 0) 1 one, ne_eqb (word k 0) 2 two, ne_eqb (word k 0) 3 three, ne_eqb (word k 0) 4 four)

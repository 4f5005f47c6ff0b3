-- Laws of timers and features: what a set changes, what it leaves unchanged, and what a return reads.
use mathlib.Core.Path.{◌≡◌, refl}
use Prim.Native.Nat.{ℕ}
use lib.ListN.{replicate}
use Rattle.model.specs.Device.{Feature, Settings, Thermal, Device}
use Rattle.model.specs.Update.{with_thermal}
use Rattle.model.specs.Registers.{read, write}
use Rattle.model.specs.Key.{write_cache, reordering, log_interval}
use Rattle.model.specs.Temperature.{history_emptied}
use Rattle.model.specs.Decide.{timer, with_timer, feature, with_feature, after_feature}

-- the timers for reads and writes, and features 1 to 3
pub record Has (s : Settings) (for_read for_write : ℕ) (first second third : Feature) : Type 0 where
  pub read_timer : s.read_timer ≡ for_read
  pub write_timer : s.write_timer ≡ for_write
  pub write_cache : s.write_cache ≡ first
  pub reordering : s.reordering ≡ second
  pub log_interval : s.log_interval ≡ third

as-they-are : (s : Settings) → Has s s.read_timer s.write_timer s.write_cache s.reordering s.log_interval
as-they-are s = record { read_timer = refl; write_timer = refl; write_cache = refl; reordering = refl; log_interval = refl }

module _ (s : Settings) (n : ℕ) (f : Feature) where
  -- the timer that is set has the value, and everything else is unchanged
  pub set-read : Has (with_timer read n s) n s.write_timer s.write_cache s.reordering s.log_interval
  set-read = as-they-are (with_timer read n s)

  pub set-write : Has (with_timer write n s) s.read_timer n s.write_cache s.reordering s.log_interval
  set-write = as-they-are (with_timer write n s)

  -- the feature that is set has the value, and everything else is unchanged
  pub set-cache : Has (with_feature write_cache f s) s.read_timer s.write_timer f s.reordering s.log_interval
  set-cache = as-they-are (with_feature write_cache f s)

  pub set-reordering : Has (with_feature reordering f s) s.read_timer s.write_timer s.write_cache f s.log_interval
  set-reordering = as-they-are (with_feature reordering f s)

  pub set-interval : Has (with_feature log_interval f s) s.read_timer s.write_timer s.write_cache s.reordering f
  set-interval = as-they-are (with_feature log_interval f s)

-- a return reads the timer and the feature that it names
pub returned-timers : (s : Settings) → (timer read s ≡ s.read_timer) × (timer write s ≡ s.write_timer)
returned-timers s = (refl, refl)

pub returned-features : (s : Settings)
    → (feature write_cache s ≡ s.write_cache) × (feature reordering s ≡ s.reordering) × (feature log_interval s ≡ s.log_interval)
returned-features s = (refl, refl, refl)

-- ---- "Any set of feature 3 empties the temperature history."

-- "Empty history is all 80h, index 477, minutes 0"; the temperatures are unchanged
pub record Emptied (before after : Thermal) : Type 0 where
  pub history : after.history ≡ replicate 478 0x80
  pub index : after.index ≡ 477
  pub minutes : after.minutes ≡ 0
  pub current : after.current ≡ before.current
  pub cycle_maximum : after.cycle_maximum ≡ before.cycle_maximum
  pub life_maximum : after.life_maximum ≡ before.life_maximum

pub interval-empties : (d : Device) → Emptied d.thermal (after_feature log_interval d).thermal
unfolding history_emptied
interval-empties d = record { history = refl; index = refl; minutes = refl; current = refl; cycle_maximum = refl; life_maximum = refl }

-- .. and nothing else of the device
pub interval-keeps : (d : Device) → after_feature log_interval d ≡ with_thermal (after_feature log_interval d).thermal d
interval-keeps d = refl

-- a set of feature 1 or 2 does not change the temperatures
pub others_keep : (d : Device) → (after_feature write_cache d ≡ d) × (after_feature reordering d ≡ d)
others_keep d = (refl, refl)

-- Laws of temperatures: maxima by signed value, missing samples, and where a reading is logged.
use mathlib.Core.Path.{◌≡◌, ap, refl, sym, ◌∙◌}
use mathlib.Core.Bool.{Bool, true, false}
use mathlib.Core.Logic.{◌⊎◌, inl, inr}
use Prim.Native.Nat.{ℕ, suc, ◌+◌, ◌≤◌, ◌<◌}
use native.Mathlib.Omega.{arith}
use lib.ListN.{set}
use lib.IntN.{ℤ, pos, negsuc, ◌-ℤ◌}
use lib.Signed.{le_z, ◌≤ℤ◌, ≤ℤ_refl}
use lib.Dec.{eqb, le→leb}
use borrow.Author.Tests.{eqb-true, ne_eqb, leb-false, lt-ltb, le-ltb}
use Rattle.std.specs.Prelude.{if◌then◌else◌}
use Rattle.model.specs.Sizes.{history_size, missing}
use Rattle.model.specs.Device.{Thermal}
use Rattle.model.specs.Temperature.{signed, new_maximum, next_index, sampled}
use Rattle.model.specs.Owner.{sample as sample_device}
use Rattle.model.specs.Machine.{Machine, while_running}
use Rattle.model.specs.Step.{sample as sample_step, owner, step}

-- ---- the maximum

le_z-below : (a b : ℤ) → le_z a b ≡ true → a ≤ℤ b
le_z-below a b e = record { le = rw e tt }

le_z-above : (a b : ℤ) → le_z a b ≡ false → b ≤ℤ a
le_z-above (pos a) (pos b) e = let h = leb-false a b e in record { le = le→leb b a (omega arith) }
le_z-above (pos a) (negsuc b) e = record { le = tt }
le_z-above (negsuc a) (pos b) e = absurd (let z : ◌≡◌ {A = ℕ} 0 1 = cc in omega arith)
le_z-above (negsuc a) (negsuc b) e = let h = leb-false b a e in record { le = le→leb a b (omega arith) }

-- The new maximum of two real readings is one of them, and neither has a higher signed value.
pub record Greater (sample old new : ℕ) : Type 0 where
  pub is_one : (new ≡ sample) ⊎ (new ≡ old)
  pub above_sample : signed sample ≤ℤ signed new
  pub above_old : signed old ≤ℤ signed new

pub maximum-greater : (sample old : ℕ) → (sample ≡ missing → ⊥) → (old ≡ missing → ⊥) → Greater sample old (new_maximum sample old)
unfolding new_maximum
maximum-greater sample old s o = rw (ne_eqb sample missing s, ne_eqb old missing o) (go (le_z (signed sample) (signed old)) refl)
  where
    go : (b : Bool) → le_z (signed sample) (signed old) ≡ b → Greater sample old (if b then old else sample)
    go true e = record { is_one = inr refl; above_sample = le_z-below (signed sample) (signed old) e; above_old = ≤ℤ_refl (signed old) }
    go false e = record { is_one = inl refl; above_sample = ≤ℤ_refl (signed sample); above_old = le_z-above (signed sample) (signed old) e }

-- "A missing sample .. moves no maximum."
pub missing-moves-none : (old : ℕ) → new_maximum missing old ≡ old
unfolding new_maximum
missing-moves-none old = refl

-- "A missing maximum takes the first real sample."
pub first-sample : (sample : ℕ) → new_maximum sample missing ≡ sample
unfolding new_maximum
first-sample sample = go (eqb sample missing) refl
  where
    go : (b : Bool) → eqb sample missing ≡ b → (if b then missing else sample) ≡ sample
    go true e = sym (eqb-true sample missing e)
    go false e = refl

-- two's complement: 0 to 127 mean themselves, and n means n - 256 from 80h on
pub signed-positive : (b : ℕ) → b < 128 → signed b ≡ pos b
signed-positive b h = rw (lt-ltb b 128 h)

pub signed-negative : (b : ℕ) → 128 ≤ b → b < 256 → signed b ≡ pos b -ℤ pos 256
signed-negative b h k = rw (le-ltb b 128 h, lt-ltb b 256 k) (ap negsuc (omega arith))

-- ---- the history

-- "a reading is logged at index + 1, and 0 follows 477"
pub next-index : (index : ℕ) → index < 477 → next_index index ≡ index + 1
next-index index h = rw (ne_eqb (suc index) history_size (λ e. omega arith)) (omega arith)

pub next-after-last : next_index 477 ≡ 0
next-after-last = refl

pub index-small : (index : ℕ) → index < history_size → next_index index < history_size
index-small index h = go (eqb (suc index) history_size) refl
  where
    go : (b : Bool) → eqb (suc index) history_size ≡ b → (if b then 0 else suc index) < history_size
    go true e = omega arith
    go false e = let ne = borrow.Author.Tests.eqb-false (suc index) history_size e in omega arith

-- "One sample is one minute": before the interval is reached a minute is counted and nothing is logged
pub sample-counts : (interval sample : ℕ) (t : Thermal) → suc t.minutes < interval
    → ((sampled interval sample t).minutes ≡ suc t.minutes) × ((sampled interval sample t).history ≡ t.history) × ((sampled interval sample t).index ≡ t.index)
unfolding sampled
sample-counts interval sample t h = rw (lt-ltb (suc t.minutes) interval h) (refl, refl, refl)

-- "When the minutes reach the interval, the sample (missing too) is logged and the minutes restart."
pub sample-logs : (interval sample : ℕ) (t : Thermal) → suc t.minutes ≡ interval
    → ((sampled interval sample t).minutes ≡ 0)
    × ((sampled interval sample t).index ≡ next_index t.index)
    × ((sampled interval sample t).history ≡ set t.history (next_index t.index) sample)
unfolding sampled
sample-logs interval sample t e = rw (le-ltb (suc t.minutes) interval (omega arith)) (refl, refl, refl)

-- "A missing sample sets "now" missing": now is the sample, whatever it is
pub sample-now : (interval sample : ℕ) (t : Thermal) → (sampled interval sample t).current ≡ sample
unfolding sampled
sample-now interval sample t = refl

-- both maxima take the sample in the same way
pub sample-maxima : (interval sample : ℕ) (t : Thermal)
    → ((sampled interval sample t).cycle_maximum ≡ new_maximum sample t.cycle_maximum)
    × ((sampled interval sample t).life_maximum ≡ new_maximum sample t.life_maximum)
unfolding sampled
sample-maxima interval sample t = (refl, refl)

-- ---- the step

module _ (reading : ℕ) (M : Machine) where
  abbrev before : Thermal
  before = M.device.thermal

  abbrev after : Machine
  after = (step (owner (sample_step reading)) M).state

  pub step-temperatures : (after.device.thermal.current ≡ reading)
      × (after.device.thermal.cycle_maximum ≡ new_maximum reading before.cycle_maximum)
      × (after.device.thermal.life_maximum ≡ new_maximum reading before.life_maximum)
  unfolding step sample_device sampled
  step-temperatures = (refl, refl, refl)

  -- the interval is feature 3's state: below it the minute is counted ..
  pub step_counts : before.minutes + 1 < M.device.settings.log_interval.state
      → (after.device.thermal.minutes ≡ before.minutes + 1)
      × (after.device.thermal.history ≡ before.history)
      × (after.device.thermal.index ≡ before.index)
  unfolding step sample_device
  step_counts h =
      let c = sample-counts M.device.settings.log_interval.state reading before (omega arith) in
      (c.0 ∙ omega arith, c.1, c.2)

  -- .. and "When the minutes reach the interval, the sample (missing too) is logged and the minutes restart."
  pub step-logs : before.minutes + 1 ≡ M.device.settings.log_interval.state
      → (after.device.thermal.minutes ≡ 0)
      × (after.device.thermal.index ≡ next_index before.index)
      × (after.device.thermal.history ≡ set before.history (next_index before.index) reading)
  unfolding step sample_device
  step-logs e = sample-logs M.device.settings.log_interval.state reading before (omega arith)

-- a sample changes only the temperatures
pub record SampleKeeps (M N : Machine) : Type 0 where
  pub sizes : (N.device.native ≡ M.device.native) × (N.device.visible ≡ M.device.visible)
  pub lock_and_flag : (N.device.locked ≡ M.device.locked) × (N.device.initialized ≡ M.device.initialized)
  pub command : N.device.command ≡ M.device.command
  pub settings : N.device.settings ≡ M.device.settings
  pub sector : N.sector ≡ while_running M.device.command.fill M.sector
  pub ports : N.ports ≡ M.ports
  pub disk : N.disk ≡ M.disk

pub sample-keeps : (reading : ℕ) (M : Machine) → SampleKeeps M (step (owner (sample_step reading)) M).state
unfolding step sample_device
sample-keeps reading M =
    record {
      sizes = (refl, refl);
      lock_and_flag = (refl, refl);
      command = refl;
      settings = refl;
      sector = refl;
      ports = refl;
      disk = refl;
    }

-- A struct, and a record's bytes, after a sample.
use Rattle.std.specs.Prelude.{◌≡◌, List, ℕ, suc, ◌+◌, set, ltb, if◌then◌else◌}
use Rattle.model.specs.Temperature.{table_head_size, next_index, sampled}
use Rattle.model.specs.Owner.{sample}
use Rattle.store.specs.Areas.{head_size}
use Rattle.record.specs.DeviceMeaning.{as_thermal, as_device, stages_of}
use Rattle.record.specs.declared.device as code

-- the history after a sample: the sample is at the next place, if it is logged
abbrev pub logged_history : code.Thermal.Thermal → ℕ → ℕ → List ℕ → List ℕ
logged_history t interval sample h = if ltb (suc t.minutes) interval then h else set h (next_index t.index) sample

-- r means t after a sample
pub record Sampled (t : code.Thermal.Thermal) (interval sample : ℕ) (r : code.Thermal.Thermal) : Type 0 where
  pub thermal : (h : List ℕ) → as_thermal r (logged_history t interval sample h) ≡ sampled interval sample (as_thermal t h)

-- e means d after a sample, together with the history that is then in the record
pub record SampledDevice (reading : ℕ) (d e : code.Device.Device) : Type 0 where
  pub device :
      (h : List ℕ) → as_device e (logged_history d.thermal d.settings.log_interval.state reading h) ≡ sample reading (as_device d h)
  pub stages : stages_of e.slots ≡ stages_of d.slots

-- the record with a sample in its history, if it is logged
abbrev pub logged_record : code.Thermal.Thermal → ℕ → ℕ → List ℕ → List ℕ
logged_record t interval reading r =
    if ltb (suc t.minutes) interval then r else set r (head_size + table_head_size + next_index t.index) reading

-- Which feature is the log interval, and a struct that means the device of another struct with a feature set.
use Rattle.std.specs.Prelude.{◌≡◌, Bool, true, false, List, ℕ, length}
use Rattle.model.specs.Key.{FeatureName, write_cache, reordering, log_interval}
use Rattle.model.specs.Update.{with_settings}
use Rattle.model.specs.Decide.{with_feature, after_feature}
use Rattle.record.specs.DeviceMeaning.{history_after, as_device, stages_of}
use Rattle.record.specs.declared.device as code

abbrev pub is_interval : FeatureName → Bool
is_interval write_cache = false
is_interval reordering = false
is_interval log_interval = true

-- r means d with a feature set, together with the history that is then in the record
pub record FeatureSet (name : FeatureName) (state : ℕ) (persistent : Bool) (d r : code.Device.Device) : Type 0 where
  pub device :
      (h : List ℕ)
      → as_device r (history_after (is_interval name) h)
      ≡ after_feature name (with_settings (with_feature name (record { state = state; persistent = persistent }) (as_device d h).settings) (as_device d h))
  pub stages : stages_of r.slots ≡ stages_of d.slots
  pub four : length r.slots ≡ length d.slots

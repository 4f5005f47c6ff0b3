-- What else a set of the log interval does: it empties the history.
use mathlib.Core.Path.{◌≡◌, refl}
use mathlib.Core.Bool.{true}
use mathlib.Core.List.{List}
use Prim.Native.Nat.{ℕ}
use Rattle.model.specs.Device.{Device}
use Rattle.model.specs.Update.{with_thermal}
use Rattle.model.specs.Temperature.{empty_history, history_emptied}
use Rattle.model.specs.Key.{FeatureName, write_cache, reordering, log_interval}
use Rattle.model.specs.Decide.{after_feature}
use Rattle.record.specs.DeviceMeaning.{history_after}
use Rattle.settings.specs.Features.{is_interval}

pub interval-emptied : (name : FeatureName) (d : Device) (h : List ℕ) → is_interval name ≡ true
    → (history_after (is_interval name) h ≡ empty_history) × (after_feature name d ≡ with_thermal (history_emptied d.thermal) d)
interval-emptied write_cache d h e = absurd cc
interval-emptied reordering d h e = absurd cc
interval-emptied log_interval d h e = (refl, refl)

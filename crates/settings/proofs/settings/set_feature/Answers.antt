use mathlib.Core.Path.{refl, sym, ap, ◌∙◌}
use Rattle.model.specs.Device.{Settings}
use Rattle.model.specs.Update.{with_settings, with_thermal}
use Rattle.model.specs.Temperature.{history_emptied}
use Rattle.model.specs.Decide.{with_feature}
use Rattle.record.specs.DeviceMeaning.{as_device, as_feature_name}
use Rattle.settings.proofs.SettingCases.{interval-emptied}
use Rattle.settings.proofs.settings.set_feature.Goals as goal

pub returns-then-is_interval : goal.returns-then-is_interval
unfolding history_emptied
returns-then-is_interval c =
    let a = c.args in
    let name = as_feature_name a.name in
    record {
      device = λ h.
          let d = as_device a.d h in
          let emptied = interval-emptied name (with_settings (with_feature name (record { state = a.state; persistent = a.persistent }) d.settings) d) h (sym c.is_interval.ensures ∙ c.if-is_interval.true) in
          rw (emptied.0, emptied.1) (ap (λ (t : Settings). with_thermal (history_emptied d.thermal) (with_settings t d)) c.with_feature-settings.ensures);
      stages = refl;
      four = refl;
    }

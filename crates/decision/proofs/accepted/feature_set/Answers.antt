use mathlib.Core.Path.{refl}
use Rattle.record.specs.DeviceMeaning.{as_feature_name}
use Rattle.decision.proofs.FeatureLaws.{feature-decided}
use Rattle.decision.proofs.accepted.feature_set.Goals as goal

pub returns : goal.returns
returns c =
    let a = c.args in
    λ m. feature-decided m (as_feature_name a.name) a.state a.keep a.p a.d _ c.set_feature-device.ensures c.good-reply.ensures refl c.is_interval-empties.ensures

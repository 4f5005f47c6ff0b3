-- The device and the history after a feature is set.
use mathlib.Core.Path.{◌≡◌, ◌∙◌}
use mathlib.Core.Bool.{Bool}
use mathlib.Core.List.{List}
use Prim.Native.Nat.{ℕ}
use Rattle.model.specs.Registers.{good}
use Rattle.model.specs.Key.{FeatureName, set_feature}
use Rattle.model.specs.Decide.{nothing, decision, carry_out}
use Rattle.record.specs.declared.device as device
use Rattle.record.specs.DeviceMeaning.{as_device, history_after}
use Rattle.reply.specs.ReplyMeaning.{as_registers}
use Rattle.settings.specs.Features.{is_interval, FeatureSet}
use Rattle.decision.specs.declared.decision as code
use Rattle.decision.specs.DecisionMeaning.{as_effect, Decided}

pub feature-decided : (m : List ℕ) (name : FeatureName) (n : ℕ) (keep : Bool) (p : ℕ) (d : device.Device.Device) (k : code.Decision.Decision)
    → FeatureSet name n keep d k.device → as_registers k.reply ≡ good 0 0 → as_effect k m ≡ nothing → k.empties ≡ is_interval name
    → Decided m (carry_out (set_feature name n keep) p) d k
unfolding carry_out
feature-decided m name n keep p d k set registers effect empties =
    record {
      same = λ h i.
          decision
          (((λ j. as_device k.device (history_after (empties j) h)) ∙ set.device h) i)
          (registers i)
          (effect i);
      stages = set.stages;
      four = set.four;
    }

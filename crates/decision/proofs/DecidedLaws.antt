-- From what a decision means to what a rule of the model decides.
use mathlib.Core.Path.{◌≡◌, ap, ◌∙◌}
use mathlib.Core.List.{List}
use Prim.Native.Nat.{ℕ}
use lib.ListN.{length}
use Rattle.model.specs.Device.{Device}
use Rattle.model.specs.Registers.{Registers}
use Rattle.model.specs.Decide.{Effect, Decision, decision}
use Rattle.record.specs.declared.device as device
use Rattle.record.specs.DeviceMeaning.{as_device, history_after, stages_of}
use Rattle.device_update.specs.Change.{Changed}
use Rattle.decision.specs.declared.decision as code
use Rattle.decision.specs.DecisionMeaning.{Says, Decided}

-- THE LAW of a decision: its device is d changed by f, its registers are those that w gives
pub says-decided : (m : List ℕ) (f : Device → Device) (w : Device → Registers) (effect : List ℕ → Effect) (d e : device.Device.Device) (q : Registers) (k : code.Decision.Decision)
    → Says e q effect k → Changed f d e → ((h : List ℕ) → q ≡ w (as_device d h)) → Decided m (λ x. decision (f x) (w x) (effect m)) d k
says-decided m f w effect d e q k says change registers =
    record {
      same = λ h i.
          decision
          (((λ j. as_device (says.device j) (history_after (says.history j) h)) ∙ change.device h) i)
          ((says.registers ∙ registers h) i)
          (says.effect m i);
      stages = ap (λ (x : device.Device.Device). stages_of x.slots) says.device ∙ change.stages;
      four = ap (λ (x : device.Device.Device). length x.slots) says.device ∙ change.four;
    }

-- another rule that decides the same
pub decided-as : (m : List ℕ) (f g : Device → Decision) (d : device.Device.Device) (k : code.Decision.Decision)
    → ((h : List ℕ) → f (as_device d h) ≡ g (as_device d h)) → Decided m f d k → Decided m g d k
decided-as m f g d k same s = record { same = λ h. s.same h ∙ same h; stages = s.stages; four = s.four }

-- a decision after a change
pub decided-then : (m : List ℕ) (f : Device → Device) (g : Device → Decision) (d e : device.Device.Device) (k : code.Decision.Decision)
    → Changed f d e → Decided m g e k → Decided m (λ x. g (f x)) d k
decided-then m f g d e k change s =
    record { same = λ h. s.same h ∙ ap g (change.device h); stages = s.stages ∙ change.stages; four = s.four ∙ change.four }

use mathlib.Core.Path.{refl}
use Rattle.model.specs.Registers.{good}
use Rattle.device_update.proofs.ChangeLaws.{unchanged}
use Rattle.decision.proofs.DecidedLaws.{says-decided}
use Rattle.decide.proofs.access.moved.Goals as goal

pub returns-in-Read : goal.returns-in-Read
returns-in-Read c =
    let a = c.args in
    λ m. rw c.in-Read.is (says-decided m (λ x. x) (λ x. good 0 0) _ a.d a.d _ _ c.to_send.ensures (unchanged a.d) (λ h. refl))

pub returns-in-Write : goal.returns-in-Write
returns-in-Write c =
    let a = c.args in
    λ m. rw c.in-Write.is (says-decided m (λ x. x) (λ x. good 0 0) _ a.d a.d _ _ c.to_write.ensures (unchanged a.d) (λ h. refl))

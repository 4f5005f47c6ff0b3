use mathlib.Core.Path.{refl}
use Rattle.model.specs.Registers.{good}
use Rattle.model.specs.Decide.{nothing, sending, temperatures}
use Rattle.device_update.proofs.ChangeLaws.{unchanged}
use Rattle.decision.proofs.DecidedLaws.{says-decided}
use Rattle.decide.proofs.access.completed.Goals as goal

pub returns-in-None : goal.returns-in-None
returns-in-None c =
    let a = c.args in
    λ m. rw c.in-None.is (says-decided m (λ x. x) (λ x. good 0 0) (λ m. nothing) a.d a.d _ _ c.replied.ensures (unchanged a.d) (λ h. c.good.ensures))

pub returns-in-Table : goal.returns-in-Table
returns-in-Table c =
    let a = c.args in
    λ m. rw c.in-Table.is (says-decided m (λ x. x) (λ x. good 0 0) (λ m. sending temperatures) a.d a.d _ _ c.to_send.ensures (unchanged a.d) (λ h. refl))

pub returns-in-FillData : goal.returns-in-FillData
returns-in-FillData c =
    let a = c.args in
    λ m. rw c.in-FillData.is (says-decided m (λ x. x) (λ x. good 0 0) _ a.d a.d _ _ c.to_write.ensures (unchanged a.d) (λ h. refl))

pub returns-in-ReadLong : goal.returns-in-ReadLong
returns-in-ReadLong c =
    let a = c.args in
    λ m. rw c.in-ReadLong.is (says-decided m (λ x. x) (λ x. good 0 0) _ a.d a.d _ _ c.to_send-in-ReadLong.ensures (unchanged a.d) (λ h. refl))

pub returns-in-WriteLong : goal.returns-in-WriteLong
returns-in-WriteLong c =
    let a = c.args in
    λ m. rw c.in-WriteLong.is (says-decided m (λ x. x) (λ x. good 0 0) _ a.d a.d _ _ c.to_write-in-WriteLong.ensures (unchanged a.d) (λ h. refl))

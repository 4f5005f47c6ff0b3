use mathlib.Core.Path.{refl, subst}
use lib.ListN.{set}
use Rattle.model.specs.Device.{Transfer}
use Rattle.model.specs.Update.{with_pending}
use Rattle.model.specs.Registers.{good}
use Rattle.model.specs.Decide.{nothing, carry_out}
use Rattle.device_update.specs.Change.{Changed}
use Rattle.device_update.proofs.ChangeLaws.{unchanged}
use Rattle.decision.proofs.DecidedLaws.{says-decided}
use Rattle.decision.proofs.accepted.carry_out.Goals as goal

pub returns-in-AccessLong : goal.returns-in-AccessLong
unfolding carry_out
returns-in-AccessLong c =
    let a = c.args in
    let change =
    subst (λ (t : Transfer). Changed (λ x. with_pending (set x.command.pending a.p t) x) a.d c.with_pending.result) c.long_transfer.ensures c.with_pending.ensures in
    λ m. rw c.in-AccessLong.is (says-decided m _ (λ x. good 2 2) (λ m. nothing) a.d _ _ _ c.replied.ensures change (λ h. c.good.ensures))

pub returns-in-FillPattern : goal.returns-in-FillPattern
unfolding carry_out
returns-in-FillPattern c =
    let a = c.args in
    λ m. rw c.in-FillPattern.is (says-decided m (λ x. x) (λ x. good 0 0) _ a.d a.d _ _ c.to_write.ensures (unchanged a.d) (λ h. refl))

pub returns-in-FillSector : goal.returns-in-FillSector
unfolding carry_out
returns-in-FillSector c =
    λ m. rw c.in-FillSector.is (says-decided m _ (λ x. good 0 1) (λ m. nothing) c.args.d _ _ _ c.replied-in-FillSector.ensures c.with_pending-in-FillSector.ensures (λ h. c.good-in-FillSector.ensures))

pub returns-in-SetTimer : goal.returns-in-SetTimer
unfolding carry_out
returns-in-SetTimer c =
    λ m. rw c.in-SetTimer.is (says-decided m _ (λ x. good 0 0) (λ m. nothing) c.args.d _ _ _ c.replied-in-SetTimer.ensures c.set_timer.ensures (λ h. c.good-in-SetTimer.ensures))

pub returns-in-ReturnTimer : goal.returns-in-ReturnTimer
unfolding carry_out
returns-in-ReturnTimer c =
    let a = c.args in
    λ m. rw c.in-ReturnTimer.is (says-decided m (λ x. x) _ (λ m. nothing) a.d a.d _ _ c.replied-in-ReturnTimer.ensures (unchanged a.d) (λ h. rw (c.good-in-ReturnTimer.ensures, c.timer.ensures)))

pub returns-in-SetFeature : goal.returns-in-SetFeature
returns-in-SetFeature c = λ m. rw c.in-SetFeature.is (c.feature_set.ensures m)

pub returns-in-ReturnState : goal.returns-in-ReturnState
unfolding carry_out
returns-in-ReturnState c =
    let a = c.args in
    λ m. rw c.in-ReturnState.is (says-decided m (λ x. x) _ (λ m. nothing) a.d a.d _ _ c.replied-in-ReturnState.ensures (unchanged a.d) (λ h. rw (c.good-in-ReturnState.ensures, c.state_of.ensures)))

pub returns-in-ReturnOption : goal.returns-in-ReturnOption
unfolding carry_out
returns-in-ReturnOption c =
    let a = c.args in
    λ m. rw c.in-ReturnOption.is (says-decided m (λ x. x) _ (λ m. nothing) a.d a.d _ _ c.replied-in-ReturnOption.ensures (unchanged a.d) (λ h. rw (c.good-in-ReturnOption.ensures, c.option_of.ensures)))

pub returns-in-SendTable : goal.returns-in-SendTable
unfolding carry_out
returns-in-SendTable c =
    λ m. rw c.in-SendTable.is (says-decided m _ (λ x. good 0 1) (λ m. nothing) c.args.d _ _ _ c.replied-in-SendTable.ensures c.with_pending-in-SendTable.ensures (λ h. c.good-in-SendTable.ensures))

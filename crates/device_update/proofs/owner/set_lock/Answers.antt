use mathlib.Core.Path.{ap}
use Rattle.model.specs.Update.{with_locked}
use Rattle.model.specs.Owner.{set_lock}
use Rattle.device_update.proofs.owner.set_lock.Goals as goal

pub returns : goal.returns
unfolding set_lock
returns c =
    let i = c.interrupt-e.ensures in
    record { device = λ h. ap (with_locked c.args.locked) (i.device h); stages = i.stages; four = i.four }

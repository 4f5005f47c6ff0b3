use mathlib.Core.Path.{ap}
use mathlib.Core.Bool.{◌&&◌}
use lib.Dec.{eqb}
use Rattle.model.specs.Device.{Device}
use Rattle.model.specs.Update.{with_visible, with_initialized}
use Rattle.model.specs.Owner.{set_visible}
use Rattle.device_update.proofs.owner.set_visible.Goals as goal

pub returns : goal.returns
unfolding set_visible
returns c =
    let i = c.interrupt-e.ensures in
    let a = c.args in
    record {
      device = λ h. ap (λ (x : Device). with_visible a.visible (with_initialized (a.d.initialized && eqb a.visible a.d.visible) x)) (i.device h);
      stages = i.stages;
      four = i.four;
    }

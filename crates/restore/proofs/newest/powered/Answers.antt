use mathlib.Core.Path.{refl}
use Rattle.record.specs.DeviceMeaning.{as_settings}
use Rattle.restore.proofs.RestoreLaws.{powered-is}
use Rattle.restore.proofs.newest.powered.Goals as goal

pub returns : goal.returns
returns c =
    let a = c.args in
    record {
      s_value = λ s en ev ei el es ex. powered-is s a.native a.visible a.initialized a.life (as_settings a.settings) a.index en ev ei el es ex;
      stages = refl;
    }

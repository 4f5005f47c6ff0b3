use mathlib.Core.Path.{refl}
use Rattle.model.specs.Image.{blank}
use Rattle.restore.proofs.newest.blank_device.Goals as goal

pub returns : goal.returns
returns c = record {
  empty_history_value = c.powered.ensures.s_value (blank c.args.native) refl refl refl refl (c.defaults-settings.ensures c.args.native) refl;
  stages = c.powered.ensures.stages;
}

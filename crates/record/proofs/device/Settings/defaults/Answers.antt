use Rattle.record.proofs.device.Settings.defaults.Goals as goal

pub returns : goal.returns
returns c = λ native. c.power_on.ensures

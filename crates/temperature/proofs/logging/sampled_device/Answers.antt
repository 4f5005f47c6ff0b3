use Rattle.temperature.proofs.SampleLaws.{sampled-says}
use Rattle.temperature.proofs.logging.sampled_device.Goals as goal

pub returns : goal.returns
returns c = sampled-says c.args.reading c.args.d _ c.sampled_thermal-thermal.ensures

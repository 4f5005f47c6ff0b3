use Rattle.key.proofs.SumLaws.{sum-test}
use Rattle.key.proofs.key.sum_within.Goals as goal

pub returns : goal.returns
returns c = sum-test c.args.first c.args.sectors c.args.visible c.requires

use Rattle.model.specs.Fill.{work_count}
use Rattle.fill.proofs.steps.count_of.Goals as goal

pub returns : goal.returns
unfolding work_count
returns c = rw (c.min.ensures, c.remaining.ensures)

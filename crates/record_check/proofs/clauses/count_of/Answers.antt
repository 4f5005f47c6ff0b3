use mathlib.Core.Path.{◌∙◌}
use Rattle.record_check.proofs.PendingLaws.{number_counts}
use Rattle.record_check.proofs.clauses.count_of.Goals as goal

pub returns : goal.returns
returns c = record {
  by_index = λ first end. c.bit_of.ensures.value ∙ number_counts c.args.kind first end;
  small = c.bit_of.ensures.small;
}

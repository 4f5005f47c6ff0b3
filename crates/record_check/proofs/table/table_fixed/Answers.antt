use Rattle.store.specs.RecordTests.{table_fixed}
use Rattle.record_check.proofs.table.table_fixed.Goals as goal

pub returns : goal.returns
unfolding table_fixed
returns c = rw (c.get-versions.ensures, c.get-limits.ensures, c.is_zero-zero.ensures, c.get-size.ensures)

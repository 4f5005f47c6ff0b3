use Rattle.store.specs.RecordTests.{fill_named}
use Rattle.record_check.proofs.places.fill_named.Goals as goal

pub returns : goal.returns
unfolding fill_named
returns c = rw (c.get-kind.ensures, c.get-first.ensures, c.get-next.ensures, c.get-end.ensures)

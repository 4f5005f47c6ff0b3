use Rattle.store.specs.RecordTests.{slot_named}
use Rattle.record_check.proofs.places.slot_named.Goals as goal

pub returns : goal.returns
unfolding slot_named
returns c =
    rw (
      c.transfer_named.ensures,
      c.get-stage.ensures,
      c.get-kind.ensures,
      c.get-first.ensures,
      c.get-end.ensures,
    )

use Rattle.record_check.proofs.places.slots_named.Goals as goal

pub returns : goal.returns
returns c =
    rw (
      c.slot_named.ensures,
      c.slot_named-2.ensures,
      c.slot_named-3.ensures,
      c.slot_named-4.ensures,
    )

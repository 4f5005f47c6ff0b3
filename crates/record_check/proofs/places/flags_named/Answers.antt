use Rattle.store.specs.RecordTests.{flags_named}
use Rattle.record_check.proofs.places.flags_named.Goals as goal

pub returns : goal.returns
unfolding flags_named
returns c =
    rw (
      c.flag_named.ensures,
      c.flag_named-2.ensures,
      c.flag_named-3.ensures,
      c.flag_named-4.ensures,
      c.flag_named-5.ensures,
    )

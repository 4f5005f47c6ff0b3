use Rattle.record_check.proofs.places.flag_named.Goals as goal

pub returns : goal.returns
returns c = rw c.get.ensures

use Rattle.record_write.proofs.history.empty_history.Goals as goal

pub returns : goal.returns
returns c = c.set_part.ensures

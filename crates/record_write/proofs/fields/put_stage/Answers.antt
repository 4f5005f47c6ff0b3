use Rattle.record_write.proofs.fields.put_stage.Goals as goal

pub returns : goal.returns
returns c = rw (c.put.ensures, c.stage_number.ensures)

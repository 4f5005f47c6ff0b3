use Rattle.record_write.proofs.fields.put_table.Goals as goal

pub returns : goal.returns
returns c =
    rw (c.put-2.ensures, c.put.ensures)

use Rattle.record_check.proofs.clauses.port_sound.Goals as goal

pub returns : goal.returns
returns c =
    rw (c.transfer_sound.ensures, c.get.ensures, c.get-2.ensures, c.get-3.ensures)

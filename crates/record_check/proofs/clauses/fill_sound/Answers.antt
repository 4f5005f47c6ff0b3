use Rattle.record_check.proofs.clauses.fill_sound.Goals as goal

pub returns-in-Idle : goal.returns-in-Idle
returns-in-Idle c = rw c.in-Idle.is

pub returns-in-Running : goal.returns-in-Running
returns-in-Running c = rw c.in-Running.is

use Rattle.record.proofs.codec.stage_number.Goals as goal

pub returns-in-Empty : goal.returns-in-Empty
returns-in-Empty c = rw c.in-Empty.is

pub returns-in-Held : goal.returns-in-Held
returns-in-Held c = rw c.in-Held.is

pub returns-in-Answered : goal.returns-in-Answered
returns-in-Answered c = rw c.in-Answered.is

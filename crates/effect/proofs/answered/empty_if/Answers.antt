use Rattle.effect.proofs.answered.empty_if.Goals as goal

pub returns-then-not-asked : goal.returns-then-not-asked
returns-then-not-asked c = rw c.if-not-asked.true

pub returns : goal.returns
returns c =
    rw (c.empty_history.ensures, c.if-not-asked.false)

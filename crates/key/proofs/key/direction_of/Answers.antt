use borrow.Author.Tests.{eq-eqb, ne_eqb}
use Rattle.key.proofs.key.direction_of.Goals as goal

pub returns-then-n-eq-READ : goal.returns-then-n-eq-READ
returns-then-n-eq-READ c = rw (eq-eqb _ _ c.if-n-eq-READ.true)

pub returns : goal.returns
returns c = rw (ne_eqb _ _ c.if-n-eq-READ.false)

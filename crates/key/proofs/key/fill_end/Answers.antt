use borrow.Author.Tests.{eq-eqb, ne_eqb}
use Rattle.key.proofs.key.fill_end.Goals as goal

pub returns-then-sectors-eq0 : goal.returns-then-sectors-eq0
returns-then-sectors-eq0 c = λ k s n. rw (n, eq-eqb _ _ c.if-sectors-eq0.true)

pub returns : goal.returns
returns c = λ k s n. rw (n, s, ne_eqb _ _ c.if-sectors-eq0.false)

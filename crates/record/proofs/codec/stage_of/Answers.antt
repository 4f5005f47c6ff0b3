use borrow.Author.Tests.{eq-eqb, ne_eqb}
use Rattle.record.proofs.codec.stage_of.Goals as goal

pub returns-then-n-eq-HELD : goal.returns-then-n-eq-HELD
returns-then-n-eq-HELD c = rw (eq-eqb _ _ c.if-n-eq-HELD.true)

pub returns-then-n-eq-ANSWERED : goal.returns-then-n-eq-ANSWERED
returns-then-n-eq-ANSWERED c = rw (ne_eqb _ _ c.if-n-eq-HELD.false, eq-eqb _ _ c.if-n-eq-ANSWERED.true)

pub returns : goal.returns
returns c = rw (ne_eqb _ _ c.if-n-eq-HELD.false, ne_eqb _ _ c.if-n-eq-ANSWERED.false)

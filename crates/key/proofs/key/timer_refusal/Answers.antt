use mathlib.Core.Path.{refl}
use borrow.Author.Tests.{eq-eqb, ne_eqb}
use Rattle.key.proofs.key.timer_refusal.Goals as goal

pub returns-then-name-eq-READ : goal.returns-then-name-eq-READ
returns-then-name-eq-READ c = (rw (eq-eqb _ _ c.if-name-eq-READ.true), refl)

pub returns : goal.returns
returns c = (rw (ne_eqb _ _ c.if-name-eq-READ.false), refl)

use borrow.Author.Tests.{eq-eqb, ne_eqb}
use Rattle.key.proofs.key.highest_state.Goals as goal

pub returns-then-name-eq-WRITE_CACHE : goal.returns-then-name-eq-WRITE_CACHE
returns-then-name-eq-WRITE_CACHE c = rw (eq-eqb _ _ c.if-name-eq-WRITE_CACHE.true)

pub returns-then-name-eq-REORDERING : goal.returns-then-name-eq-REORDERING
returns-then-name-eq-REORDERING c = rw (ne_eqb _ _ c.if-name-eq-WRITE_CACHE.false, eq-eqb _ _ c.if-name-eq-REORDERING.true)

pub returns : goal.returns
returns c = rw (ne_eqb _ _ c.if-name-eq-WRITE_CACHE.false, ne_eqb _ _ c.if-name-eq-REORDERING.false)

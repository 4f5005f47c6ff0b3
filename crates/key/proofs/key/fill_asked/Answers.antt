use borrow.Author.Tests.{eq-eqb, ne_eqb}
use Rattle.key.proofs.key.fill_asked.Goals as goal

pub returns-then-function-eq-FILL_PATTERN : goal.returns-then-function-eq-FILL_PATTERN
returns-then-function-eq-FILL_PATTERN c = λ sector. rw (eq-eqb _ _ c.if-function-eq-FILL_PATTERN.true)

pub returns : goal.returns
returns c = λ sector. rw (ne_eqb _ _ c.if-function-eq-FILL_PATTERN.false)

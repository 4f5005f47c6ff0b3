use borrow.Author.Tests.{eq-eqb, ne_eqb}
use Rattle.key.proofs.key.feature_returned.Goals as goal

pub returns-then-function-eq-FEATURE_STATE : goal.returns-then-function-eq-FEATURE_STATE
returns-then-function-eq-FEATURE_STATE c = λ sector. rw (eq-eqb _ _ c.if-function-eq-FEATURE_STATE.true)

pub returns : goal.returns
returns c = λ sector. rw (ne_eqb _ _ c.if-function-eq-FEATURE_STATE.false)

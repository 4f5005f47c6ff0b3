use borrow.Author.Tests.{lt-leb, le-leb}
use Rattle.key.proofs.key.feature_set.Goals as goal

pub returns-then-option-gt1 : goal.returns-then-option-gt1
returns-then-option-gt1 c = λ sector. rw (lt-leb _ _ c.if-option-gt1.true)

pub returns : goal.returns
returns c = λ sector. rw (le-leb _ _ c.if-option-gt1.false)

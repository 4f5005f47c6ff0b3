use borrow.Author.Tests.{eq-eqb, ne_eqb}
use Rattle.key.proofs.key.table_key.Goals as goal

pub returns-then-function-ne-TABLE_READ : goal.returns-then-function-ne-TABLE_READ
returns-then-function-ne-TABLE_READ c = λ k f n. rw (f, ne_eqb _ _ c.if-function-ne-TABLE_READ.true)

pub returns-then-name-ne-HISTORY_TABLE : goal.returns-then-name-ne-HISTORY_TABLE
returns-then-name-ne-HISTORY_TABLE c = λ k f n. rw (f, eq-eqb _ _ c.if-function-ne-TABLE_READ.false, n, ne_eqb _ _ c.if-name-ne-HISTORY_TABLE.true)

pub returns : goal.returns
returns c = λ k f n. rw (f, eq-eqb _ _ c.if-function-ne-TABLE_READ.false, n, eq-eqb _ _ c.if-name-ne-HISTORY_TABLE.false)

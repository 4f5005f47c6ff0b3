use borrow.Author.Tests.{lt-ltb, le-ltb}
use Rattle.wire.proofs.ChoiceLaws.{told}
use Rattle.key.proofs.key.long_key.Goals as goal

pub returns-then-not-between : goal.returns-then-not-between
returns-then-not-between c = λ k f l. rw (f, told c.between.ensures c.if-not-between.true)

pub returns-then-lba-visible : goal.returns-then-lba-visible
returns-then-lba-visible c = λ k f l. rw (f, told c.between.ensures c.if-not-between.false, l, le-ltb _ _ c.if-lba-visible.true)

pub returns : goal.returns
returns c =
    λ k f l. rw (f, told c.between.ensures c.if-not-between.false, l, lt-ltb _ _ c.if-lba-visible.false, c.direction_of-dir.ensures)

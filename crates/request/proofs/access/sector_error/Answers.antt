use borrow.Author.Tests.{eq-eqb, ne_eqb, lt-ltb, le-ltb}
use Rattle.request.proofs.access.sector_error.Goals as goal

pub returns-then-locked : goal.returns-then-locked
returns-then-locked c = λ d l v. rw (l, c.if-locked.true)

pub returns-then-count-ne1 : goal.returns-then-count-ne1
returns-then-count-ne1 c = λ d l v. rw (l, c.if-locked.false, ne_eqb _ _ c.if-count-ne1.true)

pub returns-then-lba-visible : goal.returns-then-lba-visible
returns-then-lba-visible c = λ d l v. rw (l, c.if-locked.false, eq-eqb _ _ c.if-count-ne1.false, v, le-ltb _ _ c.if-lba-visible.true)

pub returns : goal.returns
returns c = λ d l v. rw (l, c.if-locked.false, eq-eqb _ _ c.if-count-ne1.false, v, lt-ltb _ _ c.if-lba-visible.false)

use Rattle.wire.proofs.ChoiceLaws.{told}
use borrow.Author.Tests.{lt-leb, le-leb}
use Rattle.model.specs.Key.{pattern_sector}
use Rattle.key.proofs.key.fill_key.Goals as goal

pub returns-then-not-between : goal.returns-then-not-between
returns-then-not-between c = λ k f s n. rw (f, told c.between.ensures c.if-not-between.true)

pub returns-then-first-last : goal.returns-then-first-last
returns-then-first-last c = λ k f s n. rw (f, told c.between.ensures c.if-not-between.false, s, lt-leb _ _ c.if-first-last.true)

pub returns-then-not-sum_within : goal.returns-then-not-sum_within
returns-then-not-sum_within c = λ k f s n.
    rw (f, told c.between.ensures c.if-not-between.false, s, n, le-leb _ _ c.if-first-last.false, told c.sum_within.ensures c.if-not-sum_within.true)

pub returns : goal.returns
returns c = λ k f s n.
    rw (
      c.fill_asked-action.ensures (pattern_sector k),
      c.fill_end-end.ensures k s n,
      f,
      told c.between.ensures c.if-not-between.false,
      s,
      n,
      le-leb _ _ c.if-first-last.false,
      told c.sum_within.ensures c.if-not-sum_within.false,
    )

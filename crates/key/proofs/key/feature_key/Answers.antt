use Rattle.wire.proofs.ChoiceLaws.{told}
use borrow.Author.Tests.{eq-eqb, ne_eqb}
use Rattle.model.specs.Key.{pattern_sector}
use Rattle.key.proofs.key.feature_key.Goals as goal

pub returns-then-not-between : goal.returns-then-not-between
returns-then-not-between c = λ k f n s o. rw (f, told c.between.ensures c.if-not-between.true)

pub returns-then-not-between-2 : goal.returns-then-not-between-2
returns-then-not-between-2 c = λ k f n s o. rw (f, told c.between.ensures c.if-not-between.false, n, told c.between-2.ensures c.if-not-between-2.true)

pub returns-then-not-between-3 : goal.returns-then-not-between-3
returns-then-not-between-3 c =
    λ k f n s o.
    rw (f, told c.between.ensures c.if-not-between.false, n, told c.between-2.ensures c.if-not-between-2.false, eq-eqb _ _ c.if-function-eq-FEATURE_SET.true, s, ← c.highest_state.ensures, told c.between-then-function-eq-FEATURE_SET.ensures c.if-not-between-3.true)

pub returns-then-function-eq-FEATURE_SET : goal.returns-then-function-eq-FEATURE_SET
returns-then-function-eq-FEATURE_SET c = λ k f n s o.
    rw (
      f,
      told c.between.ensures c.if-not-between.false,
      n,
      told c.between-2.ensures c.if-not-between-2.false,
      eq-eqb _ _ c.if-function-eq-FEATURE_SET.true,
      s,
      ← c.highest_state.ensures,
      told c.between-then-function-eq-FEATURE_SET.ensures c.if-not-between-3.false,
      o,
      ← c.feature_name-feature.ensures,
    )
    (c.feature_set.ensures (pattern_sector k))

pub returns : goal.returns
returns c = λ k f n s o.
    rw (
      c.feature_returned-action.ensures (pattern_sector k),
      f,
      told c.between.ensures c.if-not-between.false,
      n,
      told c.between-2.ensures c.if-not-between-2.false,
      ne_eqb _ _ c.if-function-eq-FEATURE_SET.false,
      c.feature_name-feature.ensures,
    )

use Rattle.wire.proofs.ChoiceLaws.{told}
use borrow.Author.Tests.{eq-eqb, ne_eqb}
use mathlib.Core.Path.{◌∙◌, sym}
use Rattle.key.proofs.key.timer_key.Goals as goal

pub returns-then-not-between : goal.returns-then-not-between
returns-then-not-between c = λ k f n t. rw (f, told c.between.ensures c.if-not-between.true)

pub returns-then-not-between-2 : goal.returns-then-not-between-2
returns-then-not-between-2 c = λ k f n t. rw (f, told c.between.ensures c.if-not-between.false, n, told c.between-2.ensures c.if-not-between-2.true)

pub returns-then-between : goal.returns-then-between
returns-then-between c =
    λ k f n t.
    rw (
      f,
      told c.between.ensures c.if-not-between.false,
      n,
      told c.between-2.ensures c.if-not-between-2.false,
      eq-eqb _ _ c.if-function-eq-TIMER_SET.true,
      t,
      sym c.between-then-function-eq-TIMER_SET.ensures ∙ c.if-between.true,
      c.timer_refusal.ensures.0,
      c.timer_refusal.ensures.1,
    )

pub returns-then-function-eq-TIMER_SET : goal.returns-then-function-eq-TIMER_SET
returns-then-function-eq-TIMER_SET c =
    λ k f n t.
    rw (f, told c.between.ensures c.if-not-between.false, n, told c.between-2.ensures c.if-not-between-2.false, eq-eqb _ _ c.if-function-eq-TIMER_SET.true, t, sym c.between-then-function-eq-TIMER_SET.ensures ∙ c.if-between.false, c.direction_of-dir.ensures)

pub returns : goal.returns
returns c =
    λ k f n t. rw (f, told c.between.ensures c.if-not-between.false, n, told c.between-2.ensures c.if-not-between-2.false, ne_eqb _ _ c.if-function-eq-TIMER_SET.false, c.direction_of-dir.ensures)

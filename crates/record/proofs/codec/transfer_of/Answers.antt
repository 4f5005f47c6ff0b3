use borrow.Author.Tests.{eq-eqb, ne_eqb}
use Rattle.record.proofs.codec.transfer_of.Goals as goal

pub returns-then-kind-eq-TABLE : goal.returns-then-kind-eq-TABLE
returns-then-kind-eq-TABLE c = rw (eq-eqb _ _ c.if-kind-eq-TABLE.true)

pub returns-then-kind-eq-FILL_DATA : goal.returns-then-kind-eq-FILL_DATA
returns-then-kind-eq-FILL_DATA c = rw (ne_eqb _ _ c.if-kind-eq-TABLE.false, eq-eqb _ _ c.if-kind-eq-FILL_DATA.true)

pub returns-then-kind-eq-READ_LONG : goal.returns-then-kind-eq-READ_LONG
returns-then-kind-eq-READ_LONG c = rw (ne_eqb _ _ c.if-kind-eq-TABLE.false, ne_eqb _ _ c.if-kind-eq-FILL_DATA.false, eq-eqb _ _ c.if-kind-eq-READ_LONG.true)

pub returns-then-kind-eq-WRITE_LONG : goal.returns-then-kind-eq-WRITE_LONG
returns-then-kind-eq-WRITE_LONG c =
    rw (
      ne_eqb _ _ c.if-kind-eq-TABLE.false,
      ne_eqb _ _ c.if-kind-eq-FILL_DATA.false,
      ne_eqb _ _ c.if-kind-eq-READ_LONG.false,
      eq-eqb _ _ c.if-kind-eq-WRITE_LONG.true,
    )

pub returns : goal.returns
returns c =
    rw (
      ne_eqb _ _ c.if-kind-eq-TABLE.false,
      ne_eqb _ _ c.if-kind-eq-FILL_DATA.false,
      ne_eqb _ _ c.if-kind-eq-READ_LONG.false,
      ne_eqb _ _ c.if-kind-eq-WRITE_LONG.false,
    )

use Rattle.wire.proofs.ChoiceLaws.{told}
use borrow.Author.Tests.{eq-eqb, ne_eqb}
use Rattle.request.proofs.access.data_code.Goals as goal

pub returns-then-not-moves : goal.returns-then-not-moves
returns-then-not-moves c = rw (c.if-locked.false, told c.moves.ensures c.if-not-moves.true)

pub returns-then-count-sectors_of : goal.returns-then-count-sectors_of
returns-then-count-sectors_of c = rw (c.if-locked.false, told c.moves.ensures c.if-not-moves.false, ← c.sectors_of.ensures, ne_eqb _ _ c.if-count-sectors_of.true)

pub returns : goal.returns
returns c = rw (c.if-locked.false, told c.moves.ensures c.if-not-moves.false, ← c.sectors_of.ensures, eq-eqb _ _ c.if-count-sectors_of.false)

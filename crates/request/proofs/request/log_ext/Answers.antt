use borrow.Author.Tests.{eq-eqb, ne_eqb}
use native.Mathlib.Omega.{arith}
use Rattle.model.specs.Registers.{log_ext}
use Rattle.wire.proofs.PartsLaws.{number_of}
use Rattle.model.specs.Sizes.{mailbox_size}
use Rattle.request.proofs.RequestBytes.{byte_of}
use Rattle.request.proofs.request.log_ext.Goals as goal

pub returns-then-get-ne0 : goal.returns-then-get-ne0
unfolding log_ext
returns-then-get-ne0 c =
    let a = c.args in
    rw (number_of 2 a.area.now a.at mailbox_size 6 (omega arith) c.get.ensures, ne_eqb _ _ c.if-get-ne0.true)

pub returns : goal.returns
unfolding log_ext
returns c =
    let a = c.args in
    rw (
      number_of 2 a.area.now a.at mailbox_size 6 (omega arith) c.get.ensures,
      eq-eqb _ _ c.if-get-ne0.false,
      byte_of a.area.now a.at 4 (omega arith) c.get-2.ensures,
      number_of 2 a.area.now a.at mailbox_size 2 (omega arith) c.get-3.ensures,
    )
    c.log_page.ensures

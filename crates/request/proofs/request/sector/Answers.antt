use native.Mathlib.Omega.{arith}
use Rattle.wire.proofs.PartsLaws.{number_of}
use Rattle.model.specs.Sizes.{mailbox_size}
use Rattle.request.proofs.request.sector.Goals as goal

pub returns : goal.returns
returns c =
    let a = c.args in
    rw (number_of 2 a.area.now a.at mailbox_size 2 (omega arith) c.get-count.ensures, c.lba48-lba.ensures)

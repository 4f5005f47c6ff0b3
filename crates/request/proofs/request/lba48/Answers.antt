use Rattle.request.proofs.RequestBytes.{byte_of, lba-of}
use native.Mathlib.Omega.{arith}
use Rattle.wire.specs.Parts.{part}
use Rattle.model.specs.Sizes.{mailbox_size}
use Rattle.request.proofs.request.lba48.Goals as goal

pub returns : goal.returns
returns c =
    let a = c.args in
    let l = a.area.now in
    lba-of (part l a.at mailbox_size) c.join24-current.result c.join24-previous.result
    (rw (
      byte_of l a.at 4 (omega arith) c.get.ensures,
      byte_of l a.at 6 (omega arith) c.get-2.ensures,
      byte_of l a.at 8 (omega arith) c.get-3.ensures,
    )
    c.join24-current.ensures)
    (rw (
      byte_of l a.at 5 (omega arith) c.get-4.ensures,
      byte_of l a.at 7 (omega arith) c.get-5.ensures,
      byte_of l a.at 9 (omega arith) c.get-6.ensures,
    )
    c.join24-previous.ensures)

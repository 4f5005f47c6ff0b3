use native.Mathlib.Omega.{arith}
use Rattle.wire.specs.Parts.{part}
use Rattle.model.specs.Sizes.{mailbox_size}
use Rattle.request.proofs.RequestBytes.{byte_of, byte-first}
use Rattle.request.proofs.request.smart_log.Goals as goal

pub returns : goal.returns
returns c =
    let a = c.args in
    let l = a.area.now in
    c.smart_page.ensures (part l a.at mailbox_size)
    (byte-first l a.at c.get-feature.ensures)
    (byte_of l a.at 2 (omega arith) c.get-count.ensures)
    (byte_of l a.at 4 (omega arith) c.get-page.ensures)
    (byte_of l a.at 6 (omega arith) c.get-mid.ensures)
    (byte_of l a.at 8 (omega arith) c.get-high.ensures)

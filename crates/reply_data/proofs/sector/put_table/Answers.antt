use native.Mathlib.Omega.{arith}
use Rattle.wire.specs.Parts.{part}
use Rattle.wire.proofs.PartsLaws.{length_part}
use Rattle.model.specs.Sizes.{sector_size}
use Rattle.store.specs.Areas.{head_size}
use Rattle.reply.specs.ReplyMeaning.{as_registers}
use Rattle.reply.proofs.ReplyLaws.{reply-data}
use Rattle.reply_data.proofs.sector.put_table.Goals as goal

pub returns : goal.returns
returns c =
    let a = c.args in
    rw (c.copy_part.ensures, c.put_reply.ensures)
    (reply-data a.area.now a.at (as_registers a.reply) (part a.device.now head_size sector_size) (omega (arith, length_part a.device.now head_size sector_size (omega arith))))

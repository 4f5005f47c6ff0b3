use Prim.Native.Nat.{◌*◌}
use native.Mathlib.Omega.{arith}
use Rattle.wire.specs.Parts.{part}
use Rattle.wire.proofs.PartsLaws.{length_part}
use Rattle.model.specs.Sizes.{sector_size}
use Rattle.reply.specs.ReplyMeaning.{as_registers}
use Rattle.reply.proofs.ReplyLaws.{reply-data}
use Rattle.reply_data.proofs.sector.put_sector.Goals as goal

pub returns : goal.returns
returns c =
    let a = c.args in
    rw (c.copy_part.ensures, c.put_reply.ensures)
    (reply-data a.area.now a.at (as_registers a.reply) (part a.disk.now (sector_size * a.lba) sector_size) (omega (arith, length_part a.disk.now (sector_size * a.lba) sector_size c.requires.1)))

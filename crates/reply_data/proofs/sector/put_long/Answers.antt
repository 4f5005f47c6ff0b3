use Prim.Native.Nat.{◌*◌}
use native.Mathlib.Omega.{arith}
use Rattle.wire.specs.Numbers.{le, get, put}
use Rattle.wire.specs.Parts.{part}
use Rattle.wire.proofs.NumbersLaws.{length-le}
use Rattle.wire.proofs.PartsLaws.{length_part}
use Rattle.model.specs.Sizes.{sector_size, check_size}
use Rattle.reply.specs.ReplyMeaning.{as_registers}
use Rattle.reply.proofs.ReplyLaws.{reply-more}
use Rattle.reply_data.proofs.sector.put_long.Goals as goal

pub returns : goal.returns
unfolding put
returns c =
    let a = c.args in
    let content = part a.disk.now (sector_size * a.lba) sector_size in
    let stored = get check_size a.check_area.now (check_size * a.lba) in
    rw (c.put.ensures, c.get-stored.ensures, c.put_sector.ensures)
    (reply-more a.area.now a.at (as_registers a.reply) content (le check_size stored) sector_size (length_part a.disk.now (sector_size * a.lba) sector_size c.requires.1) (omega (arith, length-le check_size stored)))

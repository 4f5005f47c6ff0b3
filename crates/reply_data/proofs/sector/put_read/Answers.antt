use mathlib.Core.Path.{sym, ◌∙◌}
use Rattle.model.specs.Disk.{LongSector, disk_of, sector_at}
use Rattle.model.proofs.RequestLaws.{read-sound, read-damaged}
use Rattle.reply.specs.ReplyMeaning.{as_registers}
use Rattle.reply_data.proofs.sector.put_read.Goals as goal

pub returns-then-stored-check_of : goal.returns-then-stored-check_of
returns-then-stored-check_of c =
    let a = c.args in
    let x : LongSector = sector_at a.lba (disk_of a.disk.now a.check_area.now) in
    rw (c.put_reply.ensures, c.refused.ensures, read-damaged (as_registers a.reply) x (λ same. c.if-stored-check_of.true (c.get-stored.ensures ∙ same ∙ sym c.check_of.ensures)))

pub returns : goal.returns
returns c =
    let a = c.args in
    let x : LongSector = sector_at a.lba (disk_of a.disk.now a.check_area.now) in
    rw (c.put_sector.ensures, read-sound (as_registers a.reply) x (sym c.get-stored.ensures ∙ c.if-stored-check_of.false ∙ c.check_of.ensures))

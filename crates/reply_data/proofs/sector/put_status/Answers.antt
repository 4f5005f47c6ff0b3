use mathlib.Core.Path.{refl}
use Rattle.model.specs.Status.{status_fields, status_sector}
use Rattle.record.specs.DeviceMeaning.{as_device}
use Rattle.reply.specs.ReplyMeaning.{as_registers}
use Rattle.reply.proofs.ReplyLaws.{reply-form}
use Rattle.reply_data.proofs.sector.put_status.Goals as goal

pub returns : goal.returns
unfolding status_sector
returns c =
    λ h.
    let a = c.args in
    rw (c.put_temperatures.ensures, c.put_command.ensures, c.put_head.ensures, c.put_reply.ensures)
    (reply-form a.area.now a.at (as_registers a.reply) (status_fields (as_device a.d h)) refl)

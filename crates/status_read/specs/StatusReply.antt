-- The reply to a status read, as one value.
use Rattle.model.specs.Buffers.{Mailbox}
use Rattle.model.specs.Device.{Device}
use Rattle.model.specs.Decide.{decide_status}
use Rattle.model.specs.Perform.{no_sector, reply_with}

-- what the model decides of it, sent; no sector of the disk is read
abbrev pub status_reply : Device → Mailbox
status_reply d = let k = decide_status d in reply_with k.registers k.effect.sends d no_sector

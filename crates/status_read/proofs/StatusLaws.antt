-- The reply to a status read, with and without the lock.
use mathlib.Core.Path.{◌≡◌, refl, ap, ◌∙◌}
use mathlib.Core.Bool.{Bool, true, false}
use mathlib.Core.List.{[]}
use Rattle.model.specs.Device.{Device}
use Rattle.model.specs.Registers.{good, refused_with, reply_bytes}
use Rattle.model.specs.Status.{status_sector}
use Rattle.model.specs.Perform.{no_sector, reply_with}
use Rattle.store.proofs.StatusRead.{status_by, reply_by}
use Rattle.status_read.specs.StatusReply.{status_reply}

pub reply-by-lock : (d : Device) → status_reply d ≡ reply_by d.locked d
reply-by-lock d = go d.locked
  where
    go : (b : Bool) → reply_with (status_by b d).registers (status_by b d).effect.sends d no_sector ≡ reply_by b d
    go true = refl
    go false = refl

pub reply-locked : (d : Device) → d.locked ≡ true → status_reply d ≡ reply_bytes (refused_with 0x0012 0) []
reply-locked d e = reply-by-lock d ∙ ap (λ (b : Bool). reply_by b d) e

pub reply-unlocked : (d : Device) → d.locked ≡ false → status_reply d ≡ reply_bytes (good 0 0) (status_sector d)
reply-unlocked d e = reply-by-lock d ∙ ap (λ (b : Bool). reply_by b d) e

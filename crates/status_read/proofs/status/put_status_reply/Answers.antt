use Rattle.record.specs.DeviceMeaning.{as_device}
use Rattle.status_read.proofs.StatusLaws.{reply-locked, reply-unlocked}
use Rattle.status_read.proofs.status.put_status_reply.Goals as goal

pub returns-then-d : goal.returns-then-d
returns-then-d c =
    let d = c.args.d in
    λ h. rw (reply-locked (as_device d h) c.if-d.true) (rw c.refused_with.ensures at c.put_reply.ensures)

pub returns : goal.returns
returns c =
    let d = c.args.d in
    λ h. rw (reply-unlocked (as_device d h) c.if-d.false, ← c.good.ensures) (c.put_status.ensures h)

use Rattle.device_update.proofs.FourSlots.{pending-set}
use Rattle.device_update.proofs.command.with_pending.Goals as goal

pub returns : goal.returns
returns c =
    let a = c.args in
    pending-set a.d a.p a.t _ c.given-s0.result c.given-s1.result c.given-s2.result c.given-s3.result c.requires.1 c.requires.0
    c.given-s0.ensures c.given-s1.ensures c.given-s2.ensures c.given-s3.ensures

use Rattle.device_update.proofs.InterruptLaw.{interrupted}
use Rattle.device_update.proofs.command.interrupt.Goals as goal

pub returns : goal.returns
returns c =
    interrupted c.args.d c.stopped_code-code.result _ c.cleared-s0.result c.cleared-s1.result c.cleared-s2.result c.cleared-s3.result c.requires
    c.stopped_code-code.ensures c.cleared-s0.ensures c.cleared-s1.ensures c.cleared-s2.ensures c.cleared-s3.ensures

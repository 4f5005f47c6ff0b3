use Rattle.record_write.proofs.BlankLaws.{blank-stored}
use Rattle.record_write.proofs.framing.frame.Goals as goal

pub returns : goal.returns
returns c =
    rw (
      c.empty_history.ensures,
      c.put-3.ensures,
      c.put-2.ensures,
      c.put.ensures,
      c.zero_part.ensures,
    )
    (blank-stored c.args.device.now c.requires)

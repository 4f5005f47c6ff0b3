use Rattle.model.specs.Registers.{refused}
use Rattle.model.specs.Fill.{interrupt}
use Rattle.model.specs.Decide.{nothing}
use Rattle.decision.proofs.DecidedLaws.{says-decided}
use Rattle.decide.proofs.choice.decide_other.Goals as goal

pub returns : goal.returns
returns c =
    λ m. says-decided m interrupt (λ x. refused 0x04) (λ m. nothing) c.args.d c.interrupt.result _ _ c.replied.ensures c.interrupt.ensures (λ h. c.refused.ensures)

use Rattle.record_check.proofs.PendingLaws.{numbers-sound}
use Rattle.record_check.proofs.clauses.transfer_sound.Goals as goal

pub returns : goal.returns
returns c = let a = c.args in numbers-sound a.visible a.kind a.first a.end

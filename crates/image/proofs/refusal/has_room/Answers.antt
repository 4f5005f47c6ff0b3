use Rattle.image.proofs.ImageAnswers.{room-left}
use Rattle.image.proofs.refusal.has_room.Goals as goal

pub returns : goal.returns
returns c = let a = c.args in room-left a.image.now a.used c.requires

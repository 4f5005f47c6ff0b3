use Rattle.store.proofs.SoundLaws.{sound-parts}
use Rattle.refusals.proofs.refusal.visible_sectors.Goals as goal

pub visible_at-requires : goal.visible_at-requires
visible_at-requires c = (sound-parts c.args.device.now c.requires).size

pub returns : goal.returns
returns c = c.visible_at.ensures

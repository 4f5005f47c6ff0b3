use Rattle.fill.proofs.SectorLaws.{pattern-stored}
use Rattle.fill.proofs.sector.put_pattern.Goals as goal

pub returns : goal.returns
returns c =
    rw c.repeat_within.ensures (pattern-stored c.args.area.now c.args.p)

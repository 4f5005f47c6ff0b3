use Rattle.fill.proofs.SectorLaws.{data-stored}
use Rattle.fill.proofs.sector.put_data.Goals as goal

pub returns : goal.returns
returns c =
    rw c.copy_within.ensures (data-stored c.args.area.now c.args.p)

use Rattle.decide.proofs.choice.decide.Goals as goal

pub returns-in-Key : goal.returns-in-Key
returns-in-Key c = rw c.in-Key.is c.decide_key.ensures

pub returns-in-Data : goal.returns-in-Data
returns-in-Data c =
    rw c.in-Data.is (c.decide_data.ensures _ c.args.p c.requires.pending)

pub returns-in-Sector : goal.returns-in-Sector
returns-in-Sector c = rw c.in-Sector.is (c.decide_sector.ensures _)

pub returns-in-Other : goal.returns-in-Other
returns-in-Other c = rw c.in-Other.is (c.decide_other.ensures _)

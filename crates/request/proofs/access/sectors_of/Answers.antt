use Rattle.request.proofs.access.sectors_of.Goals as goal

pub returns-in-None : goal.returns-in-None
returns-in-None c = rw c.in-None.is

pub returns-in-Table : goal.returns-in-Table
returns-in-Table c = rw c.in-Table.is

pub returns-in-FillData : goal.returns-in-FillData
returns-in-FillData c = rw c.in-FillData.is

pub returns-in-ReadLong : goal.returns-in-ReadLong
returns-in-ReadLong c = rw c.in-ReadLong.is

pub returns-in-WriteLong : goal.returns-in-WriteLong
returns-in-WriteLong c = rw c.in-WriteLong.is

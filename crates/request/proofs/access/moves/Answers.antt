use mathlib.Core.Path.{◌∙◌, ap}
use mathlib.Core.Bool.{not}
use Rattle.record.specs.DeviceMeaning.{as_direction}
use Rattle.request.proofs.DirectionLaws.{fill-written, long-read, long-written}
use Rattle.request.proofs.access.moves.Goals as goal

pub returns-in-None : goal.returns-in-None
returns-in-None c = rw c.in-None.is

pub returns-in-Table : goal.returns-in-Table
returns-in-Table c = rw c.in-Table.is c.is_read.ensures

pub returns-in-FillData : goal.returns-in-FillData
returns-in-FillData c =
    rw c.in-FillData.is (ap not c.is_read-in-FillData.ensures ∙ fill-written (as_direction c.args.dir) _ _)

pub returns-in-ReadLong : goal.returns-in-ReadLong
returns-in-ReadLong c =
    rw c.in-ReadLong.is (c.is_read-in-ReadLong.ensures ∙ long-read (as_direction c.args.dir) _)

pub returns-in-WriteLong : goal.returns-in-WriteLong
returns-in-WriteLong c =
    rw c.in-WriteLong.is (ap not c.is_read-in-WriteLong.ensures ∙ long-written (as_direction c.args.dir) _)

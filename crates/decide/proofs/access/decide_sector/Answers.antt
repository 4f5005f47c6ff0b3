use Rattle.record.specs.DeviceMeaning.{as_direction}
use Rattle.decide.proofs.AccessLaws.{access-refused, access-done}
use Rattle.decide.proofs.access.decide_sector.Goals as goal

pub returns-then-error-ne0 : goal.returns-then-error-ne0
returns-then-error-ne0 c =
    let a = c.args in
    λ m. access-refused a.d c.interrupt-e.result (as_direction a.dir) a.count a.lba c.sector_error-error.result m _ c.sector_error-error.ensures c.interrupt-e.ensures c.if-error-ne0.true _ c.refused.ensures c.replied.ensures

pub returns : goal.returns
returns c =
    let a = c.args in
    λ m. access-done a.d c.interrupt-e.result (as_direction a.dir) a.count a.lba c.sector_error-error.result m _ c.sector_error-error.ensures c.interrupt-e.ensures c.if-error-ne0.false (c.moved.ensures m)

use Rattle.record.specs.DeviceMeaning.{as_transfer, as_direction}
use Rattle.decide.proofs.AccessLaws.{data-refused, data-completed}
use Rattle.decide.proofs.access.decide_data.Goals as goal

pub returns-then-code-ne0 : goal.returns-then-code-ne0
returns-then-code-ne0 c =
    let a = c.args in
    λ m p pends. data-refused a.d c.interrupt-stopped.result c.with_code-e.result p (as_direction a.dir) a.count c.data_code-code.result (as_transfer a.t) m _ pends c.data_code-code.ensures c.interrupt-stopped.ensures c.with_code-e.ensures c.if-code-ne0.true _ c.refused_with.ensures c.replied.ensures

pub returns : goal.returns
returns c =
    let a = c.args in
    λ m p pends. data-completed a.d c.interrupt-stopped.result c.with_code-e.result p (as_direction a.dir) a.count c.data_code-code.result (as_transfer a.t) m _ pends c.data_code-code.ensures c.interrupt-stopped.ensures c.with_code-e.ensures c.if-code-ne0.false (c.completed.ensures m)

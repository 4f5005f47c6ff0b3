use mathlib.Core.Path.{sym, ap, ◌∙◌}
use Rattle.model.specs.Disk.{disk_of}
use Rattle.request.specs.RequestMeaning.{as_request}
use Rattle.serve_request.proofs.ServeLaws.{status-served, serves-request}
use Rattle.serve_request.proofs.serving.serve.Goals as goal

pub returns-in-Status : goal.returns-in-Status
returns-in-Status c =
    let a = c.args in
    let disk = disk_of a.disk.now a.check_area.now in
    let done = c.serve_status.ensures in
    serves-request a.device.now a.area.now disk a.p _ _ _ disk (sym (ap as_request c.in-Status.is) ∙ c.request_of-q.ensures)
    (status-served a.device.now a.area.now disk a.p _ _ done.device done.area)

pub returns-in-Operation : goal.returns-in-Operation
returns-in-Operation c =
    let a = c.args in
    serves-request a.device.now a.area.now (disk_of a.disk.now a.check_area.now) a.p _ _ _ _ (sym (ap as_request c.in-Operation.is) ∙ c.request_of-q.ensures) c.serve_operation.ensures

use mathlib.Core.Path.{◌∙◌, ap}
use mathlib.Core.List.{[]}
use native.Mathlib.Omega.{arith}
use lib.ListN.{length}
use Rattle.model.specs.Disk.{disk_of}
use Rattle.store.specs.Store.{slot_bytes}
use Rattle.record.specs.DeviceMeaning.{history_of}
use Rattle.decision.specs.DecisionMeaning.{as_writing}
use Rattle.effect.proofs.EmptiedLaws.{history-whole}
use Rattle.serve_request.proofs.PerformLaws.{area-size, disk-size, sends-kept, record-size, performs}
use Rattle.serve_request.proofs.performing.perform.Goals as goal

pub finish-requires : goal.finish-requires
finish-requires c =
    (c.requires.framed, c.requires.port, omega (arith, (c.device_after-d.ensures []).four, c.requires.four))

pub send-requires : goal.send-requires
send-requires c =
    let a = c.args in
    let k = a.k in
    let w = as_writing k.writes (slot_bytes a.p a.area.now) in
    let size = record-size a.p c.device_after-d.result _ _ (history-whole a.device.now c.requires.framed k.empties) c.finish.ensures in
    let disk = disk_of a.disk.now a.check_area.now in
    let same = sends-kept k.sends _ disk c.write.ensures.disk (disk-size w disk) c.requires.sends_within in
    (ap length c.write.ensures.area ∙ area-size w a.area.now ∙ c.requires.size, size, c.requires.port, same)

pub returns : goal.returns
returns c =
    let a = c.args in
    let k = a.k in
    performs a.p k c.device_after-d.result (history_of a.device.now) a.area.now (disk_of a.disk.now a.check_area.now) c.requires.port (history-whole a.device.now c.requires.framed k.empties) c.device_after-d.ensures _ _ _ c.finish.ensures c.write.ensures.disk (λ d table. rw (c.send.ensures d table, c.write.ensures.area))

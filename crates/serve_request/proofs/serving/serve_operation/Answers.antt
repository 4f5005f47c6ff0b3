use mathlib.Core.Path.{◌∙◌}
use native.Mathlib.Omega.{arith}
use Rattle.model.specs.Disk.{disk_of}
use Rattle.store.proofs.SoundLaws.{sound-parts}
use Rattle.request.specs.RequestMeaning.{as_operation}
use Rattle.device_update.proofs.ChangeLaws.{four-slots}
use Rattle.serve_request.proofs.ServeLaws.{entered-visible, entered-pending, performable, serves}
use Rattle.serve_request.proofs.serving.serve_operation.Goals as goal

pub decode-d-requires : goal.decode-d-requires
decode-d-requires c =
    (sound-parts c.args.device.now c.requires.0.sound_record).size

pub transfer_at-pending-requires : goal.transfer_at-pending-requires
transfer_at-pending-requires c =
    ((sound-parts c.args.device.now c.requires.0.sound_record).size, omega (arith, c.requires.0.port))

pub decide-k-requires : goal.decide-k-requires
decide-k-requires c =
    let a = c.args in
    let e = c.requires.0 in
    let d = c.decode-d.result in
    let says = c.decode-d.ensures in record {
      area_len = (e.size, e.port, four-slots d _ a.device.now says, entered-visible a.device.now a.area.now a.p d e (λ i. omega (arith, c.slice_known-1.given i)) says);
      pending = c.transfer_at-pending.ensures ∙ entered-pending a.device.now a.p d e.port says;
    }

pub perform-requires : goal.perform-requires
perform-requires c =
    let a = c.args in
    performable a.device.now a.area.now (disk_of a.disk.now a.check_area.now) a.p c.decode-d.result (as_operation a.o) c.decide-k.result c.requires.0 c.decode-d.ensures c.decide-k.ensures (λ i. omega (arith, c.slice_known-1.given i)) (λ i. omega (arith, c.slice_known-2-1.given i)) c.requires.1

pub returns : goal.returns
returns c =
    let a = c.args in
    serves a.device.now a.area.now (disk_of a.disk.now a.check_area.now) a.p c.decode-d.result (as_operation a.o) c.decide-k.result c.requires.0 c.decode-d.ensures c.decide-k.ensures _ _ _ c.perform.ensures

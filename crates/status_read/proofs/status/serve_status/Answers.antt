use mathlib.Core.Path.{ap, ◌∙◌}
use lib.Seq.{sets}
use Rattle.store.specs.Areas.{slot_place}
use Rattle.store.specs.Record.{answered, Contents}
use Rattle.store.proofs.SoundLaws.{sound-parts}
use Rattle.store.proofs.StageLaws.{sound-stage}
use Rattle.record.specs.DeviceMeaning.{history_of}
use Rattle.status_read.specs.StatusReply.{status_reply}
use Rattle.status_read.proofs.status.serve_status.Goals as goal

pub decode-d-requires : goal.decode-d-requires
decode-d-requires c =
    (sound-parts c.args.device.now c.requires.0).size

pub put_stage-requires : goal.put_stage-requires
put_stage-requires c =
    ((sound-parts c.args.device.now c.requires.0).size, c.requires.2)

pub returns : goal.returns
returns c =
    let a = c.args in
    let r = a.device.now in record {
      device = c.put_stage.ensures ∙ sound-stage r a.p answered c.requires.0 c.requires.2;
      area = c.put_status_reply.ensures (history_of r)
          ∙ ap (λ (x : Contents). sets a.area.now (slot_place a.p) (status_reply x.device)) c.decode-d.ensures;
    }

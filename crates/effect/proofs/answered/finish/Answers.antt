use mathlib.Core.Path.{◌∙◌}
use lib.ListN.{length-map}
use Rattle.store.specs.Record.{answered}
use Rattle.store.proofs.StageLaws.{stage-stored}
use Rattle.record.specs.DeviceMeaning.{as_contents, history_of, history_after}
use Rattle.effect.proofs.EmptiedLaws.{emptied-ready, emptied-history}
use Rattle.effect.proofs.answered.finish.Goals as goal

pub write-requires : goal.write-requires
write-requires c =
    let a = c.args in
    rw c.empty_if.ensures (emptied-ready a.device.now c.requires.0 a.empties)

pub returns : goal.returns
returns c =
    let a = c.args in
    rw (c.put_stage.ensures, c.write.ensures.device_after, c.empty_if.ensures, emptied-history a.device.now c.requires.0 a.empties) (stage-stored (as_contents a.d (history_after a.empties (history_of a.device.now))) a.p answered (length-map a.d.slots _ ∙ c.requires.2) c.requires.1)

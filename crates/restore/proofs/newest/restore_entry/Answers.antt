use mathlib.Core.Path.{ap, ◌∙◌}
use mathlib.Core.List.{List}
use Prim.Native.Nat.{ℕ}
use native.Mathlib.Omega.{arith}
use Rattle.model.specs.Image.{saved_at, power_on_thermal}
use Rattle.store.specs.Record.{encode}
use Rattle.record.specs.DeviceMeaning.{stages_of, as_device, as_contents}
use Rattle.restore.proofs.RestoreLaws.{history-after, history-kept, restored-encoded}
use Rattle.restore.proofs.newest.restore_entry.Goals as goal

pub write-requires : goal.write-requires
write-requires c =
    (history-after _ _ c.args.entry.now 0 _ (omega arith) c.frame.ensures c.put_history.ensures).0

pub returns : goal.returns
returns c =
    let a = c.args in
    let s = saved_at a.entry.now 0 in
    let d = c.saved_device-d.result in
    let h = (power_on_thermal s).history in
    let kept = (history-after _ _ a.entry.now 0 _ (omega arith) c.frame.ensures c.put_history.ensures).1 in
    c.write.ensures.device_after
    ∙ ap (λ (l : List ℕ). encode (as_contents d l)) (history-kept s (as_device d h) _ c.saved_device-d.ensures.at_value kept)
    ∙ restored-encoded (as_device d h) (stages_of d.slots) s c.saved_device-d.ensures.at_value c.saved_device-d.ensures.stages

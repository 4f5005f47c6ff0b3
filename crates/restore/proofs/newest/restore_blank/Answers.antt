use mathlib.Core.Path.{sym, ap, ◌∙◌, subst}
use mathlib.Core.List.{List}
use Prim.Native.Nat.{ℕ}
use Rattle.model.specs.Temperature.{empty_history}
use Rattle.model.specs.Image.{blank}
use Rattle.store.specs.Record.{encode}
use Rattle.record.specs.DeviceMeaning.{stages_of, as_device, as_contents, history_of}
use Rattle.record_write.specs.Framed.{Framed}
use Rattle.record_write.proofs.BlankLaws.{blank-framed, blank-history}
use Rattle.restore.proofs.RestoreLaws.{restored-encoded}
use Rattle.restore.proofs.newest.restore_blank.Goals as goal

pub write-requires : goal.write-requires
write-requires c = subst Framed (sym c.frame.ensures) blank-framed

pub returns : goal.returns
returns c =
    let d = c.blank_device-d.result in
    c.write.ensures.device_after
    ∙ ap (λ (l : List ℕ). encode (as_contents d (history_of l))) c.frame.ensures
    ∙ ap (λ (h : List ℕ). encode (as_contents d h)) blank-history
    ∙ restored-encoded (as_device d empty_history) (stages_of d.slots) (blank c.args.native) c.blank_device-d.ensures.empty_history_value c.blank_device-d.ensures.stages

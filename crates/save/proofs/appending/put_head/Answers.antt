use Rattle.model.specs.Image.{saved_from}
use Rattle.entry_timers.specs.TimersMeaning.{form_number}
use Rattle.store.specs.Record.{decode}
use Rattle.save.proofs.AppendLaws.{head-stored}
use Rattle.save.proofs.appending.put_head.Goals as goal

pub returns : goal.returns
returns c =
    let a = c.args in
    rw (c.put_timers.ensures, c.put_features.ensures (form_number a.entry_form), c.put_sizes.ensures (form_number a.entry_form))
    (head-stored a.image.now a.at (saved_from (form_number a.entry_form) (decode a.device.now).device))

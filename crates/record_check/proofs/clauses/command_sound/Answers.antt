use Rattle.store.specs.Record.{decode}
use Rattle.record_check.proofs.PendingLaws.{command-tests}
use Rattle.record_check.proofs.clauses.command_sound.Goals as goal

pub returns : goal.returns
returns c =
    rw (c.fill_sound.ensures, c.code_at.ensures, c.pending_sound.ensures, c.limit_of.ensures, c.fill_at-fill.ensures)
    (command-tests c.args.visible (decode c.args.device.now).device.command)

use mathlib.Core.Bool.{false}
use Rattle.model.specs.Fill.{interrupt}
use Rattle.model.specs.Update.{with_initialized}
use Rattle.device_update.proofs.ChangeLaws.{changed_then}
use Rattle.device_update.proofs.owner.repaired.Goals as goal

pub returns-then-flips : goal.returns-then-flips
returns-then-flips c =
    let d = c.args.d in
    rw c.if-flips.true (changed_then interrupt (with_initialized false) d _ _ c.interrupt-e.ensures c.with_flag_cleared.ensures)

pub returns-else-flips : goal.returns-else-flips
returns-else-flips c = rw c.if-flips.false c.interrupt-e.ensures

use mathlib.Core.Path.{refl}
use borrow.Author.Tests.{eq-eqb, ne_eqb}
use Rattle.device_update.proofs.command.sector_written.Goals as goal

pub returns-then-next-end : goal.returns-then-next-end
returns-then-next-end c =
    let a = c.args in
    record { device = λ h. rw (eq-eqb a.next a.end c.if-next-end.true); stages = refl; four = refl }

pub returns : goal.returns
returns c =
    let a = c.args in
    record { device = λ h. rw (ne_eqb a.next a.end c.if-next-end.false); stages = refl; four = refl }

use mathlib.Core.Path.{sym, ◌∙◌}
use Rattle.restore.proofs.RestoreLaws.{history-copied, history-left}
use Rattle.restore.proofs.newest.put_history.Goals as goal

pub returns-then-interval-get : goal.returns-then-interval-get
returns-then-interval-get c =
    let a = c.args in
    c.copy_part.ensures ∙ history-copied a.device.now a.entry.now 0 a.interval (c.if-interval-get.true ∙ c.get.ensures)

pub returns-else-interval-get : goal.returns-else-interval-get
returns-else-interval-get c =
    let a = c.args in
    history-left a.device.now a.entry.now 0 a.interval (λ e. c.if-interval-get.false (e ∙ sym c.get.ensures))

use mathlib.Core.Path.{◌∙◌}
use Rattle.desk_session.proofs.TurnLaws.{line-turned}
use Rattle.desk_session.proofs.turns.turn.Goals as goal

pub returns-clause-line : goal.returns-clause-line
returns-clause-line c =
    c.report.ensures ∙ line-turned c.args.number c.code_at-code.result c.exchange-written.ensures c.code_at-code.ensures

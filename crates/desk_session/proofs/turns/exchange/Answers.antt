use mathlib.Core.Path.{◌∙◌}
use Rattle.desk_session.proofs.TurnLaws.{entries-turned}
use Rattle.desk_session.proofs.turns.exchange.Goals as goal

pub returns : goal.returns
returns c =
    let t = c.sct_take.ensures in
    let s = c.sct_serve.ensures in
    let g = c.sct_give.ensures in
    let w = c.sct_work-written.ensures in
    entries-turned c.from.ensures t.device t.area s.device s.area (λ i. record { sectors = s.disk i; check_area = s.check_area i }) g.device g.mailbox (c.from-2.ensures ∙ c.unwrap_or.ensures ∙ w.count) w.device (λ i. record { sectors = w.disk i; check_area = w.check_area i })

use mathlib.Core.Path.{sym, ◌∙◌}
use borrow.Author.Tests.{not-true, not-false}
use native.Mathlib.Omega.{arith}
use Rattle.temperature.proofs.ThermalLaws.{sampled-logged, sampled-counted}
use Rattle.temperature.proofs.thermal.sampled_thermal.Goals as goal

pub returns-then-is_logged : goal.returns-then-is_logged
returns-then-is_logged c =
    let a = c.args in
    sampled-logged a.t a.interval a.sample _ _ c.new_maximum.ensures c.new_maximum-2.ensures c.next_index.result c.next_index.ensures
    (not-true _ (sym c.is_logged.ensures ∙ c.if-is_logged.true))

pub returns : goal.returns
returns c =
    let a = c.args in
    sampled-counted a.t a.interval a.sample _ _ c.new_maximum.ensures c.new_maximum-2.ensures _ (omega arith)
    (not-false _ (sym c.is_logged.ensures ∙ c.if-is_logged.false))

use Rattle.decide.proofs.DecideKey.{key-refused, key-accepted}
use Rattle.decide.proofs.key_sector.decide_key.Goals as goal

pub returns-in_default : goal.returns-in_default
returns-in_default c =
    let a = c.args in
    key-refused a.area.now a.p a.d c.recorded-e.result c.read_key-key.result c.recorded-e.ensures c.read_key-key.ensures _ _ c.with_code.result _ _ c.in_default.is c.refusal_of-refusal.ensures c.with_code.ensures c.refused_with.ensures c.replied.ensures

pub returns : goal.returns
returns c =
    let a = c.args in
    key-accepted a.area.now a.p a.d c.recorded-e.result c.read_key-key.result c.recorded-e.ensures c.read_key-key.ensures _ c.with_code-2.result _ c.in-Accepted.is c.with_code-2.ensures c.carry_out.ensures

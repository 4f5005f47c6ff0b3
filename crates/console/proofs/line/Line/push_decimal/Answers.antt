use Rattle.std.proofs.Common.{rules}
use Rattle.console.proofs.WroteLaws.{wrote-begin}
use Rattle.console.proofs.line.Line.push_decimal.Goals as goal

pub returns-clause-text : goal.returns-clause-text
returns-clause-text g c =
    let w = c.put_decimal-self-inside.ensures in
    rw (← c.self.view_is) (wrote-begin w.wrote (search rules))

use Rattle.std.proofs.Common.{rules}
use Rattle.console.proofs.WroteLaws.{wrote-begin}
use Rattle.console.proofs.line.Line.push_text.Goals as goal

pub returns-clause-text : goal.returns-clause-text
returns-clause-text g c =
    let w = c.put_text-self-inside.ensures in
    rw (← c.self.view_is) (wrote-begin w (search rules))

use Prim.Native.Nat.{◌-◌, ◌+◌}
use mathlib.Core.Path.{◌∙◌}
use native.Mathlib.Omega.{arith}
use Rattle.runs.proofs.RunLaws.{pasted}
use Rattle.runs.proofs.run.copy_within.Goals as goal

pub returns : goal.returns
returns c =
    let a = c.args in
    c.copy_within.ensures.after
    ∙ pasted a.s.now a.to a.from (a.from + a.n - a.from) a.n (omega arith) (omega arith) (omega arith)

use Rattle.wire.specs.Parts.{repeated}
use Rattle.fill.proofs.steps.write_check_bytes.Goals as goal

pub returns-then-k-eq0 : goal.returns-then-k-eq0
unfolding repeated
returns-then-k-eq0 c = rw c.if-k-eq0.true

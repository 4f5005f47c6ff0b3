-- The pieces, one after the other.
use mathlib.Core.List.{append_assoc}
use Rattle.desk_session.specs.Report.{codes, report}
use Rattle.desk_session.proofs.report.report.Goals as goal

pub returns : goal.returns
unfolding codes report
returns c =
    rw (c.push-5.ensures.text, c.push_decimal-2.ensures.text, c.push-4.ensures.text, c.push_hex-3.ensures.text, c.push-3.ensures.text, c.push_hex-2.ensures.text, c.push-2.ensures.text, c.push_hex.ensures.text, c.push.ensures.text, c.push_decimal.ensures.text, c.new-line.ensures, c.from.ensures, c.from-2.ensures, c.from-3.ensures) (simp append_assoc)

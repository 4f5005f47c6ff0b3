-- At each turn the first records are printed.
use mathlib.Core.Path.{◌≡◌}
use Prim.Native.Nat.{◌*◌, ◌≤◌}
use lib.ListN.{length}
use Rattle.trace_lines.proofs.LinesLaws.{PrintedFirst}
use Rattle.trace_lines.proofs.lines.put_trace.Given as goal

abbrev pub invariant-loop-record : goal.invariant-loop-record
invariant-loop-record l =
    (l.end ≤ 10 * l.record-index) × (length l.text ≡ length l.initial.text) × PrintedFirst l.initial.drive l.fn.input l.initial.text l.record-index l.drive l.end l.text

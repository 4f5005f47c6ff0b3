use mathlib.Core.Path.{◌≡◌, refl, sym, ap, ◌∙◌}
use mathlib.Core.Bool.{true, false}
use mathlib.Core.List.{List, []}
use Prim.Native.Nat.{ℕ, ◌/◌, ◌%◌, zero-le}
use native.Mathlib.Omega.{arith}
use lib.ListN.{length, get_or}
use lib.Dec.{eqb}
use Rattle.timing.specs.Command.{command_at}
use Rattle.trace_lines.proofs.LinesLaws.{record-command, none-printed, one-more-printed, length-printed, all-printed}
use Rattle.trace_lines.proofs.lines.put_trace.Goals as goal

pub loop-record-init : goal.loop-record-init
loop-record-init c = let a = c.args in (zero-le, refl, none-printed a.drive a.input.now a.text.now)

pub loop-record-preserved : goal.loop-record-preserved
loop-record-preserved c =
    let a = c.args in
    let s = a.input.now in
    let k = c.loop-record.record-index in
    let read = c.from.ensures
    ∙ ap (λ (l : List (List ℕ)). command_at (get_or l k []) 0) c.as_chunks.ensures.front
    ∙ record-command (length s / 7) k s (omega (arith, c.as_chunks.ensures.front_len, c.loop-record-test.true)) in
    let next =
    one-more-printed a.drive s c.loop-record.invariant.2 c.from.result read c.trace-traced.result c.trace-traced.ensures c.put_outcome-end.ensures in
    (next.room, length-printed a.drive s next, next)

pub returns-then-not-is_empty-clause-wrote : goal.returns-then-not-is_empty-clause-wrote
returns-then-not-is_empty-clause-wrote c =
    let a = c.args in
    let s = a.input.now in
    let some : eqb (length s % 7) 0 ≡ false = ap (λ (n : ℕ). eqb n 0) (sym c.as_chunks.ensures.back_len) ∙ sym c.is_empty.ensures ∙ c.if-not-is_empty.true in
    all-printed a.drive s c.loop-record.invariant.2 (omega (arith, c.as_chunks.ensures.front_len, c.loop-record-test.false, c.loop-record.auto)) (rw some c.put_text-end.ensures)

pub returns-else-not-is_empty-clause-wrote : goal.returns-else-not-is_empty-clause-wrote
returns-else-not-is_empty-clause-wrote c =
    let a = c.args in
    let s = a.input.now in
    let none : eqb (length s % 7) 0 ≡ true = ap (λ (n : ℕ). eqb n 0) (sym c.as_chunks.ensures.back_len) ∙ sym c.is_empty.ensures ∙ c.if-not-is_empty.false in
    all-printed a.drive s c.loop-record.invariant.2 (omega (arith, c.as_chunks.ensures.front_len, c.loop-record-test.false, c.loop-record.auto)) (rw none (record { place = omega arith; line = refl }))

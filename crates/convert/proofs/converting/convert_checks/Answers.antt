use mathlib.Core.Path.{sym, ap, ◌∙◌}
use mathlib.Core.Bool.{Bool}
use Rattle.std.specs.Prelude.{if◌then◌else◌}
use Rattle.convert.proofs.ConvertingLaws.{timers-refused, unreadable-refused}
use Rattle.convert.proofs.converting.convert_checks.Goals as goal

pub returns-then-not-readable-clause-answer : goal.returns-then-not-readable-clause-answer
returns-then-not-readable-clause-answer c =
    let a = c.args in
    unreadable-refused a.image.now a.used c.if-used-image.false c.in-Ok.form a.form c.in-Ok.ensures (sym c.readable.ensures ∙ c.if-not-readable.true)

pub returns-then-not-all_fit-clause-answer : goal.returns-then-not-all_fit-clause-answer
returns-then-not-all_fit-clause-answer c =
    let a = c.args in
    let cut = c.as_chunks.ensures in
    ap (λ (b : Bool). if b then 0 else 9) (sym c.if-not-all_fit.true)
    ∙ timers-refused a.image.now a.used c.if-used-image.false c.in-Ok.form a.form c.in-Ok.ensures c.as_chunks.result.0.now cut.front cut.front_len c.all_fit.result c.all_fit.ensures
    (sym c.readable.ensures ∙ c.if-not-readable.false)

pub returns-clause-answer : goal.returns-clause-answer
returns-clause-answer c =
    let a = c.args in
    let cut = c.as_chunks.ensures in
    ap (λ (b : Bool). if b then 0 else 9) (sym c.if-not-all_fit.false)
    ∙ timers-refused a.image.now a.used c.if-used-image.false c.in-Ok.form a.form c.in-Ok.ensures c.as_chunks.result.0.now cut.front cut.front_len c.all_fit.result c.all_fit.ensures
    (sym c.readable.ensures ∙ c.if-not-readable.false)

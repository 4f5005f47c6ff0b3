use mathlib.Core.Path.{sym, ap, ◌∙◌}
use mathlib.Core.Bool.{Bool}
use Rattle.std.specs.Prelude.{if◌then◌else◌}
use Rattle.layout.proofs.AnswerLaws.{refused-not-done, passed_on}
use Rattle.image.proofs.ImageAnswers.{save-as-read, read-within, save-room}
use Rattle.image.proofs.refusal.save_checks.Goals as goal

pub returns-in_err-image_checks : goal.returns-in_err-image_checks
returns-in_err-image_checks c =
    let a = c.args in
    let refusal = c.in_err-image_checks.field-0.0 in
    let said = c.in_err-image_checks.ensures in
    rw (passed_on c.from_residual.result refusal c.from_residual.ensures.1) (said ∙ save-as-read a.native a.image.now a.used (λ e. refused-not-done refusal (said ∙ e)))

pub has_room-requires : goal.has_room-requires
has_room-requires c =
    let a = c.args in
    read-within a.native a.image.now a.used (sym c.in_ok-image_checks.ensures)

pub returns-then-not-has_room : goal.returns-then-not-has_room
returns-then-not-has_room c =
    let a = c.args in
    let room = sym c.has_room.ensures ∙ c.if-not-has_room.true in
    ap (λ (t : Bool). if t then 0 else 8) (sym room) ∙ save-room a.native a.image.now a.used (sym c.in_ok-image_checks.ensures)

pub returns : goal.returns
returns c =
    let a = c.args in
    let room = sym c.has_room.ensures ∙ c.if-not-has_room.false in
    ap (λ (t : Bool). if t then 0 else 8) (sym room) ∙ save-room a.native a.image.now a.used (sym c.in_ok-image_checks.ensures)

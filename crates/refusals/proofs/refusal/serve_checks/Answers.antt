use mathlib.Core.Path.{refl, ◌∙◌}
use Rattle.wire.specs.Parts.{zeros}
use Rattle.wire.proofs.PartsLaws.{length-zeros}
use Rattle.model.specs.Disk.{disk_of}
use Rattle.layout.specs.Answer.{number_of}
use Rattle.layout.proofs.AnswerLaws.{refused-not-done, passed_on}
use Rattle.store.proofs.SoundLaws.{sound-parts}
use Rattle.refusals.proofs.CheckLaws.{work-passed, serve-first, serve-second}
use Rattle.refusals.proofs.refusal.serve_checks.Goals as goal

pub returns-in_err-work_checks : goal.returns-in_err-work_checks
returns-in_err-work_checks c =
    let a = c.args in
    let refusal = c.in_err-work_checks.field-0.0 in
    λ m disk em ed ek. rw (passed_on c.from_residual.result refusal c.from_residual.ensures.1) (serve-first a.device.now a.port m disk (number_of refusal) (c.in_err-work_checks.ensures m disk em ed ek) (refused-not-done refusal))

pub slot_checks-requires : goal.slot_checks-requires
slot_checks-requires c =
    let a = c.args in
    let any_area = zeros a.area_len in
    let any_disk = disk_of (zeros a.disk_len) (zeros a.check_len) in
    (sound-parts a.device.now (work-passed a.device.now any_area any_disk (c.in_ok-work_checks.ensures any_area any_disk (length-zeros a.area_len) (length-zeros a.disk_len) (length-zeros a.check_len)) refl).0.is_sound).size

pub returns : goal.returns
returns c =
    let a = c.args in
    λ m disk em ed ek. c.slot_checks.ensures ∙ serve-second a.device.now a.port m disk 0 (c.in_ok-work_checks.ensures m disk em ed ek) refl

use mathlib.Core.Path.{refl, ap}
use mathlib.Core.List.{List}
use Prim.Native.Nat.{ℕ}
use native.Mathlib.Omega.{arith}
use lib.Seq.{sets}
use Rattle.layout.proofs.AnswerLaws.{refused-not-done, passed_on}
use Rattle.layout.specs.Answer.{number_of}
use Rattle.wire.proofs.PartsLaws.{part-whole}
use Rattle.wire.proofs.ChoiceLaws.{attempt-refused, attempt-done}
use Rattle.model.specs.Sizes.{mailbox_size}
use Rattle.store.specs.Areas.{slot_place}
use Rattle.store.specs.Record.{empty, held}
use Rattle.store.specs.Entries.{take_entry, take_bytes}
use Rattle.store.proofs.StageLaws.{sound-stage}
use Rattle.refusals.proofs.CheckLaws.{MailboxPassed, mailbox-passed}
use Rattle.sct_disk.proofs.ports.sct_take.Goals as goal
use Rattle.sct_disk.proofs.ports.sct_take.Goals.{In_ok-mailbox_checks}

-- what holds if no check failed
passed : (c : In_ok-mailbox_checks) → let a = c.args in MailboxPassed a.device.now a.port a.mailbox.now a.area.now
passed c =
    let a = c.args in
    mailbox-passed empty a.device.now a.port a.mailbox.now a.area.now (c.in_ok-mailbox_checks.ensures a.mailbox.now a.area.now refl refl) refl

pub returns-in_err-mailbox_checks : goal.returns-in_err-mailbox_checks
unfolding take_bytes
returns-in_err-mailbox_checks c =
    let a = c.args in
    rw (passed_on c.from_residual.result c.in_err-mailbox_checks.field-0.0 c.from_residual.ensures.1, attempt-refused (take_entry a.device.now a.port a.mailbox.now a.area.now) (number_of c.in_err-mailbox_checks.field-0.0) (c.in_err-mailbox_checks.ensures a.mailbox.now a.area.now refl refl) (refused-not-done c.in_err-mailbox_checks.field-0.0)) record {
      value = refl;
      device = refl;
      area = refl;
    }

pub copy_part-requires : goal.copy_part-requires
copy_part-requires c = omega (arith, passed (goal.at.copy_part-requires c).In_ok-mailbox_checks)

pub put_stage-requires : goal.put_stage-requires
put_stage-requires c =
    let ok = passed (goal.at.put_stage-requires c).In_ok-mailbox_checks in (ok.record_sized, ok.port)

pub returns : goal.returns
unfolding take_bytes
returns c =
    let a = c.args in
    let ok = passed (goal.at.returns c).In_ok-mailbox_checks in
    rw (attempt-done (take_entry a.device.now a.port a.mailbox.now a.area.now) 0 (c.in_ok-mailbox_checks.ensures a.mailbox.now a.area.now refl refl) refl)
    record {
      value = refl;
      device = rw c.put_stage.ensures (sound-stage a.device.now a.port held ok.is_sound ok.port);
      area = rw c.copy_part.ensures (ap (λ (l : List ℕ). sets a.area.now (slot_place a.port) l) (part-whole a.mailbox.now mailbox_size ok.mailbox_sized));
    }

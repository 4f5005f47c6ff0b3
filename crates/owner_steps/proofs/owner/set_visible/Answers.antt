use mathlib.Core.Path.{refl}
use native.Mathlib.Omega.{arith}
use Rattle.layout.proofs.AnswerLaws.{refused-not-done, passed_on}
use Rattle.layout.specs.Answer.{number_of}
use Rattle.model.specs.Owner.{set_visible}
use Rattle.model.specs.Step.{set_visible as set_visible_step}
use Rattle.store.proofs.SoundLaws.{sound-parts}
use Rattle.record.specs.DeviceMeaning.{history_of}
use Rattle.record_write.proofs.FramedLaws.{sound-framed}
use Rattle.device_update.proofs.ChangeLaws.{four-slots}
use Rattle.wire.proofs.ChoiceLaws.{attempt-refused, attempt-done}
use Rattle.store.specs.Entries.{owner_entry, set_visible_bytes}
use Rattle.owner_steps.proofs.OwnerStepLaws.{visible-passed, owner-written}
use Rattle.owner_steps.proofs.owner.set_visible.Goals as goal

pub returns-in_err-visible_checks : goal.returns-in_err-visible_checks
unfolding set_visible_bytes
returns-in_err-visible_checks c =
    rw (passed_on c.from_residual.result c.in_err-visible_checks.field-0.0 c.from_residual.ensures.1, attempt-refused (owner_entry (set_visible_step c.args.v) c.args.device.now) (number_of c.in_err-visible_checks.field-0.0) c.in_err-visible_checks.ensures (refused-not-done c.in_err-visible_checks.field-0.0)) record {
      value = refl;
      device = refl;
    }

pub decode-d-requires : goal.decode-d-requires
decode-d-requires c =
    (sound-parts c.args.device.now (visible-passed c.args.device.now c.args.v c.in_ok-visible_checks.ensures refl)).size

pub set_visible-e-requires : goal.set_visible-e-requires
set_visible-e-requires c =
    four-slots c.decode-d.result (history_of c.args.device.now) c.args.device.now c.decode-d.ensures

pub write-requires : goal.write-requires
write-requires c =
    sound-framed c.args.device.now (λ i. omega (arith, c.slice_known-1.given i)) (visible-passed c.args.device.now c.args.v c.in_ok-visible_checks.ensures refl)

pub returns : goal.returns
unfolding set_visible_bytes
returns c =
    rw (attempt-done (owner_entry (set_visible_step c.args.v) c.args.device.now) 0 c.in_ok-visible_checks.ensures refl, c.write.ensures.device_after)
    record {
      value = refl;
      device = owner-written (set_visible c.args.v) c.args.device.now c.decode-d.result c.set_visible-e.result c.decode-d.ensures c.set_visible-e.ensures;
    }

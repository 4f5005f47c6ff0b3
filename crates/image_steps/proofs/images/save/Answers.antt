use mathlib.Core.Path.{refl}
use native.Mathlib.Omega.{arith}
use Rattle.layout.proofs.AnswerLaws.{refused-not-done, passed_on}
use Rattle.layout.specs.Answer.{number_of}
use Rattle.wire.proofs.ChoiceLaws.{attempt-refused, attempt-done}
use Rattle.store.specs.Entries.{save_entry, save_bytes}
use Rattle.image_steps.proofs.ImageStepLaws.{save-passed}
use Rattle.image_steps.proofs.images.save.Goals as goal

pub returns-in_err-save_checks : goal.returns-in_err-save_checks
unfolding save_bytes
returns-in_err-save_checks c =
    rw (passed_on c.from_residual.result c.in_err-save_checks.field-0.0 c.from_residual.ensures.1, attempt-refused (save_entry c.args.device.now c.args.image.now c.args.used) (number_of c.in_err-save_checks.field-0.0) c.in_err-save_checks.ensures (refused-not-done c.in_err-save_checks.field-0.0)) record {
      value = refl;
      image = refl;
    }

pub put_entry-requires : goal.put_entry-requires
put_entry-requires c =
    let ok = save-passed c.args.device.now c.args.image.now c.args.used c.in_ok-save_checks.ensures refl in
    record {
      device_value = ok.is_sound;
      room = (omega (arith, ok.room), omega (arith, ok.whole), omega (arith, ok.number));
    }

pub returns : goal.returns
unfolding save_bytes
returns c =
    rw (attempt-done (save_entry c.args.device.now c.args.image.now c.args.used) 0 c.in_ok-save_checks.ensures refl) record {
      value = refl;
      image = c.put_entry.ensures;
    }

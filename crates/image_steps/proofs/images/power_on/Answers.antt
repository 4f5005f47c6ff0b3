use mathlib.Core.Path.{refl, sym, ap, ◌∙◌}
use native.Mathlib.Omega.{arith}
use Rattle.layout.proofs.AnswerLaws.{refused-not-done, passed_on}
use Rattle.layout.specs.Answer.{number_of}
use lib.Seq.{length-take-le}
use Rattle.model.specs.Disk.{disk_of, native_size}
use Rattle.model.specs.Image.{Saved}
use Rattle.store.specs.Areas.{private_size}
use Rattle.store.specs.Record.{encode}
use Rattle.store.specs.Entries.{restored_contents, power_on_entry, power_on_bytes}
use Rattle.wire.proofs.ChoiceLaws.{attempt-refused, attempt-done}
use Rattle.wire.proofs.PartsLaws.{length-zeros, sets-whole}
use Rattle.image.proofs.UsedLaws.{whole-used, restored-used}
use Rattle.image_steps.proofs.ImageStepLaws.{power-on-passed}
use Rattle.image_steps.proofs.images.power_on.Goals as goal

pub returns-in_err-power_on_checks : goal.returns-in_err-power_on_checks
unfolding power_on_bytes
returns-in_err-power_on_checks c =
    let a = c.args in
    rw (passed_on c.from_residual.result c.in_err-power_on_checks.field-0.0 c.from_residual.ensures.1, attempt-refused (power_on_entry a.device.now a.area.now (disk_of a.disk.now a.check_area.now) a.image.now a.used) (number_of c.in_err-power_on_checks.field-0.0) (c.in_err-power_on_checks.ensures a.device.now a.area.now (disk_of a.disk.now a.check_area.now) refl refl refl refl) (refused-not-done c.in_err-power_on_checks.field-0.0)) record {
      value = refl;
      device = refl;
      area = refl;
    }

pub zero_part-requires : goal.zero_part-requires
zero_part-requires c =
    let a = c.args in
    let ok = power-on-passed a.device.now a.area.now (disk_of a.disk.now a.check_area.now) a.image.now a.used (c.in_ok-power_on_checks.ensures a.device.now a.area.now (disk_of a.disk.now a.check_area.now) refl refl refl refl) refl in
    omega (arith, ok.area_sized)

pub slice_bounds-put_restored-end : goal.slice_bounds-put_restored-end
slice_bounds-put_restored-end c =
    let a = c.args in
    let ok = power-on-passed a.device.now a.area.now (disk_of a.disk.now a.check_area.now) a.image.now a.used (c.in_ok-power_on_checks.ensures a.device.now a.area.now (disk_of a.disk.now a.check_area.now) refl refl refl refl) refl in
    sym (length-take-le a.used a.image.now ok.fits)

pub put_restored-requires : goal.put_restored-requires
put_restored-requires c =
    let a = c.args in
    let ok = power-on-passed a.device.now a.area.now (disk_of a.disk.now a.check_area.now) a.image.now a.used (c.in_ok-power_on_checks.ensures a.device.now a.area.now (disk_of a.disk.now a.check_area.now) refl refl refl refl) refl in
    record {
      device_len = ok.record_sized;
      whole = whole-used a.image.now a.used ok.fits ok.whole;
    }

pub returns : goal.returns
unfolding power_on_bytes
returns c =
    let a = c.args in
    let ok = power-on-passed a.device.now a.area.now (disk_of a.disk.now a.check_area.now) a.image.now a.used (c.in_ok-power_on_checks.ensures a.device.now a.area.now (disk_of a.disk.now a.check_area.now) refl refl refl refl) refl in
    rw (attempt-done (power_on_entry a.device.now a.area.now (disk_of a.disk.now a.check_area.now) a.image.now a.used) 0 (c.in_ok-power_on_checks.ensures a.device.now a.area.now (disk_of a.disk.now a.check_area.now) refl refl refl refl) refl)
    record {
      value = refl;
      device = c.put_restored.ensures ∙ ap (λ (s : Saved). encode (restored_contents s)) (restored-used a.image.now a.used ok.fits (native_size (disk_of a.disk.now a.check_area.now)) ok.whole);
      area = rw c.zero_part.ensures (sets-whole _ a.area.now private_size (length-zeros private_size) ok.area_sized);
    }

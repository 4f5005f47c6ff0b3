use mathlib.Core.Path.{refl, ap, ◌∙◌}
use Prim.Native.Nat.{◌<◌}
use native.Mathlib.Omega.{arith}
use lib.ListN.{length-take}
use Rattle.layout.proofs.AnswerLaws.{refused-not-done, passed_on}
use Rattle.layout.specs.Answer.{number_of}
use Rattle.wire.proofs.ChoiceLaws.{attempt-refused, attempt-done}
use Rattle.model.specs.Disk.{disk_of}
use Rattle.store.specs.Record.{decode}
use Rattle.store.specs.Entries.{repair_entry, repair_bytes}
use Rattle.refusals.proofs.CheckLaws.{DiskPassed, repair-passed}
use Rattle.sct_disk.proofs.VisibleLaws.{VisiblePart, visible-part, repair-report, repair-record, repair-sectors}
use Rattle.sct_disk.proofs.repairs.sct_repair.Goals as goal
use Rattle.sct_disk.proofs.repairs.sct_repair.Goals.{In_ok-repair_checks, After-visible_sectors-visible}

passed : (c : In_ok-repair_checks) → let a = c.args in DiskPassed a.device.now (disk_of a.disk.now a.check_area.now) × (a.lba < (decode a.device.now).device.visible)
passed c =
    let a = c.args in
    let disk = disk_of a.disk.now a.check_area.now in
    repair-passed a.device.now disk a.lba (c.in_ok-repair_checks.ensures disk refl refl) refl

-- the visible part of the disk
visible-of : (c : After-visible_sectors-visible) → let a = c.args in VisiblePart a.device.now (disk_of a.disk.now a.check_area.now) c.visible_sectors-visible.result
visible-of c =
    let a = c.args in
    let disk = disk_of a.disk.now a.check_area.now in
    let all = repair-passed a.device.now disk a.lba (c.in_ok-repair_checks.ensures disk refl refl) refl in
    visible-part a.device.now disk c.visible_sectors-visible.result (λ i. omega (arith, c.slice_known-1.given i)) all.0 c.visible_sectors-visible.ensures

pub returns-in_err-repair_checks : goal.returns-in_err-repair_checks
unfolding repair_bytes
returns-in_err-repair_checks c =
    let a = c.args in
    let disk = disk_of a.disk.now a.check_area.now in
    rw (passed_on c.from_residual.result c.in_err-repair_checks.field-0.0 c.from_residual.ensures.1, attempt-refused (repair_entry a.device.now disk a.lba) (number_of c.in_err-repair_checks.field-0.0) (c.in_err-repair_checks.ensures disk refl refl) (refused-not-done c.in_err-repair_checks.field-0.0)) record {
      value = refl;
      report = refl;
      device = refl;
      disk = refl;
    }

pub visible_sectors-visible-requires : goal.visible_sectors-visible-requires
visible_sectors-visible-requires c = (passed (goal.at.visible_sectors-visible-requires c).In_ok-repair_checks).0.is_sound

pub overflow_mul-visible : goal.overflow_mul-visible
overflow_mul-visible c = let h = (visible-of (goal.at.overflow_mul-visible c).After-visible_sectors-visible).limit in omega (arith, h)

pub slice_bounds-repair-end : goal.slice_bounds-repair-end
slice_bounds-repair-end c = let h = (visible-of (goal.at.slice_bounds-repair-end c).After-visible_sectors-visible).within.0 in omega (arith, h)

pub slice_bounds-repair-end-2 : goal.slice_bounds-repair-end-2
slice_bounds-repair-end-2 c = let h = (visible-of (goal.at.slice_bounds-repair-end-2 c).After-visible_sectors-visible).within.0 in rw length-take (omega (arith, h))

pub overflow_mul-visible-2 : goal.overflow_mul-visible-2
overflow_mul-visible-2 c = let h = (visible-of (goal.at.overflow_mul-visible-2 c).After-visible_sectors-visible).limit in omega (arith, h)

pub slice_bounds-repair-end-3 : goal.slice_bounds-repair-end-3
slice_bounds-repair-end-3 c = let h = (visible-of (goal.at.slice_bounds-repair-end-3 c).After-visible_sectors-visible).within.1 in rw length-take (omega (arith, h))

pub repair-report-requires : goal.repair-report-requires
repair-report-requires c =
    let s = visible-of (goal.at.repair-report-requires c).After-visible_sectors-visible in
    (s.passed.is_sound, s.size, (passed (goal.at.repair-report-requires c).In_ok-repair_checks).1)

pub returns : goal.returns
unfolding repair_bytes
returns c =
    let a = c.args in
    let disk = disk_of a.disk.now a.check_area.now in
    let v = c.visible_sectors-visible.result in
    let s = visible-of (goal.at.returns c).After-visible_sectors-visible in
    let low = (passed (goal.at.returns c).In_ok-repair_checks).1 in
    let after = c.repair-report.ensures in
    rw (attempt-done (repair_entry a.device.now disk a.lba) 0 (c.in_ok-repair_checks.ensures disk refl refl) refl) record {
      value = refl;
      report = repair-report a.device.now disk v a.lba s low _ after.report;
      device = repair-record a.device.now disk v a.lba s low _ after.device;
      disk = repair-sectors a.device.now disk v a.lba s low _ after.disk;
    }

use mathlib.Core.Path.{◌≡◌, refl, ap, ◌∙◌}
use native.Mathlib.Omega.{arith}
use lib.ListN.{length, length-take}
use Rattle.layout.proofs.AnswerLaws.{refused-not-done, passed_on}
use Rattle.layout.specs.Answer.{number_of}
use Rattle.wire.proofs.ChoiceLaws.{attempt-refused, attempt-done}
use Rattle.model.specs.Disk.{Disk, disk_of}
use Rattle.store.specs.Areas.{private_size}
use Rattle.store.specs.Entries.{work_entry, work_bytes}
use Rattle.refusals.proofs.CheckLaws.{DiskPassed, work-passed}
use Rattle.sct_disk.proofs.VisibleLaws.{VisiblePart, visible-part, work-record, work-disk}
use Rattle.sct_disk.proofs.works.sct_work.Goals as goal
use Rattle.sct_disk.proofs.works.sct_work.Goals.{In_ok-work_checks, After-visible_sectors-visible}

passed : (c : In_ok-work_checks) → let a = c.args in DiskPassed a.device.now (disk_of a.disk.now a.check_area.now) × (length a.area.now ≡ private_size)
passed c =
    let a = c.args in
    let disk = disk_of a.disk.now a.check_area.now in
    work-passed a.device.now a.area.now disk (c.in_ok-work_checks.ensures a.area.now disk refl refl refl) refl

-- the visible part of the disk
visible-of : (c : After-visible_sectors-visible) → let a = c.args in VisiblePart a.device.now (disk_of a.disk.now a.check_area.now) c.visible_sectors-visible.result
visible-of c =
    let a = c.args in
    let disk = disk_of a.disk.now a.check_area.now in
    let all = work-passed a.device.now a.area.now disk (c.in_ok-work_checks.ensures a.area.now disk refl refl refl) refl in
    visible-part a.device.now disk c.visible_sectors-visible.result (λ i. omega (arith, c.slice_known-1.given i)) all.0 c.visible_sectors-visible.ensures

pub returns-in_err-work_checks : goal.returns-in_err-work_checks
unfolding work_bytes
returns-in_err-work_checks c =
    let a = c.args in
    let disk = disk_of a.disk.now a.check_area.now in
    rw (passed_on c.from_residual.result c.in_err-work_checks.field-0.0 c.from_residual.ensures.1, attempt-refused (work_entry a.device.now a.area.now disk a.n) (number_of c.in_err-work_checks.field-0.0) (c.in_err-work_checks.ensures a.area.now disk refl refl refl) (refused-not-done c.in_err-work_checks.field-0.0)) record {
      value = refl;
      count = refl;
      device = refl;
      disk = refl;
      check_area = refl;
    }

pub visible_sectors-visible-requires : goal.visible_sectors-visible-requires
visible_sectors-visible-requires c = (passed (goal.at.visible_sectors-visible-requires c).In_ok-work_checks).0.is_sound

pub overflow_mul-visible : goal.overflow_mul-visible
overflow_mul-visible c = let h = (visible-of (goal.at.overflow_mul-visible c).After-visible_sectors-visible).limit in omega (arith, h)

pub slice_bounds-work-end : goal.slice_bounds-work-end
slice_bounds-work-end c = let h = (visible-of (goal.at.slice_bounds-work-end c).After-visible_sectors-visible).within.0 in omega (arith, h)

pub slice_bounds-work-end-2 : goal.slice_bounds-work-end-2
slice_bounds-work-end-2 c = let h = (visible-of (goal.at.slice_bounds-work-end-2 c).After-visible_sectors-visible).within.0 in rw length-take (omega (arith, h))

pub overflow_mul-visible-2 : goal.overflow_mul-visible-2
overflow_mul-visible-2 c = let h = (visible-of (goal.at.overflow_mul-visible-2 c).After-visible_sectors-visible).limit in omega (arith, h)

pub slice_bounds-work-end-3 : goal.slice_bounds-work-end-3
slice_bounds-work-end-3 c = let h = (visible-of (goal.at.slice_bounds-work-end-3 c).After-visible_sectors-visible).within.1 in omega (arith, h)

pub slice_bounds-work-end-4 : goal.slice_bounds-work-end-4
slice_bounds-work-end-4 c = let h = (visible-of (goal.at.slice_bounds-work-end-4 c).After-visible_sectors-visible).within.1 in rw length-take (omega (arith, h))

pub work-count-requires : goal.work-count-requires
work-count-requires c =
    let s = visible-of (goal.at.work-count-requires c).After-visible_sectors-visible in
    (s.passed.is_sound, (passed (goal.at.work-count-requires c).In_ok-work_checks).1, s.size)

pub returns : goal.returns
unfolding work_bytes
returns c =
    let a = c.args in
    let disk = disk_of a.disk.now a.check_area.now in
    let v = c.visible_sectors-visible.result in
    let s = visible-of (goal.at.returns c).After-visible_sectors-visible in
    let whole = (passed (goal.at.returns c).In_ok-work_checks).1 in
    let disk-after = work-disk a.device.now a.area.now disk v a.n s whole _ c.work-count.ensures.disk in
    rw (attempt-done (work_entry a.device.now a.area.now disk a.n) 0 (c.in_ok-work_checks.ensures a.area.now disk refl refl refl) refl) record {
      value = refl;
      count = c.work-count.ensures.count;
      device = work-record a.device.now a.area.now disk v a.n s whole _ c.work-count.ensures.bytes;
      disk = ap (λ (x : Disk). x.sectors) disk-after;
      check_area = ap (λ (x : Disk). x.check_area) disk-after;
    }

use mathlib.Core.Path.{◌≡◌, refl, ap}
use Prim.Native.Nat.{◌<◌}
use native.Mathlib.Omega.{arith}
use lib.ListN.{length, length-take}
use Rattle.layout.proofs.AnswerLaws.{refused-not-done, passed_on}
use Rattle.layout.specs.Answer.{number_of}
use Rattle.wire.proofs.ChoiceLaws.{attempt-refused, attempt-done}
use Rattle.model.specs.Sizes.{port_count}
use Rattle.model.specs.Disk.{Disk, disk_of}
use Rattle.model.specs.Valid.{Sized}
use Rattle.store.specs.Areas.{private_size}
use Rattle.store.specs.Entries.{serve_entry, serve_bytes}
use Rattle.refusals.proofs.CheckLaws.{DiskPassed, serve-passed}
use Rattle.sct_disk.proofs.VisibleLaws.{VisiblePart, visible-part, serve-record, serve-area, serve-disk}
use Rattle.sct_disk.proofs.ports.sct_serve.Goals as goal
use Rattle.sct_disk.proofs.ports.sct_serve.Goals.{In_ok-serve_checks, After-visible_sectors-visible}

passed : (c : In_ok-serve_checks) → let a = c.args in DiskPassed a.device.now (disk_of a.disk.now a.check_area.now) × (length a.area.now ≡ private_size) × (a.port < port_count)
passed c =
    let a = c.args in
    let disk = disk_of a.disk.now a.check_area.now in
    serve-passed a.device.now a.port a.area.now disk (c.in_ok-serve_checks.ensures a.area.now disk refl refl refl) refl

-- the visible part of the disk
visible-of : (c : After-visible_sectors-visible) → let a = c.args in VisiblePart a.device.now (disk_of a.disk.now a.check_area.now) c.visible_sectors-visible.result
visible-of c =
    let a = c.args in
    let disk = disk_of a.disk.now a.check_area.now in
    let all = serve-passed a.device.now a.port a.area.now disk (c.in_ok-serve_checks.ensures a.area.now disk refl refl refl) refl in
    visible-part a.device.now disk c.visible_sectors-visible.result (λ i. omega (arith, c.slice_known-1.given i)) all.0 c.visible_sectors-visible.ensures

pub returns-in_err-serve_checks : goal.returns-in_err-serve_checks
unfolding serve_bytes
returns-in_err-serve_checks c =
    let a = c.args in
    let disk = disk_of a.disk.now a.check_area.now in
    rw (passed_on c.from_residual.result c.in_err-serve_checks.field-0.0 c.from_residual.ensures.1, attempt-refused (serve_entry a.device.now a.port a.area.now disk) (number_of c.in_err-serve_checks.field-0.0) (c.in_err-serve_checks.ensures a.area.now disk refl refl refl) (refused-not-done c.in_err-serve_checks.field-0.0)) record {
      value = refl;
      device = refl;
      area = refl;
      disk = refl;
      check_area = refl;
    }

pub visible_sectors-visible-requires : goal.visible_sectors-visible-requires
visible_sectors-visible-requires c = (passed (goal.at.visible_sectors-visible-requires c).In_ok-serve_checks).0.is_sound

pub overflow_mul-visible : goal.overflow_mul-visible
overflow_mul-visible c = let h = (visible-of (goal.at.overflow_mul-visible c).After-visible_sectors-visible).limit in omega (arith, h)

pub slice_bounds-serve-end : goal.slice_bounds-serve-end
slice_bounds-serve-end c = let h = (visible-of (goal.at.slice_bounds-serve-end c).After-visible_sectors-visible).within.0 in omega (arith, h)

pub slice_bounds-serve-end-2 : goal.slice_bounds-serve-end-2
slice_bounds-serve-end-2 c = let h = (visible-of (goal.at.slice_bounds-serve-end-2 c).After-visible_sectors-visible).within.0 in rw length-take (omega (arith, h))

pub overflow_mul-visible-2 : goal.overflow_mul-visible-2
overflow_mul-visible-2 c = let h = (visible-of (goal.at.overflow_mul-visible-2 c).After-visible_sectors-visible).limit in omega (arith, h)

pub slice_bounds-serve-end-3 : goal.slice_bounds-serve-end-3
slice_bounds-serve-end-3 c = let h = (visible-of (goal.at.slice_bounds-serve-end-3 c).After-visible_sectors-visible).within.1 in omega (arith, h)

pub slice_bounds-serve-end-4 : goal.slice_bounds-serve-end-4
slice_bounds-serve-end-4 c = let h = (visible-of (goal.at.slice_bounds-serve-end-4 c).After-visible_sectors-visible).within.1 in rw length-take (omega (arith, h))

pub serve-requires : goal.serve-requires
serve-requires c =
    let s = visible-of (goal.at.serve-requires c).After-visible_sectors-visible in
    let all = passed (goal.at.serve-requires c).In_ok-serve_checks in
    (record { sound_record = s.passed.is_sound; size = all.1; port = all.2 }, s.size)

pub returns : goal.returns
unfolding serve_bytes
returns c =
    let a = c.args in
    let disk = disk_of a.disk.now a.check_area.now in
    let v = c.visible_sectors-visible.result in
    let s = visible-of (goal.at.returns c).After-visible_sectors-visible in
    let after = c.serve.ensures in
    let all = passed (goal.at.returns c).In_ok-serve_checks in
    let private : Sized private_size a.area.now = record { size = all.1; bytes = λ i. omega (arith, c.slice_known-2-1.given i) } in
    let port = all.2 in
    let disk-after = serve-disk a.device.now a.port a.area.now disk v s private port _ after.disk_bytes in
    rw (attempt-done (serve_entry a.device.now a.port a.area.now disk) 0 (c.in_ok-serve_checks.ensures a.area.now disk refl refl refl) refl) record {
      value = refl;
      device = serve-record a.device.now a.port a.area.now disk v s private port _ after.record_bytes;
      area = serve-area a.device.now a.port a.area.now disk v s private port _ after.area_bytes;
      disk = ap (λ (x : Disk). x.sectors) disk-after;
      check_area = ap (λ (x : Disk). x.check_area) disk-after;
    }

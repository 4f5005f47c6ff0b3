use Rattle.store.proofs.SoundLaws.{sound-parts}
use Rattle.record_write.proofs.FramedLaws.{sound-framed}
use Rattle.wire.proofs.PartsLaws.{length_part}
use Prim.Native.Nat.{◌+◌, ◌*◌, ◌≤◌}
use lib.ListN.{length}
use Rattle.model.specs.Sizes.{sector_size, check_size}
use Rattle.model.specs.Disk.{disk_of}
use Rattle.store.specs.Areas.{fill_place}
use native.Mathlib.Omega.{arith}
use Rattle.fill.proofs.StepsLaws.{count_left, work-fits, worked-count, worked-record, worked-disk}
use Rattle.fill.proofs.steps.work.Goals as goal
use Rattle.fill.proofs.steps.work.Goals.{After-next_sector-next}

pub decode-d-requires : goal.decode-d-requires
decode-d-requires c =
    (sound-parts c.args.device.now c.requires.0).size

-- the sectors to write are on the visible disk
fits : (c : After-next_sector-next) → let k = c.count_of-k.result in let next = c.next_sector-next.result in let a = c.args in
    (sector_size * (next + k) ≤ length a.disk.now) × (check_size * (next + k) ≤ length a.check_area.now)
fits c =
    let a = c.args in
    rw (c.next_sector-next.ensures, c.count_of-k.ensures)
    (work-fits a.device.now a.area.now (disk_of a.disk.now a.check_area.now) _ _ c.decode-d.result c.decode-d.result c.decode-d.ensures c.count_of-k.ensures (λ i. omega (arith, c.slice_known-1.given i)) c.requires.0 c.requires.2)

pub write_sectors-requires : goal.write_sectors-requires
write_sectors-requires c =
    (c.requires.1, omega (arith, fits (goal.at.write_sectors-requires c).After-next_sector-next))

pub write_check_bytes-requires : goal.write_check_bytes-requires
write_check_bytes-requires c =
    (c.requires.1, omega (arith, fits (goal.at.write_check_bytes-requires c).After-next_sector-next))

pub moved_on-e-requires : goal.moved_on-e-requires
moved_on-e-requires c =
    rw c.count_of-k.ensures (count_left _ _)

pub write-requires : goal.write-requires
write-requires c =
    sound-framed c.args.device.now (λ i. omega (arith, c.slice_known-1.given i)) c.requires.0

pub returns : goal.returns
returns c =
    let a = c.args in
    let disk = disk_of a.disk.now a.check_area.now in
    let d = c.decode-d.result in
    let e = c.moved_on-e.result in
    let whole = length_part a.area.now fill_place sector_size (omega (arith, c.requires.1)) in record {
      count = worked-count a.device.now a.area.now disk a.n _ d e c.decode-d.ensures c.count_of-k.ensures;
      bytes = rw c.write.ensures.device_after (worked-record a.device.now a.area.now disk a.n _ d e c.decode-d.ensures c.count_of-k.ensures whole c.moved_on-e.ensures);
      disk = rw (c.write_sectors.ensures, c.write_check_bytes.ensures, c.next_sector-next.ensures) (worked-disk a.device.now a.area.now disk a.n _ d e c.decode-d.ensures c.count_of-k.ensures whole);
    }

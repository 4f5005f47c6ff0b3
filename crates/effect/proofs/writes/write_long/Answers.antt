use Rattle.model.specs.Disk.{disk_of, with_sector}
use Rattle.store.proofs.FollowLaws.{slot-data, slot-check}
use Rattle.effect.proofs.writes.write_long.Goals as goal

pub returns : goal.returns
returns c =
    let a = c.args in
    rw (c.store.ensures, c.get-check.ensures)
    (λ i. with_sector a.lba (record { content = slot-data a.area.now a.p i; check = slot-check a.area.now a.p i }) (disk_of a.disk.now a.check_area.now))

use mathlib.Core.Path.{ap}
use mathlib.Core.List.{List}
use Prim.Native.Nat.{ℕ}
use Rattle.model.specs.Disk.{checked, disk_of, with_sector}
use Rattle.store.proofs.FollowLaws.{slot-data}
use Rattle.effect.proofs.writes.write_sector.Goals as goal

pub returns : goal.returns
returns c =
    let a = c.args in
    let disk = disk_of a.disk.now a.check_area.now in
    rw (c.store.ensures, c.check_of-check.ensures)
    (ap (λ (sector : List ℕ). with_sector a.lba (checked sector) disk) (slot-data a.area.now a.p))

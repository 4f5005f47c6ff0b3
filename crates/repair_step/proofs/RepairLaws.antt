-- The repair of a sector in its place is the model's repair: the report, the record and the sectors.
use mathlib.Core.Path.{◌≡◌, refl, ap, ◌∙◌}
use mathlib.Core.Bool.{Bool, true, false}
use mathlib.Core.List.{List}
use Prim.Native.Nat.{ℕ, ◌+◌, ◌*◌, ◌≤◌}
use lib.ListN.{length}
use lib.Seq.{sets}
use lib.Dec.{eqb}
use Rattle.sector_check.specs.Repair.{repaired_sector}
use Rattle.sector_check.proofs.FlipLaws.{sets-own}
use Rattle.model.specs.Sizes.{sector_size}
use Rattle.model.specs.Disk.{Disk, LongSector, sector_at}
use Rattle.model.specs.Repair.{repair_report, repaired_device, repaired_disk, repair}
use Rattle.record.specs.declared.device as code
use Rattle.record.specs.DeviceMeaning.{as_contents, history_of}
use Rattle.store.specs.Record.{decode, encode}
use Rattle.store.specs.Entries.{with_device, repair_done}
use Rattle.device_update.specs.Change.{Changed}
use Rattle.device_update.proofs.ChangeLaws.{changed-contents}

module _ (r : List ℕ) (disk : Disk) (lba : ℕ) where
  abbrev sector : LongSector
  sector = sector_at lba disk

  pub repaired-record : (report : ℕ) (d e : code.Device.Device) → as_contents d (history_of r) ≡ decode r → report ≡ repair_report lba disk
      → Changed (repaired_device (eqb report 1)) d e → encode (as_contents e (history_of r)) ≡ (repair_done r disk lba).record_area
  unfolding repair
  repaired-record report d e says reported change =
      ap encode
      (changed-contents (repaired_device (eqb report 1)) d e (history_of r) (decode r) says change
      ∙ ap (λ (n : ℕ). with_device (repaired_device (eqb n 1) (decode r).device) (decode r)) reported)

  pub repaired-sectors : sector_size * lba + sector_size ≤ length disk.sectors
      → sets disk.sectors (sector_size * lba) (repaired_sector sector.check sector.content) ≡ (repair_done r disk lba).sectors
  unfolding repair repaired_sector
  repaired-sectors fits = go (eqb (repair_report lba disk) 1) refl
    where
      go : (b : Bool) → eqb (repair_report lba disk) 1 ≡ b
          → sets disk.sectors (sector_size * lba) (repaired_sector sector.check sector.content) ≡ (repaired_disk b lba disk).sectors
      go true e = refl
      go false e = rw e (sets-own disk.sectors (sector_size * lba) sector_size fits)

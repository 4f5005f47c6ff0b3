use mathlib.Core.Path.{◌≡◌, ap, ◌∙◌}
use Prim.Native.Nat.{ℕ, ◌*◌}
use native.Mathlib.Omega.{arith}
use lib.Seq.{sets}
use lib.Dec.{eqb}
use Rattle.wire.specs.Parts.{part}
use Rattle.sector_check.specs.Repair.{report_of, repaired_sector}
use Rattle.sector_check.specs.Reports.{report_number}
use Rattle.sector_check.proofs.RepairLaws.{numbered}
use Rattle.model.specs.Sizes.{sector_size}
use Rattle.model.specs.Disk.{disk_of}
use Rattle.model.specs.Repair.{repair_report}
use Rattle.store.proofs.SoundLaws.{sound-parts}
use Rattle.record_write.proofs.FramedLaws.{sound-framed}
use Rattle.repair_step.proofs.RepairLaws.{repaired-record, repaired-sectors}
use Rattle.repair_step.proofs.repairing.repair.Goals as goal

pub decode-d-requires : goal.decode-d-requires
decode-d-requires c =
    (sound-parts c.args.device.now c.requires.0).size

pub write-requires : goal.write-requires
write-requires c =
    sound-framed c.args.device.now (λ i. omega (arith, c.slice_known-1.given i)) c.requires.0

pub returns : goal.returns
returns c =
    let a = c.args in
    let disk = disk_of a.disk.now a.check_area.now in
    let content = part a.disk.now (sector_size * a.lba) sector_size in
    let stored = c.get-stored.ensures in
    let n = report_number c.repair-report.result in
    let reported : n ≡ repair_report a.lba disk = c.repair-report.ensures.value ∙ ap (λ (n : ℕ). report_of n content) stored in
    let flag : c.eq.result ≡ eqb n 1 = c.eq.ensures ∙ ap (λ (n : ℕ). eqb n 1) (numbered c.repair-report.result) in
    let change = rw flag at c.repaired-e.ensures in record {
      report = reported;
      device = rw c.write.ensures.device_after (repaired-record a.device.now disk a.lba n c.decode-d.result c.repaired-e.result c.decode-d.ensures reported change);
      disk = c.repair-report.ensures.s_after
          ∙ ap (λ (n : ℕ). sets a.disk.now (sector_size * a.lba) (repaired_sector n content)) stored
          ∙ repaired-sectors a.device.now disk a.lba (omega (arith, c.requires.1.0, c.requires.2));
    }

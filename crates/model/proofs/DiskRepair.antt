-- Laws of the repair step, in W-202's words: its three reports, what it alters, and what it stops.
use mathlib.Core.Path.{◌≡◌, refl, ap, ◌∙◌}
use mathlib.Core.Bool.{Bool, true, false}
use Prim.Native.Nat.{ℕ, ◌+◌, ◌*◌, ◌%◌, ◌≤◌, ◌<◌}
use native.Mathlib.Omega.{arith}
use mathlib.Core.List.{List, [], ◌∷◌}
use lib.ListN.{length}
use lib.Seq.{sets}
use lib.Dec.{eqb}
use borrow.Author.Tests.{eqb-true, eqb-false, eq-eqb, ne_eqb, lt-ltb, le-ltb}
use Rattle.wire.specs.Choice.{first_failed}
use Rattle.wire.specs.Numbers.{get}
use Rattle.wire.specs.Parts.{part}
use Rattle.wire.proofs.ChoiceLaws.{pass_all}
use Rattle.wire.proofs.PartsLaws.{part_same, length_part}
use Rattle.sector_check.specs.Check.{check_of, flip}
use Rattle.sector_check.specs.Repair.{difference, report_of, repaired_sector}
use Rattle.sector_check.proofs.SectorLaws.{length-repaired}
use Rattle.sector_check.proofs.RepairLaws.{flipped}
use Rattle.sector_check.proofs.PaperLaws.{one-flip-repaired, two-flips-report-2, stored-is-computed}
use Rattle.model.specs.Device.{idle, running, Device}
use Rattle.model.specs.Disk.{Disk}
use Rattle.model.specs.Update.{with_initialized}
use Rattle.model.specs.Fill.{Volume, interrupt}
use Rattle.model.specs.Repair.{repair_report, repaired_device, repaired_disk}
use Rattle.model.specs.Repair.{repair as repair_volume}
use Rattle.model.specs.Machine.{Machine, machine}
use Rattle.model.specs.Step.{repair, Outcome, checks, does, seen_done, reported, volume, repaired, step}
use Rattle.model.proofs.StepLaws.{step-done, answer-is, refused-untouched}
use Rattle.model.proofs.OwnerLaws.{Quiet, interrupt-quiet, interrupt-code-running, interrupt-code-idle}
use Rattle.model.proofs.RequestLaws.{interrupt-kept}
use Rattle.model.proofs.RecordedLaws.{interrupt-recorded}

-- ---- the rule on a volume

module _ (lba : ℕ) (v : Volume) where
  -- whatever the report is, no fill runs, and the check area stays
  repair-either : (b : Bool) → ((repaired_device b v.device).command.fill ≡ idle) × ((repaired_disk b lba v.disk).check_area ≡ v.disk.check_area)
  repair-either true = ((interrupt-quiet v.device).no_fill, refl)
  repair-either false = ((interrupt-quiet v.device).no_fill, refl)

  pub repair-idle : (repair_volume lba v).device.command.fill ≡ idle
  unfolding repair_volume
  repair-idle = (repair-either (eqb (repair_report lba v.disk) 1)).0

  pub repair-leaves-check-area : (repair_volume lba v).disk.check_area ≡ v.disk.check_area
  unfolding repair_volume
  repair-leaves-check-area = (repair-either (eqb (repair_report lba v.disk) 1)).1

-- ---- the step

-- "mending at or above V is answer 5, and a refused mending reports 0": and it changes nothing, so a fill goes on
pub repair-above : (lba : ℕ) (M : Machine) → M.device.visible ≤ lba
    → ((step (repair lba) M).seen.answer ≡ 5) × ((step (repair lba) M).seen.report ≡ 0) × ((step (repair lba) M).state ≡ M)
repair-above lba M h =
    let five : (step (repair lba) M).seen.answer ≡ 5 = answer-is (repair lba) M ∙ ap (λ (b : Bool). first_failed ((b, 5) ∷ [])) (le-ltb lba M.device.visible h) in
    let same = refused-untouched (repair lba) M 4 five in
    (five, same.1.report, same.0)

module _ (lba : ℕ) (M : Machine) (low : lba < M.device.visible) where
  abbrev after : Outcome Machine
  after = step (repair lba) M

  -- the sector's content and its stored check
  abbrev content : List ℕ
  content = part M.disk.sectors (512 * lba) 512

  abbrev stored : ℕ
  stored = get 2 M.disk.check_area (2 * lba)

  done-is : after ≡ record { state = does (repair lba) M; seen = seen_done (repair lba) M }
  done-is = step-done (repair lba) M (pass_all (checks (repair lba) M) (lt-ltb lba M.device.visible low, tt))

  -- the report is seen, with the answer 0
  pub repair-seen : after.seen ≡ reported (report_of stored content)
  repair-seen = ap (λ (o : Outcome Machine). o.seen) done-is

  -- "only 1 alters a sector"
  module _ (other : report_of stored content ≡ 1 → ⊥) where
    pub unaltered : (after.state.device ≡ interrupt M.device) × (after.state.disk ≡ M.disk)
    unfolding repaired repair_volume
    unaltered = rw (done-is, ne_eqb (report_of stored content) 1 other) (refl, refl)

  -- "1 (..: it flips the data bit at the differing position)", ".. and it clears the flag"; the check bytes stay
  module _ (one : report_of stored content ≡ 1) where
    altered : (after.state.device ≡ with_initialized false (interrupt M.device)) × (after.state.disk ≡ repaired_disk true lba M.disk)
    unfolding repaired repair_volume
    altered = rw (done-is, eq-eqb (report_of stored content) 1 one) (refl, refl)

    pub altered-device : after.state.device ≡ with_initialized false (interrupt M.device)
    altered-device = altered.0

    pub altered-sectors : after.state.disk.sectors ≡ sets M.disk.sectors (512 * lba) (flip content (difference stored content % 4096))
    altered-sectors = ap (λ (disk : Disk). disk.sectors) altered.1 ∙ ap (sets M.disk.sectors (512 * lba)) (flipped stored content one)

    pub altered-check-area : after.state.disk.check_area ≡ M.disk.check_area
    altered-check-area = ap (λ (disk : Disk). disk.check_area) altered.1

    module _ (fits : 512 * lba + 512 ≤ length M.disk.sectors) where
      whole : length content ≡ 512
      whole = length_part M.disk.sectors (512 * lba) 512 fits

      pub repaired-content : part after.state.disk.sectors (512 * lba) 512 ≡ repaired_sector stored content
      repaired-content =
          ap (λ (disk : Disk). part disk.sectors (512 * lba) 512) altered.1
          ∙ part_same (repaired_sector stored content) M.disk.sectors (512 * lba) 512 (length-repaired stored content ∙ whole) fits

      -- THEOREM: after report 1 the stored check is that of the content
      pub checks-agree : get 2 after.state.disk.check_area (2 * lba) ≡ check_of (part after.state.disk.sectors (512 * lba) 512)
      checks-agree = rw (altered-check-area, repaired-content) (stored-is-computed stored content whole one)

  -- "The step first stops a fill and drops an owed transfer": with every report
  pub repair-quiet : Quiet after.state.device
  repair-quiet = go (eqb (report_of stored content) 1) refl
    where
      go : (b : Bool) → eqb (report_of stored content) 1 ≡ b → Quiet after.state.device
      go true e =
          let q = interrupt-quiet M.device in
          rw (altered-device (eqb-true (report_of stored content) 1 e)) (record { no_fill = q.no_fill; no_transfer = q.no_transfer })
      go false e = rw (unaltered (eqb-false (report_of stored content) 1 e)).0 (interrupt-quiet M.device)

-- ---- what a repair keeps, whatever it reports

-- N, V, the lock, settings, temperatures, action, function and ports are unchanged; so is the check area
pub record RepairKeeps (M N : Machine) : Type 0 where
  pub sizes : (N.device.native ≡ M.device.native) × (N.device.visible ≡ M.device.visible)
  pub locked : N.device.locked ≡ M.device.locked
  pub settings : N.device.settings ≡ M.device.settings
  pub thermal : N.device.thermal ≡ M.device.thermal
  pub words : (N.device.command.action ≡ M.device.command.action) × (N.device.command.function ≡ M.device.command.function)
  pub ports : N.ports ≡ M.ports
  pub check_area : N.disk.check_area ≡ M.disk.check_area

-- a flip changes the flag alone
kept-device : (b : Bool) (d : Device) → let e = repaired_device b d in let i = interrupt d in
    (e.native ≡ i.native) × (e.visible ≡ i.visible) × (e.locked ≡ i.locked) × (e.settings ≡ i.settings) × (e.thermal ≡ i.thermal)
    × (e.command.action ≡ i.command.action) × (e.command.function ≡ i.command.function)
kept-device true d = (refl, refl, refl, refl, refl, refl, refl)
kept-device false d = (refl, refl, refl, refl, refl, refl, refl)

module _ (lba : ℕ) (M : Machine) (low : lba < M.device.visible) where
  -- the device after either outcome
  device-is : (step (repair lba) M).state.device ≡ repaired_device (eqb (repair_report lba M.disk) 1) M.device
  unfolding repaired repair_volume
  device-is = ap (λ (o : Outcome Machine). o.state.device) (done-is lba M low)

  -- also of a locked disk: nothing is asked of the lock
  pub repair-keeps : RepairKeeps M (step (repair lba) M).state
  unfolding repaired repair_volume
  repair-keeps = rw (done-is lba M low) (go (eqb (repair_report lba M.disk) 1))
    where
      go : (b : Bool) → RepairKeeps M (machine (repaired_device b M.device) M.sector M.ports (repaired_disk b lba M.disk))
      go b =
          let same = interrupt-kept M.device in
          let words = interrupt-recorded M.device in
          let kept = kept-device b M.device in
          record {
            sizes = (kept.0 ∙ ap (λ (d : Device). d.native) same, kept.1 ∙ ap (λ (d : Device). d.visible) same);
            locked = kept.2 ∙ ap (λ (d : Device). d.locked) same;
            settings = kept.3 ∙ ap (λ (d : Device). d.settings) same;
            thermal = kept.4 ∙ ap (λ (d : Device). d.thermal) same;
            words = (kept.5 ∙ words.is_action, kept.6 ∙ words.is_function);
            ports = refl;
            check_area = (repair-either lba (volume M) b).1;
          }

  -- "stops a fill": the code is 0008h; with no fill it stays
  pub repair-code : (first next end : ℕ) → M.device.command.fill ≡ running first next end → (step (repair lba) M).state.device.command.code ≡ 0x0008
  repair-code first next end e = rw device-is (go (eqb (repair_report lba M.disk) 1))
    where
      go : (b : Bool) → (repaired_device b M.device).command.code ≡ 0x0008
      go true = interrupt-code-running M.device first next end e
      go false = interrupt-code-running M.device first next end e

  pub repair-code-idle : M.device.command.fill ≡ idle → (step (repair lba) M).state.device.command.code ≡ M.device.command.code
  repair-code-idle e = rw device-is (go (eqb (repair_report lba M.disk) 1))
    where
      go : (b : Bool) → (repaired_device b M.device).command.code ≡ M.device.command.code
      go true = interrupt-code-idle M.device e
      go false = interrupt-code-idle M.device e

-- ---- "With sound check bytes one flipped data bit is mended and two give 2."

-- the disk holds, at this LBA, the sector s with its check and some bits flipped
module _ (lba : ℕ) (M : Machine) (low : lba < M.device.visible) (s : List ℕ) (size : length s ≡ 512) (sound : stored lba M low ≡ check_of s) where
  pub one-flip : (q : ℕ) → q < 4096 → content lba M low ≡ flip s q → 512 * lba + 512 ≤ length M.disk.sectors
      → ((step (repair lba) M).seen.report ≡ 1) × (part (step (repair lba) M).state.disk.sectors (512 * lba) 512 ≡ s)
  one-flip q h e fits =
      let r = one-flip-repaired (stored lba M low) s sound size q h in
      let one : report_of (stored lba M low) (content lba M low) ≡ 1 = ap (report_of (stored lba M low)) e ∙ r.0 in (
        ap (λ o. o.report) (repair-seen lba M low) ∙ one,
        repaired-content lba M low one fits ∙ ap (repaired_sector (stored lba M low)) e ∙ r.1,
      )

  pub two-flips : (p q : ℕ) → p < 4096 → q < 4096 → (p ≡ q → ⊥) → content lba M low ≡ flip (flip s p) q
      → ((step (repair lba) M).seen.report ≡ 2) × ((step (repair lba) M).state.disk ≡ M.disk)
  two-flips p q h k ne e =
      let two : report_of (stored lba M low) (content lba M low) ≡ 2 = ap (report_of (stored lba M low)) e ∙ two-flips-report-2 (stored lba M low) s sound size p q h k ne in (
        ap (λ o. o.report) (repair-seen lba M low) ∙ two,
        (unaltered lba M low (λ one. omega (arith, one, two))).1,
      )

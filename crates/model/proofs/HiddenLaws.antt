-- No sector outside the current visible disk is ever written, and an effect writes only within its span.
use mathlib.Core.Path.{◌≡◌, refl, sym, ap, ◌∙◌}
use mathlib.Core.Bool.{Bool, true, false}
use mathlib.Core.Logic.{◌⊎◌, inl, inr}
use Prim.Native.Nat.{ℕ, zero, suc, ◌+◌, ◌-◌, ◌*◌, ◌≤◌, ◌<◌, min}
use native.Mathlib.Omega.{arith}
use mathlib.Core.List.{List}
use lib.ListN.{length, get_or, drop}
use lib.Dec.{eqb}
use borrow.Author.Tests.{ltb-true}
use lib.Seq.{sets}
use Rattle.wire.specs.Choice.{first_failed}
use Rattle.wire.specs.Numbers.{le, put}
use Rattle.wire.specs.Parts.{repeated}
use Rattle.sector_check.specs.Check.{check_of}
use Rattle.sector_check.specs.Repair.{repaired_sector}
use Rattle.sector_check.proofs.SectorLaws.{length-repaired}
use Rattle.wire.proofs.ChoiceLaws.{all_pass}
use Rattle.wire.proofs.NumbersLaws.{length-le, get_or_sets_before, get_or-sets-after}
use Rattle.wire.proofs.PartsLaws.{drop-sets-after, length-repeated}
use Rattle.model.specs.Sizes.{sector_size, check_size}
use Rattle.model.specs.Device.{Fill, idle, running, Device}
use Rattle.model.specs.Disk.{Disk, LongSector, sector_at, hidden_part}
use Rattle.model.specs.Fill.{Volume, write_sector}
use Rattle.model.specs.Repair.{repair_report, repaired_disk}
use Rattle.model.specs.Repair.{repair as repair_volume}
use Rattle.model.specs.Decide.{Writing, no_write, one_sector, new_fill, Decision, decide}
use Rattle.model.specs.Perform.{written, span_of}
use Rattle.model.specs.Machine.{Machine, held_bytes}
use Rattle.model.specs.Step.{Step, take, serve, give, work, owner, repair, save, power_on, checks, does, volume, served, serve_decided, repaired, powered_on, Outcome, step}
use Rattle.model.specs.Valid.{FillValid, SectorValid, MachineValid}
use Rattle.model.proofs.StepLaws.{step-done, step-refused, answers-numbered}
use Rattle.model.proofs.WorkLaws.{work-disk, work-idle}
use Rattle.model.proofs.ValidStep.{content-valid}
use Rattle.model.proofs.ValidRequest.{WritingValid, DecisionValid, decide-valid, request-held}

-- what is written is on the visible disk
pub span-visible : (d : Device) (w : Writing) → WritingValid d w → (span_of w).end ≤ d.visible
span-visible d no_write v = omega arith
span-visible d (one_sector lba x) v = v.0
span-visible d (new_fill first end sector) v = v.1

-- bytes stored at a place change nothing before and behind it
pub outside-stored : (bytes l : List ℕ) (at end i : ℕ) → at + length bytes ≤ end → (i < at) ⊎ (end ≤ i) → get_or (sets l at bytes) i 0 ≡ get_or l i 0
outside-stored bytes l at end i h (inl before) = get_or_sets_before bytes l at i before
outside-stored bytes l at end i h (inr behind) = get_or-sets-after bytes l at i (omega arith)

-- a write changes nothing outside its span, neither sectors ..
pub outside-span : (w : Writing) (v : Volume) → WritingValid v.device w → (i : ℕ)
    → (i < 512 * (span_of w).first) ⊎ (512 * (span_of w).end ≤ i) → get_or (written w v).disk.sectors i 0 ≡ get_or v.disk.sectors i 0
unfolding write_sector
outside-span no_write v k i h = refl
outside-span (one_sector lba x) v k i h =
    outside-stored x.content v.disk.sectors (512 * lba) (512 * suc lba) i (omega (arith, k.1.size)) h
outside-span (new_fill first end sector) v k i h = refl

-- .. nor check bytes
pub outside-check-bytes : (w : Writing) (v : Volume) (i : ℕ)
    → (i < 2 * (span_of w).first) ⊎ (2 * (span_of w).end ≤ i) → get_or (written w v).disk.check_area i 0 ≡ get_or v.disk.check_area i 0
unfolding write_sector put
outside-check-bytes no_write v i h = refl
outside-check-bytes (one_sector lba x) v i h =
    outside-stored (le 2 x.check) v.disk.check_area (2 * lba) (2 * suc lba) i (omega (arith, length-le 2 x.check)) h
outside-check-bytes (new_fill first end sector) v i h = refl

-- the two disks have the same hidden part
abbrev SameHidden : ℕ → Disk → Disk → Type 0
SameHidden visible after before = hidden_part visible after ≡ hidden_part visible before

-- bytes stored below V do not change the hidden part
stored-hidden : (disk : Disk) (bytes checks : List ℕ) (lba visible : ℕ) → sector_size * lba + length bytes ≤ sector_size * visible
    → check_size * lba + length checks ≤ check_size * visible
    → SameHidden visible (record { sectors = sets disk.sectors (sector_size * lba) bytes; check_area = sets disk.check_area (check_size * lba) checks }) disk
stored-hidden disk bytes checks lba visible h k =
    λ i. record {
      sectors = drop-sets-after bytes disk.sectors (sector_size * lba) (sector_size * visible) h i;
      check_area = drop-sets-after checks disk.check_area (check_size * lba) (check_size * visible) k i;
    }

written-hidden : (w : Writing) (v : Volume) (visible : ℕ) → WritingValid v.device w → v.device.visible ≡ visible → SameHidden visible (written w v).disk v.disk
unfolding write_sector put
written-hidden no_write v visible k s = refl
written-hidden (one_sector lba x) v visible k s =
    stored-hidden v.disk x.content (le check_size x.check) lba visible (omega (arith, k.0, k.1.size)) (omega (arith, k.0, length-le check_size x.check))
written-hidden (new_fill first end sector) v visible k s = refl

serve-hidden : (p : ℕ) (c : Decision) (M : Machine) → DecisionValid M.device c → SameHidden M.device.visible (serve_decided p c M).disk M.disk
unfolding serve_decided
serve-hidden p c M k = written-hidden c.effect.writes (record { device = c.device; disk = M.disk }) M.device.visible k.effect_valid.0 k.same_sizes.1

work-hidden : (n : ℕ) (M : Machine) → MachineValid M → SameHidden M.device.visible (step (work n) M).state.disk M.disk
work-hidden n M ok = go M.device.command.fill refl ok.device_valid.command_valid.fill_valid ok.sector_valid
  where
    go : (f : Fill) → M.device.command.fill ≡ f → FillValid M.device.visible f → SectorValid f M.sector
        → SameHidden M.device.visible (step (work n) M).state.disk M.disk
    go idle e v s = ap (hidden_part M.device.visible) (work-idle n M e).2
    go (running first next end) e v s =
        let k = min n (end - next) in
        let bytes = le check_size (check_of M.sector) in
        ap (hidden_part M.device.visible) (work-disk n M first next end e v.1 s.size)
        ∙ stored-hidden M.disk (repeated k M.sector) (repeated k bytes) next M.device.visible
        (rw (length-repeated k M.sector, s.size) (omega (arith, v.1, v.2)))
        (rw (length-repeated k bytes, length-le check_size (check_of M.sector)) (omega (arith, v.1, v.2)))

repair-hidden : (lba : ℕ) (M : Machine) → MachineValid M → lba < M.device.visible → SameHidden M.device.visible (repaired lba M).disk M.disk
unfolding repaired repair_volume
repair-hidden lba M ok h = go (eqb (repair_report lba M.disk) 1)
  where
    x : LongSector
    x = sector_at lba M.disk

    sector : List ℕ
    sector = repaired_sector x.check x.content

    size : length sector ≡ sector_size
    size = length-repaired x.check x.content ∙ (content-valid lba (volume M) (record { device_valid = ok.device_valid; disk_valid = ok.disk_valid }) h).size

    go : (b : Bool) → SameHidden M.device.visible (repaired_disk b lba M.disk) M.disk
    go true = λ i. record {
      sectors = drop-sets-after sector M.disk.sectors (sector_size * lba) (sector_size * M.device.visible) (omega (arith, h, size)) i;
      check_area = drop (check_size * M.device.visible) M.disk.check_area;
    }
    go false = refl

does-hidden : (x : Step) (M : Machine) → MachineValid M → first_failed (checks x M) ≡ 0 → SameHidden M.device.visible (does x M).disk M.disk
unfolding served powered_on
does-hidden (take p m) M ok e = refl
does-hidden (serve s) M ok e =
    let p = s.port in
    let pass = all_pass 8 (checks (serve s) M) (answers-numbered (serve s) M) e in
    let m = held_bytes (M.ports p) in
    serve-hidden p (decide s m M.device) M
    (decide-valid s m M.device ok.device_valid (request-held (M.ports p) pass.1.0 (ok.ports_valid p)))
does-hidden (give p m) M ok e = refl
does-hidden (work n) M ok e = ap (λ (o : Outcome Machine). hidden_part M.device.visible o.state.disk) (sym (step-done (work n) M e)) ∙ work-hidden n M ok
does-hidden (owner x) M ok e = refl
does-hidden (repair lba) M ok e =
    repair-hidden lba M ok (ltb-true lba M.device.visible (all_pass 8 (checks (repair lba) M) (answers-numbered (repair lba) M) e).0)
does-hidden (save image used) M ok e = refl
does-hidden (power_on image used) M ok e = refl

-- THEOREM: "No sector outside the visible disk of that moment is ever written; all of these keep their bytes."
pub step-hidden : (x : Step) (M : Machine) → MachineValid M → SameHidden M.device.visible (step x M).state.disk M.disk
step-hidden x M ok = go (first_failed (checks x M)) refl
  where
    go : (n : ℕ) → first_failed (checks x M) ≡ n → SameHidden M.device.visible (step x M).state.disk M.disk
    go zero e = rw (step-done x M e) (does-hidden x M ok e)
    go (suc n) e = rw (step-refused x M n e)

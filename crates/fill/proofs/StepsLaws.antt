-- A fill advanced by work: the definition's sector steps equal one change of the device and the sectors written one after the other.
use mathlib.Core.Path.{◌≡◌, refl, sym, ap, ◌∙◌}
use mathlib.Core.Bool.{Bool, true, false}
use Prim.Native.Nat.{ℕ, ◌+◌, ◌*◌, ◌≤◌, ◌<◌}
use native.Mathlib.Omega.{arith}
use native.Mathlib.Decide.{dec_lt}
use mathlib.Core.List.{List}
use lib.ListN.{length}
use lib.Dec.{eqb}
use borrow.Author.Tests.{eqb-true, eqb-false}
use Rattle.std.specs.Prelude.{if◌then◌else◌}
use Rattle.wire.specs.Bytes.{Bytes}
use Rattle.wire.specs.Numbers.{le}
use Rattle.wire.specs.Parts.{repeated}
use Rattle.wire.proofs.NumbersLaws.{length-le}
use Rattle.wire.proofs.PartsLaws.{length_part, length-repeated, sets-front}
use Rattle.sector_check.specs.Check.{check_of}
use Rattle.model.specs.Sizes.{sector_size, check_size}
use Rattle.model.specs.Disk.{Disk, HasSize}
use Rattle.model.specs.Device.{Fill, idle, running, Device, next_sector}
use Rattle.model.specs.Valid.{FillValid}
use Rattle.model.specs.Fill.{Volume, sector_step, iterate, remaining, work_count, work}
use Rattle.model.proofs.DiskSizes.{joined}
use Rattle.model.proofs.WorkLaws.{filled_disk, steps-device, steps-disk}
use Rattle.record.specs.declared.device as code
use Rattle.record.specs.DeviceMeaning.{as_fill, as_contents, history_of}
use Rattle.store.specs.Areas.{fill_place, private_size}
use Rattle.store.specs.Record.{Contents, decode, encode}
use Rattle.store.specs.Sound.{sound}
use Rattle.store.specs.Store.{fill_sector_of}
use Rattle.store.specs.Entries.{with_device, work_done}
use Rattle.store.proofs.SoundLaws.{sound-valid}
use Rattle.device_update.specs.Change.{Changed}
use Rattle.device_update.proofs.ChangeLaws.{changed-contents}
use Rattle.fill.specs.Moved.{fill_moved, moved_on}

-- ---- the definition's sector steps

-- no more sectors than are left
pub count_left : (n : ℕ) (f : Fill) → work_count n f ≤ remaining f
unfolding work_count
count_left n f = omega arith

-- k sector steps, if that many are left
module _ (sector : List ℕ) (v : Volume) (whole : length sector ≡ sector_size) where
  abbrev fill : Fill
  fill = v.device.command.fill

  steps-moved : (f : Fill) (k : ℕ) → fill ≡ f → k ≤ remaining f → (iterate k (sector_step sector) v).device ≡ (if eqb k 0 then v.device else fill_moved f k v.device)
  steps-moved idle k e h = let none : k ≡ 0 = omega arith in rw none
  steps-moved (running first next end) k e h = go (eqb k 0) refl
    where
      go : (b : Bool) → eqb k 0 ≡ b → (iterate k (sector_step sector) v).device ≡ (if b then v.device else fill_moved (running first next end) k v.device)
      go true t = rw (eqb-true k 0 t)
      go false t = let some = eqb-false k 0 t in let more : 0 < k = omega arith in steps-device first next end sector v e whole k more (omega arith)

  steps-written : (f : Fill) (k : ℕ) → fill ≡ f → k ≤ remaining f → (iterate k (sector_step sector) v).disk ≡ filled_disk (next_sector f) k sector v.disk
  unfolding repeated
  steps-written idle k e h = let none : k ≡ 0 = omega arith in rw none
  steps-written (running first next end) k e h = go (dec_lt 0 k)
    where
      go : Dec (0 < k) → (iterate k (sector_step sector) v).disk ≡ filled_disk next k sector v.disk
      go (yes p) = steps-disk first next end sector v e whole k (omega arith)
      go (no p) = let none : k ≡ 0 = omega arith in rw none

  -- THE LAW of the work step's device ..
  pub work-device : (n : ℕ) → (work n sector v).device ≡ moved_on (work_count n fill) v.device
  unfolding work
  work-device n = steps-moved fill (work_count n fill) refl (count_left n fill)

  -- .. and of its disk
  pub work-disk : (n : ℕ) → (work n sector v).disk ≡ filled_disk (next_sector fill) (work_count n fill) sector v.disk
  unfolding work
  work-disk n = steps-written fill (work_count n fill) refl (count_left n fill)

-- ---- on the bytes

-- the sectors that a budget allows are within the visible disk: "first ≤ next < end ≤ V"
pub sectors-fit : (n : ℕ) (f : Fill) (visible : ℕ) → FillValid visible f → next_sector f + work_count n f ≤ visible
unfolding work_count
sectors-fit n idle visible v = omega arith
sectors-fit n (running first next end) visible v = omega (arith, v)

sound-fit : (r : List ℕ) (n : ℕ) → Bytes r → sound r ≡ true → next_sector (decode r).device.command.fill + work_count n (decode r).device.command.fill ≤ (decode r).device.visible
sound-fit r n b s =
    sectors-fit n (decode r).device.command.fill (decode r).device.visible (sound-valid r b s).device.command_valid.fill_valid

module _ (r a : List ℕ) (disk : Disk) (n k : ℕ) (d e : code.Device.Device) (says : as_contents d (history_of r) ≡ decode r) (counted : k ≡ work_count n (as_fill d.command.fill)) where
  abbrev sector : List ℕ
  sector = fill_sector_of a

  same-fill : as_fill d.command.fill ≡ (decode r).device.command.fill
  same-fill = ap (λ (c : Contents). c.device.command.fill) says

  pub work-fits : Bytes r → sound r ≡ true → HasSize (decode r).device.visible disk
      → let end = next_sector (as_fill d.command.fill) + work_count n (as_fill d.command.fill) in
      (sector_size * end ≤ length disk.sectors) × (check_size * end ≤ length disk.check_area)
  work-fits b s size = let h = sound-fit r n b s in rw same-fill (omega (arith, h, size.0), omega (arith, h, size.1))

  pub worked-count : k ≡ (work_done r a disk n).count
  worked-count = counted ∙ ap (work_count n) same-fill

  pub worked-record : length sector ≡ sector_size → Changed (moved_on k) d e → encode (as_contents e (history_of r)) ≡ (work_done r a disk n).record_area
  worked-record whole change =
      let v : Volume = record { device = (decode r).device; disk = disk } in
      ap encode
      (changed-contents (moved_on k) d e (history_of r) (decode r) says change
      ∙ ap (λ (x : Device). with_device x (decode r)) (ap (λ (j : ℕ). moved_on j (decode r).device) worked-count ∙ sym (work-device sector v whole n)))

  pub worked-disk : length sector ≡ sector_size → filled_disk (next_sector (as_fill d.command.fill)) k sector disk ≡ (work_done r a disk n).disk
  worked-disk whole =
      let v : Volume = record { device = (decode r).device; disk = disk } in
      (λ i. filled_disk (next_sector (same-fill i)) (worked-count i) sector disk) ∙ sym (work-disk sector v whole n)

-- ---- the hidden sectors

-- THE LAW of the hidden sectors: work on the visible part, followed by the hidden bytes, is work on the whole disk
module _ (r a : List ℕ) (visible hidden : Disk) (n : ℕ) (whole : length a ≡ private_size) where
  abbrev on : Disk → Volume
  on disk = record { device = (decode r).device; disk = disk }

  sector-whole : length (fill_sector_of a) ≡ sector_size
  sector-whole = length_part a fill_place sector_size (omega (arith, whole))

  pub hidden-record : (work_done r a visible n).record_area ≡ (work_done r a (joined visible hidden) n).record_area
  hidden-record =
      ap (λ (x : Device). encode (with_device x (decode r)))
      (work-device (fill_sector_of a) (on visible) sector-whole n ∙ sym (work-device (fill_sector_of a) (on (joined visible hidden)) sector-whole n))

  pub hidden-disk : Bytes r → sound r ≡ true → HasSize (decode r).device.visible visible
      → joined (work_done r a visible n).disk hidden ≡ (work_done r a (joined visible hidden) n).disk
  hidden-disk b s size =
      let f = (decode r).device.command.fill in
      let k = work_count n f in
      let check = le check_size (check_of (fill_sector_of a)) in
      let h = sound-fit r n b s in
      let sectors-long : length (repeated k (fill_sector_of a)) ≡ k * sector_size = rw (length-repeated k (fill_sector_of a), sector-whole) in
      let checks-long : length (repeated k check) ≡ k * check_size = rw (length-repeated k check, length-le check_size (check_of (fill_sector_of a))) in
      ap (λ (x : Disk). joined x hidden) (work-disk (fill_sector_of a) (on visible) sector-whole n)
      ∙ (λ i. record {
        sectors = sym (sets-front (repeated k (fill_sector_of a)) visible.sectors hidden.sectors (sector_size * next_sector f) (omega (arith, h, size.0, sectors-long))) i;
        check_area = sym (sets-front (repeated k check) visible.check_area hidden.check_area (check_size * next_sector f) (omega (arith, h, size.1, checks-long))) i;
      })
      ∙ sym (work-disk (fill_sector_of a) (on (joined visible hidden)) sector-whole n)

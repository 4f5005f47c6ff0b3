-- Laws of the fill and the work step, in document 01's words: which places are written, how far the fill moves, what is counted.
use mathlib.Core.Path.{◌≡◌, refl, sym, ap, ◌∙◌}
use mathlib.Core.Bool.{Bool, true, false, ◌&&◌, and-false}
use mathlib.Core.Logic.{◌⊎◌, inl, inr}
use Prim.Native.Nat.{ℕ, zero, suc, ◌+◌, ◌-◌, ◌*◌, ◌≤◌, ◌<◌, min}
use native.Mathlib.Omega.{arith}
use native.Mathlib.Decide.{dec_lt}
use native.Mathlib.Nat.{add-suc}
use native.Mathlib.Numerals.{add-one}
use mathlib.Core.List.{List, append-nil}
use lib.ListN.{length, get_or}
use lib.Seq.{sets}
use lib.Dec.{eqb}
use borrow.Author.Tests.{eq-eqb, ne_eqb}
use Rattle.std.specs.Prelude.{if◌then◌else◌}
use Rattle.wire.specs.Numbers.{le, get, put}
use Rattle.wire.specs.Parts.{part, repeated}
use Rattle.wire.proofs.ChoiceLaws.{and_both}
use Rattle.wire.proofs.NumbersLaws.{length-le, get_or_sets_before, get_or-sets-after}
use Rattle.wire.proofs.PartsLaws.{part_same, part-part, part-repeated, length-repeated, repeat-more, part-number}
use Rattle.model.specs.Sizes.{sector_size, check_size}
use Rattle.sector_check.specs.Check.{check_of}
use Rattle.sector_check.proofs.SectorLaws.{check-fits}
use Rattle.model.specs.Disk.{Disk, checked, with_sector}
use Rattle.model.specs.Device.{Fill, idle, running, Device}
use Rattle.model.specs.Update.{with_fill, with_initialized}
use Rattle.model.specs.Fill.{Volume, running_code, write_sector, whole_disk, advanced, fill_step, sector_step, iterate, work_count}
use Rattle.model.specs.Fill.{work as work_volume}
use Rattle.model.specs.Machine.{Machine, while_running}
use Rattle.model.specs.Step.{work, Outcome, step, volume, worked}

-- a disk with k sectors of the same content from next on, each with its check bytes
abbrev pub filled_disk : ℕ → ℕ → List ℕ → Disk → Disk
filled_disk next k sector disk =
    record {
      sectors = sets disk.sectors (sector_size * next) (repeated k sector);
      check_area = sets disk.check_area (check_size * next) (repeated k (le check_size (check_of sector)));
    }

-- the volume v with its fill moved on by k sectors
moved : ℕ → ℕ → ℕ → List ℕ → Volume → ℕ → Volume
moved first next end sector v k =
    record { device = advanced first (next + k) end (with_initialized false v.device); disk = filled_disk next k sector v.disk }

-- while sectors are left, the fill continues
advanced-runs : (first next end : ℕ) (d : Device) → next < end → advanced first next end d ≡ with_fill (running first next end) running_code d
advanced-runs first next end d h = rw (ne_eqb next end (λ e. omega arith))

-- a fill that has moved to next continues from there
advanced-again : (first next end : ℕ) (d : Device)
    → advanced first (suc next) end (with_initialized false (with_fill (running first next end) running_code (with_initialized false d)))
    ≡ advanced first (suc next) end (with_initialized false d)
advanced-again first next end d = go (eqb (suc next) end)
  where
    go : (b : Bool)
        → (if b
        then with_initialized (whole_disk first end d.visible) (with_fill idle 0x0000 (with_initialized false (with_fill (running first next end) running_code (with_initialized false d))))
        else with_fill (running first (suc next) end) running_code (with_initialized false (with_fill (running first next end) running_code (with_initialized false d))))
        ≡ (if b
        then with_initialized (whole_disk first end d.visible) (with_fill idle 0x0000 (with_initialized false d))
        else with_fill (running first (suc next) end) running_code (with_initialized false d))
    go true = refl
    go false = refl

-- one more sector on the disk
disk-again : (disk : Disk) (sector : List ℕ) (next k : ℕ) → length sector ≡ sector_size
    → with_sector (next + k) (checked sector) (filled_disk next k sector disk) ≡ filled_disk next (suc k) sector disk
unfolding put
disk-again disk sector next k h =
    let bytes = le check_size (check_of sector) in
    let sector-place : sector_size * (next + k) ≡ sector_size * next + sector_size * k = omega arith in
    let check-place : check_size * (next + k) ≡ check_size * next + check_size * k = omega arith in
    rw (sector-place, check-place)
    (λ i. record {
      sectors = repeat-more disk.sectors sector (sector_size * next) sector_size k h i;
      check_area = repeat-more disk.check_area bytes (check_size * next) check_size k (length-le check_size (check_of sector)) i;
    })

module _ (first next end : ℕ) (sector : List ℕ) (v : Volume) (runs : v.device.command.fill ≡ running first next end) (whole : length sector ≡ sector_size) where
  -- the first sector
  first-sector : sector_step sector v ≡ moved first next end sector v 1
  unfolding sector_step write_sector repeated moved put
  first-sector =
      ap (λ (f : Fill). fill_step f sector v) runs
      ∙ (λ i. record {
        device = advanced first (sym (add-one next) i) end (with_initialized false v.device);
        disk =
            record {
              sectors = sets v.disk.sectors (sector_size * next) (sym (append-nil sector) i);
              check_area = sets v.disk.check_area (check_size * next) (sym (append-nil (le check_size (check_of sector))) i);
            };
      })

  -- one more sector, while the fill still runs
  next-sector : (k : ℕ) → next + k < end → sector_step sector (moved first next end sector v k) ≡ moved first next end sector v (suc k)
  unfolding sector_step write_sector moved
  next-sector k h =
      rw (advanced-runs first (next + k) end (with_initialized false v.device) h, add-suc next k)
      (λ i. record { device = advanced-again first (next + k) end v.device i; disk = disk-again v.disk sector next k whole i })

  -- "writes the fill's sector to the k places from next on and moves next by k"
  stepped-more : (k : ℕ) → next + suc k ≤ end → iterate (suc k) (sector_step sector) v ≡ moved first next end sector v (suc k)
  stepped-more zero h = first-sector
  stepped-more (suc k) h = ap (sector_step sector) (stepped-more k (omega arith)) ∙ next-sector (suc k) (omega arith)

  -- k steps in all, for any k above 0
  stepped : (k : ℕ) → 0 < k → next + k ≤ end → iterate k (sector_step sector) v ≡ moved first next end sector v k
  stepped zero p h = absurd (omega arith)
  stepped (suc k) p h = stepped-more k h

  pub steps-device : (k : ℕ) → 0 < k → next + k ≤ end → (iterate k (sector_step sector) v).device ≡ advanced first (next + k) end (with_initialized false v.device)
  unfolding moved
  steps-device k p h = ap (λ (w : Volume). w.device) (stepped k p h)

  pub steps-disk : (k : ℕ) → next + k ≤ end → (iterate k (sector_step sector) v).disk ≡ filled_disk next k sector v.disk
  unfolding moved repeated
  steps-disk zero h = refl
  steps-disk (suc k) h = ap (λ (w : Volume). w.disk) (stepped-more k h)

-- ---- the work step

-- how far a fill has got: to next, or to its end if it is over
abbrev pub position : ℕ → Fill → ℕ
position end idle = end
position end (running first next e) = next

-- a budget or a fill that allows no sector leaves everything unchanged
work-still : (n : ℕ) (M : Machine) → work_count n M.device.command.fill ≡ 0
    → ((step (work n) M).seen.count ≡ 0) × ((step (work n) M).state.device ≡ M.device) × ((step (work n) M).state.disk ≡ M.disk)
unfolding step worked work_volume
work-still n M e = rw e (refl, refl, refl)

-- the ports are unchanged
pub work-ports : (n : ℕ) (M : Machine) → (step (work n) M).state.ports ≡ M.ports
unfolding step worked
work-ports n M = refl

-- "None running, or n = 0: reports 0"
pub work-idle : (n : ℕ) (M : Machine) → M.device.command.fill ≡ idle
    → ((step (work n) M).seen.count ≡ 0) × ((step (work n) M).state.device ≡ M.device) × ((step (work n) M).state.disk ≡ M.disk)
work-idle n M e = work-still n M (unfold work_count in (rw e (omega arith)))

pub work-zero : (M : Machine)
    → ((step (work 0) M).seen.count ≡ 0) × ((step (work 0) M).state.device ≡ M.device) × ((step (work 0) M).state.disk ≡ M.disk)
work-zero M = work-still 0 M (unfold work_count in (omega arith))

-- each of k places holds the run that was stored in them
place-holds : (l run : List ℕ) (at size k j : ℕ) → length run ≡ size → j < k → size * j + size ≤ k * size → at + k * size ≤ length l
    → part (sets l at (repeated k run)) (at + size * j) size ≡ run
place-holds l run at size k j whole h within fits =
    let all = sets l at (repeated k run) in
    let sized : length (repeated k run) ≡ k * size = rw (length-repeated k run, whole) in
    sym (part-part all at (k * size) (size * j) size within)
    ∙ ap (λ (p : List ℕ). part p (size * j) size) (part_same (repeated k run) l at (k * size) sized fits)
    ∙ part-repeated k run size j whole h

module _ (n : ℕ) (M : Machine) (first next end : ℕ) (runs : M.device.command.fill ≡ running first next end) (order : next < end) (whole : length M.sector ≡ sector_size) where
  abbrev after : Outcome Machine
  after = step (work n) M

  -- "k is the lesser of n and end - next"
  abbrev k : ℕ
  k = min n (end - next)

  pub work-count : after.seen.count ≡ k
  unfolding step work_count
  work-count = rw runs

  counted : work_count n M.device.command.fill ≡ k
  unfolding work_count
  counted = rw runs

  -- "writes the fill's sector to the k places from next on"; everything else is unchanged
  pub work-disk : after.state.disk ≡ filled_disk next k M.sector M.disk
  unfolding step worked work_volume
  work-disk = ap (λ (j : ℕ). (iterate j (sector_step M.sector) (volume M)).disk) counted ∙ steps-disk first next end M.sector (volume M) runs whole k (omega arith)

  -- each of the k places holds the sector ..
  pub work-places : (j : ℕ) → j < k → 512 * end ≤ length M.disk.sectors → part after.state.disk.sectors (512 * (next + j)) 512 ≡ M.sector
  work-places j h fits =
      let at : 512 * (next + j) ≡ 512 * next + 512 * j = omega arith in
      rw (work-disk, at) (place-holds M.disk.sectors M.sector (512 * next) 512 k j whole h (omega arith) (omega arith))

  -- .. and its check bytes: "Every ordinary write sets them."
  pub work-check-bytes : (j : ℕ) → j < k → 2 * end ≤ length M.disk.check_area → get 2 after.state.disk.check_area (2 * (next + j)) ≡ check_of M.sector
  work-check-bytes j h fits =
      let at : 2 * (next + j) ≡ 2 * next + 2 * j = omega arith in
      let n = check_of M.sector in
      rw (work-disk, at)
      (part-number 2 _ (2 * next + 2 * j) n (check-fits M.sector)
      (place-holds M.disk.check_area (le 2 n) (2 * next) 2 k j (length-le 2 n) h (omega arith) (omega arith)))

  -- every other byte is unchanged
  pub work-keeps-below : (i : ℕ) → i < 512 * next → get_or after.state.disk.sectors i 0 ≡ get_or M.disk.sectors i 0
  work-keeps-below i h = rw work-disk (get_or_sets_before (repeated k M.sector) M.disk.sectors (512 * next) i h)

  pub work-keeps-above : (i : ℕ) → 512 * (next + k) ≤ i → get_or after.state.disk.sectors i 0 ≡ get_or M.disk.sectors i 0
  work-keeps-above i h =
      rw work-disk
      (get_or-sets-after (repeated k M.sector) M.disk.sectors (512 * next) i (rw (length-repeated k M.sector, whole) (omega arith)))

  pub work-keeps-check-bytes : (i : ℕ) → (i < 2 * next) ⊎ (2 * (next + k) ≤ i) → get_or after.state.disk.check_area i 0 ≡ get_or M.disk.check_area i 0
  work-keeps-check-bytes i (inl h) = rw work-disk (get_or_sets_before (repeated k (le 2 (check_of M.sector))) M.disk.check_area (2 * next) i h)
  work-keeps-check-bytes i (inr h) =
      let bytes = le 2 (check_of M.sector) in
      rw work-disk
      (get_or-sets-after (repeated k bytes) M.disk.check_area (2 * next) i (rw (length-repeated k bytes, length-le 2 (check_of M.sector)) (omega arith)))

  device-after : 0 < k → after.state.device ≡ advanced first (next + k) end (with_initialized false M.device)
  unfolding step worked work_volume moved
  device-after h =
      ap (λ (j : ℕ). (iterate j (sector_step M.sector) (volume M)).device) counted
      ∙ ap (λ (v : Volume). v.device) (stepped first next end M.sector (volume M) runs whole k h (omega arith))

  -- ".. and moves next by k"; a sector written clears the flag
  pub work-moves : 0 < k → next + k < end → after.state.device ≡ with_fill (running first (next + k) end) running_code (with_initialized false M.device)
  work-moves p h = device-after p ∙ advanced-runs first (next + k) end (with_initialized false M.device) h

  -- a fill that still runs keeps its sector
  pub work-sector : 0 < k → next + k < end → after.state.sector ≡ M.sector
  unfolding step worked
  work-sector p h = ap (λ (d : Device). while_running d.command.fill M.sector) (work-moves p h)

  -- "at end the fill is over": "its last sector stores 0000h"; the flag is "set when a fill from 0 to the last user LBA ends"
  pub work-ends : end ≤ next + n → after.state.device ≡ with_initialized (whole_disk first end M.device.visible) (with_fill idle 0x0000 M.device)
  work-ends h =
      device-after (omega arith)
      ∙ rw (eq-eqb (next + k) end (omega arith))

  -- The flag is "set when a fill from 0 to the last user LBA ends", and only then.
  flag-ends : end ≤ next + n → after.state.device.initialized ≡ (eqb first 0 && eqb end M.device.visible)
  flag-ends h = ap (λ (d : Device). d.initialized) (work-ends h)

  pub whole-fill-sets : end ≤ next + n → first ≡ 0 → end ≡ M.device.visible → after.state.device.initialized ≡ true
  whole-fill-sets h low high = flag-ends h ∙ and_both (eqb first 0) (eqb end M.device.visible) (eq-eqb first 0 low) (eq-eqb end M.device.visible high)

  pub later-fill-clears : end ≤ next + n → (first ≡ 0 → ⊥) → after.state.device.initialized ≡ false
  later-fill-clears h low = flag-ends h ∙ rw (ne_eqb first 0 low)

  pub shorter-fill-clears : end ≤ next + n → (end ≡ M.device.visible → ⊥) → after.state.device.initialized ≡ false
  shorter-fill-clears h high = flag-ends h ∙ rw (ne_eqb end M.device.visible high) (and-false (eqb first 0))

  -- "A work that invents its count: it equals the sectors by which the fill moved."
  pub work-count-moved : after.seen.count ≡ position end after.state.device.command.fill - next
  work-count-moved = work-count ∙ go (dec_lt 0 k) (dec_lt (next + k) end)
    where
      go : Dec (0 < k) → Dec (next + k < end) → k ≡ position end after.state.device.command.fill - next
      go (yes p) (yes q) = rw (work-moves p q) (omega arith)
      go (yes p) (no q) = rw (work-ends (omega arith)) (omega arith)
      go (no p) q = rw ((work-still n M (counted ∙ omega arith)).1, runs) (omega arith)

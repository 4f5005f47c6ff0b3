-- The limits of document 01, as numbers.
use mathlib.Core.Path.{◌≡◌, refl}
use mathlib.Core.Bool.{true, false, and-false}
use mathlib.Core.Logic.{◌↔◌}
use Prim.Native.Nat.{ℕ, ◌+◌, ◌*◌, ◌/◌, ◌%◌, ◌≤◌, ◌<◌}
use native.Mathlib.Omega.{arith}
use mathlib.Core.List.{List}
use lib.ListN.{length}
use lib.Dec.{eqb, ltb}
use borrow.Author.Tests.{eqb-true, eq-eqb, lt-leb, le-leb}
use Rattle.wire.specs.Choice.{between}
use Rattle.wire.proofs.ChoiceLaws.{and_left, and_right, between-true, between-within}
use Rattle.model.specs.Sizes.{native_limit, entry_size, entry_limit}
use Rattle.model.specs.Image.{entries, readable, same_disk, has_room, whole_sectors}
use Rattle.model.specs.Device.{Fill, idle, running, Device}
use Rattle.model.specs.Fill.{work_count}
use Rattle.model.specs.Valid.{FillValid, Valid}
use Rattle.model.specs.Machine.{Machine}
use Rattle.model.specs.Step.{save}
use Rattle.model.proofs.RefusalLaws.{answer_of, save-full}
use Rattle.model.proofs.ImageLaws.{readable-parts}

-- "power-on: not 1 to 65,536 whole sectors"; W-207: "Raise the native limit to 16,777,216 sectors."
pub disk-sizes : (whole_sectors 512 ≡ true) × (whole_sectors (512 * 65537) ≡ true) × (whole_sectors (512 * 16777216) ≡ true)
disk-sizes = (refl, refl, refl)

pub disk-sizes-refused : (whole_sectors 0 ≡ false) × (whole_sectors 513 ≡ false) × (whole_sectors (512 * 16777217) ≡ false)
disk-sizes-refused = (refl, refl, refl)

-- .. so the disk has 512 to 8,589,934,592 bytes ("Two makers map 8 GiB"), a multiple of 512
pub whole-sectors : (n : ℕ) → (whole_sectors n ≡ true) ↔ ((n % 512 ≡ 0) × (512 ≤ n) × (n ≤ 8589934592))
whole-sectors n = (
  λ e.
      let multiple = eqb-true (n % 512) 0 (and_left (eqb (n % 512) 0) (between 1 (n / 512) native_limit) e) in
      let within = between-true 1 (n / 512) native_limit (and_right (eqb (n % 512) 0) (between 1 (n / 512) native_limit) e) in
      (multiple, omega (arith, within.0), omega (arith, multiple, within.1)),
  λ k. rw (eq-eqb (n % 512) 0 k.0) (between-within 1 (n / 512) native_limit (omega (arith, k.1)) (omega (arith, k.2))),
)

-- .. and a work writes at most 16,777,216 sectors, whatever its n
work-within : (n : ℕ) (f : Fill) (v : ℕ) → FillValid v f → work_count n f ≤ v
unfolding work_count
work-within n idle v ok = omega arith
work-within n (running first next end) v ok = omega (arith, ok)

pub work-most : (n : ℕ) (d : Device) → Valid d → work_count n d.command.fill ≤ 16777216
work-most n d v = omega (arith, work-within n d.command.fill d.visible v.command_valid.fill_valid, v.sizes)

-- "The used length is a multiple of 560, at most 65,520"
pub readable-length : (image : List ℕ) (used : ℕ) → readable image used ≡ true → (used % 560 ≡ 0) × (used ≤ 65520)
readable-length image used h = let r = readable-parts image used h in (r.multiple, omega (arith, r.most))

-- "image has 117 entries, or its buffer lacks 560 more bytes"
pub room-full : (image : List ℕ) → has_room image 65520 ≡ false
room-full image = refl

pub room-last : (image : List ℕ) → 65520 ≤ length image → has_room image 64960 ≡ true
room-last image h = rw (le-leb 65520 (length image) h)

pub room-short : (image : List ℕ) (used : ℕ) → length image < used + 560 → has_room image used ≡ false
room-short image used h = rw (lt-leb (used + entry_size) (length image) h) (and-false (ltb (entries used) entry_limit))

pub save-at-limit : (image : List ℕ) (M : Machine) → 65520 ≤ length image → readable image 65520 ≡ true → same_disk M.device.native image 65520 ≡ true
    → answer_of (save image 65520) M ≡ 8
save-at-limit image M fits r d = save-full image 65520 M fits r d (room-full image)

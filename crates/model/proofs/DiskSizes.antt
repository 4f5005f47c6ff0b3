-- Disks by their sizes, two check bytes for each sector of 512, and in parts.
use mathlib.Core.Path.{◌≡◌}
use mathlib.Core.Bool.{true}
use Prim.Native.Nat.{ℕ, ◌*◌, ◌/◌, ◌%◌, ◌≤◌}
use native.Mathlib.Omega.{arith}
use mathlib.Core.List.{◌++◌}
use lib.ListN.{length}
use lib.Dec.{eqb}
use borrow.Author.Tests.{eq-eqb}
use Rattle.wire.specs.Choice.{between}
use Rattle.wire.proofs.ChoiceLaws.{and_both, between-within}
use Rattle.model.specs.Sizes.{sector_size, check_size, native_limit}
use Rattle.model.specs.Disk.{Disk, disk_of, native_size, HasSize}
use Rattle.model.specs.Image.{whole_sectors, well_sized}

-- a disk in two parts, as it is cut at V
abbrev pub joined : Disk → Disk → Disk
joined front back = disk_of (front.sectors ++ back.sectors) (front.check_area ++ back.check_area)

abbrev pub SameSize : Disk → Disk → Type 0
SameSize a b = (length a.sectors ≡ length b.sectors) × (length a.check_area ≡ length b.check_area)

pub native-size : (n : ℕ) (disk : Disk) → HasSize n disk → native_size disk ≡ n
native-size n disk e = omega (arith, e.0)

-- a disk of 1 to 16,777,216 sectors passes power-on's test
pub well-sized : (n : ℕ) (disk : Disk) → HasSize n disk → 1 ≤ n → n ≤ native_limit → well_sized disk ≡ true
well-sized n disk e some most =
    let size = length disk.sectors in
    let count = native-size n disk e in
    and_both (whole_sectors size) (eqb (length disk.check_area) (check_size * native_size disk))
    (and_both (eqb (size % sector_size) 0) (between 1 (size / sector_size) native_limit)
    (eq-eqb (size % sector_size) 0 (omega (arith, e.0)))
    (between-within 1 (size / sector_size) native_limit (omega arith) (omega arith)))
    (eq-eqb (length disk.check_area) (check_size * native_size disk) (omega (arith, e.1)))

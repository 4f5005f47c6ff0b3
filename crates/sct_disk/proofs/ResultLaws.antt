-- The results of work and repair, taken apart again into the answer and what is reported.
use Rattle.std.specs.Prelude.{if◌then◌else◌}
use mathlib.Core.Path.{◌≡◌}
use mathlib.Core.Bool.{Bool, true, false}
use mathlib.Core.List.{List}
use Prim.Native.Nat.{ℕ, zero, suc, ◌/◌, ◌%◌, ◌≤◌, ◌<◌}
use native.Mathlib.Omega.{arith}
use lib.Dec.{eqb}
use Rattle.wire.specs.Choice.{first_failed, if_passed}
use Rattle.sector_check.specs.Check.{check_of}
use Rattle.sector_check.specs.Repair.{difference, report_of}
use Rattle.model.specs.Disk.{Disk, LongSector, sector_at}
use Rattle.model.specs.Fill.{work_count}
use Rattle.store.specs.Entries.{work_checks, work_entry, work_bytes, repair_checks, repair_entry, repair_bytes}
use Rattle.sct_disk.specs.Result.{result_of}

-- no more sectors are counted than the budget
count-within : (r a : List ℕ) (disk : Disk) (n : ℕ) → (work_bytes r a disk n).count ≤ n
unfolding work_bytes work_count
count-within r a disk n = go (first_failed (work_checks r a disk))
  where
    go : (k : ℕ) → (if_passed k (work_entry r a disk n).done ((work_entry r a disk n).refused k)).count ≤ n
    go zero = omega arith
    go (suc k) = omega arith

-- THEOREM: with an n of 32 bits, bits 32 to 63 of the result are the answer, and bits 0 to 31 the count.
pub work-result : (r a : List ℕ) (disk : Disk) (n result : ℕ) → n < 4294967296
    → result ≡ result_of (work_bytes r a disk n).answer (work_bytes r a disk n).count
    → (result / 4294967296 ≡ (work_bytes r a disk n).answer) × (result % 4294967296 ≡ (work_bytes r a disk n).count)
work-result r a disk n result h e = let within = count-within r a disk n in (rw e (omega (arith, within)), rw e (omega (arith, within)))

-- a report is 0, 1 or 2
report-within : (r : List ℕ) (disk : Disk) (lba : ℕ) → (repair_bytes r disk lba).report ≤ 2
unfolding repair_bytes report_of
report-within r disk lba = go (first_failed (repair_checks r disk lba))
  where
    x : LongSector
    x = sector_at lba disk

    either : (a b : Bool) → (if a then 0 else if b then 1 else 2) ≤ 2
    either true b = omega arith
    either false true = omega arith
    either false false = omega arith

    go : (k : ℕ) → (if_passed k (repair_entry r disk lba).done ((repair_entry r disk lba).refused k)).report ≤ 2
    go zero = either (eqb x.check (check_of x.content)) (eqb (difference x.check x.content / 4096) 1)
    go (suc k) = omega arith

-- THEOREM: bits 32 to 63 of the result are the answer, and bits 0 to 31 the report.
pub repair-result : (r : List ℕ) (disk : Disk) (lba result : ℕ) → result ≡ result_of (repair_bytes r disk lba).answer (repair_bytes r disk lba).report
    → (result / 4294967296 ≡ (repair_bytes r disk lba).answer) × (result % 4294967296 ≡ (repair_bytes r disk lba).report)
repair-result r disk lba result e = let within = report-within r disk lba in (rw e (omega (arith, within)), rw e (omega (arith, within)))

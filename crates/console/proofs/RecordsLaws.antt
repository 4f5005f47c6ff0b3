-- Laws of records: reads in sequence return the whole records, then the stray bytes.
use mathlib.Core.Path.{◌≡◌}
use Prim.Native.Nat.{ℕ, ◌+◌, ◌*◌, ◌≤◌, ◌<◌}
use native.Mathlib.Nat.{div-add-mod, mod-lt, mul-le-mul_left}
use native.Mathlib.Omega.{arith}
use borrow.Author.Tests.{ne_eqb, lt-ltb, le-ltb}
use lib.Dec.{eqb}
use Rattle.std.specs.Prelude.{if◌then◌else◌}
use Rattle.console.specs.declared.input.Arrival.TheVariants.{Whole, Cut, End}
use Rattle.console.specs.Records.{whole_records, stray_bytes, brought, arrival_of}

module _ (size bytes : ℕ) (some : 0 < size) where
  pub all-bytes : size * whole_records size bytes + stray_bytes size bytes ≡ bytes
  all-bytes = div-add-mod bytes size

  pub few-stray : stray_bytes size bytes < size
  few-stray = mod-lt bytes some

  -- each read up to the last whole record returns a whole one
  pub reads_whole : (k : ℕ) → k < whole_records size bytes → arrival_of size (brought size bytes k) ≡ Whole
  reads_whole k h =
      let room : size * (k + 1) ≤ size * whole_records size bytes = mul-le-mul_left size (omega arith) in
      let all = all-bytes in
      let full : brought size bytes k ≡ size = omega arith in
      rw (full, ne_eqb size 0 (omega arith), le-ltb size size (omega arith))

  -- and the read after it returns the stray bytes: a part of a record, or nothing
  pub read-after : arrival_of size (brought size bytes (whole_records size bytes)) ≡ (if eqb (stray_bytes size bytes) 0 then End else Cut)
  read-after =
      let all = all-bytes in
      let few = few-stray in
      let rest : brought size bytes (whole_records size bytes) ≡ stray_bytes size bytes = omega arith in
      rw (rest, lt-ltb (stray_bytes size bytes) size few)

-- A transfer is read, as the table is, or written.
use mathlib.Core.Path.{◌≡◌, refl}
use mathlib.Core.Bool.{not}
use Prim.Native.Nat.{ℕ}
use Rattle.model.specs.Device.{table, fill_data, read_long, write_long}
use Rattle.model.specs.Registers.{Direction, read, write}
use Rattle.model.specs.Decide.{moves}

pub fill-written : (dir : Direction) (first end : ℕ) → not (moves dir table) ≡ moves dir (fill_data first end)
fill-written read first end = refl
fill-written write first end = refl

pub long-read : (dir : Direction) (lba : ℕ) → moves dir table ≡ moves dir (read_long lba)
long-read read lba = refl
long-read write lba = refl

pub long-written : (dir : Direction) (lba : ℕ) → not (moves dir table) ≡ moves dir (write_long lba)
long-written read lba = refl
long-written write lba = refl

use mathlib.Core.Path.{ap}
use mathlib.Core.Bool.{◌&&◌}
use Prim.Native.Nat.{ℕ, ◌*◌, ◌≤◌}
use native.Mathlib.Omega.{arith}
use lib.Dec.{eqb}
use Rattle.model.specs.Sizes.{sector_size, check_size, native_limit}
use Rattle.store.proofs.SoundLaws.{sound-parts}
use Rattle.refusals.proofs.CheckLaws.{native-limit}
use Rattle.refusals.proofs.refusal.is_disk.Goals as goal
use Rattle.refusals.proofs.refusal.is_disk.Goals.{After-native_at-native}

pub native_at-native-requires : goal.native_at-native-requires
native_at-native-requires c = (sound-parts c.args.device.now c.requires).size

bounded : (c : After-native_at-native) → c.native_at-native.result ≤ native_limit
bounded c =
    rw c.native_at-native.ensures (native-limit c.args.device.now (λ i. omega (arith, c.shared_slice_known-1.given i)) c.requires)

pub returns : goal.returns
returns c =
    let a = c.args in
    ap (λ (n : ℕ). eqb a.disk_len (sector_size * n) && eqb a.check_len (check_size * n)) c.native_at-native.ensures

pub overflow_mul-result : goal.overflow_mul-result
overflow_mul-result c = omega (arith, bounded (goal.at.overflow_mul-result c).After-native_at-native)

pub overflow_mul-result-2 : goal.overflow_mul-result-2
overflow_mul-result-2 c = omega (arith, bounded (goal.at.overflow_mul-result-2 c).After-native_at-native)

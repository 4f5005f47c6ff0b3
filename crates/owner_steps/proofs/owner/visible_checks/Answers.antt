use mathlib.Core.Path.{ap}
use Prim.Native.Nat.{ℕ}
use Rattle.store.proofs.SoundLaws.{sound-parts}
use Rattle.wire.proofs.ChoiceLaws.{told}
use Rattle.wire.specs.Choice.{between}
use Rattle.owner_steps.proofs.owner.visible_checks.Goals as goal

pub returns-then-not-sound : goal.returns-then-not-sound
returns-then-not-sound c = rw (told c.sound.ensures c.if-not-sound.true)

pub native_at-native-requires : goal.native_at-native-requires
native_at-native-requires c = (sound-parts c.args.device.now (told c.sound.ensures c.if-not-sound.false)).size

pub returns-then-not-v-native : goal.returns-then-not-v-native
returns-then-not-v-native c =
    rw (told c.sound.ensures c.if-not-sound.false, told (ap (λ (n : ℕ). between 1 c.args.v n) c.native_at-native.ensures) c.if-not-v-native.true)

pub returns : goal.returns
returns c =
    rw (told c.sound.ensures c.if-not-sound.false, told (ap (λ (n : ℕ). between 1 c.args.v n) c.native_at-native.ensures) c.if-not-v-native.false)

use mathlib.Core.Path.{refl}
use native.Mathlib.Omega.{arith}
use Rattle.model.specs.Owner.{set_lock}
use Rattle.store.proofs.SoundLaws.{sound-parts}
use Rattle.record.specs.DeviceMeaning.{history_of}
use Rattle.record_write.proofs.FramedLaws.{sound-framed}
use Rattle.device_update.proofs.ChangeLaws.{four-slots}
use Rattle.wire.proofs.ChoiceLaws.{told}
use Rattle.owner_steps.proofs.OwnerStepLaws.{owner-written}
use Rattle.owner_steps.proofs.owner.put_lock.Goals as goal

pub returns-then-not-sound : goal.returns-then-not-sound
returns-then-not-sound c = rw (told c.sound.ensures c.if-not-sound.true) record {
  value = refl;
  device = refl;
}

pub decode-d-requires : goal.decode-d-requires
decode-d-requires c = (sound-parts c.args.device.now (told c.sound.ensures c.if-not-sound.false)).size

pub set_lock-e-requires : goal.set_lock-e-requires
set_lock-e-requires c =
    four-slots c.decode-d.result (history_of c.args.device.now) c.args.device.now c.decode-d.ensures

pub write-requires : goal.write-requires
write-requires c =
    sound-framed c.args.device.now (λ i. omega (arith, c.slice_known-1.given i)) (told c.sound.ensures c.if-not-sound.false)

pub returns : goal.returns
returns c =
    rw (told c.sound.ensures c.if-not-sound.false, c.write.ensures.device_after)
    record {
      value = refl;
      device = owner-written (set_lock c.args.locked) c.args.device.now c.decode-d.result c.set_lock-e.result c.decode-d.ensures c.set_lock-e.ensures;
    }

use mathlib.Core.Path.{◌∙◌, ap}
use Prim.Native.Nat.{ℕ}
use Rattle.wire.specs.Choice.{first_failed}
use Rattle.model.specs.Image.{save_checks}
use Rattle.store.proofs.SoundLaws.{sound-parts}
use Rattle.wire.proofs.ChoiceLaws.{told}
use Rattle.image_steps.proofs.images.save_checks.Goals as goal

pub returns-then-not-sound : goal.returns-then-not-sound
returns-then-not-sound c = rw (told c.sound.ensures c.if-not-sound.true)

pub native_at-requires : goal.native_at-requires
native_at-requires c = (sound-parts c.args.device.now (told c.sound.ensures c.if-not-sound.false)).size

pub returns : goal.returns
returns c =
    rw (told c.sound.ensures c.if-not-sound.false) (c.save_checks.ensures ∙ ap (λ (n : ℕ). first_failed (save_checks n c.args.image.now c.args.used)) c.native_at.ensures)

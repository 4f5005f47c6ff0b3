use native.Mathlib.Omega.{arith}
use borrow.Author.Tests.{ne_eqb}
use Rattle.store.specs.Sound.{sound}
use Rattle.record_check.proofs.SoundnessLaws.{tests-sound}
use Rattle.record_check.proofs.whole.sound.Goals as goal

pub returns-then-device-ne-RECORD : goal.returns-then-device-ne-RECORD
unfolding sound
returns-then-device-ne-RECORD c = rw (ne_eqb _ _ c.if-device-ne-RECORD.true)

pub returns : goal.returns
returns c =
    let r = c.args.device.now in
    rw (c.spare_zero.ensures, c.flags_named.ensures, c.fill_named.ensures, c.slots_named.ensures, c.table_fixed.ensures, c.device_sound.ensures)
    (tests-sound r (λ i. omega (arith, c.type_inv.device i)) c.if-device-ne-RECORD.false)

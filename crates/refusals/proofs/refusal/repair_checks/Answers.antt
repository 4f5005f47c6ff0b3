use Rattle.store.proofs.SoundLaws.{sound-parts}
use borrow.Author.Tests.{le-ltb, lt-ltb}
use Rattle.wire.proofs.ChoiceLaws.{told}
use Rattle.refusals.proofs.refusal.repair_checks.Goals as goal

pub returns-then-not-sound : goal.returns-then-not-sound
returns-then-not-sound c = λ disk ed ek. rw (told c.sound.ensures c.if-not-sound.true)

pub is_disk-requires : goal.is_disk-requires
is_disk-requires c = told c.sound.ensures c.if-not-sound.false

pub returns-then-not-is_disk : goal.returns-then-not-is_disk
returns-then-not-is_disk c =
    λ disk ed ek. rw (told c.sound.ensures c.if-not-sound.false, ed, ek, told c.is_disk.ensures c.if-not-is_disk.true)

pub visible_at-requires : goal.visible_at-requires
visible_at-requires c =
    (sound-parts c.args.device.now (told c.sound.ensures c.if-not-sound.false)).size

pub returns-then-lba-visible_at : goal.returns-then-lba-visible_at
returns-then-lba-visible_at c =
    let lba = c.args.lba in
    λ disk ed ek. rw (told c.sound.ensures c.if-not-sound.false, ed, ek, told c.is_disk.ensures c.if-not-is_disk.false, ← c.visible_at.ensures, le-ltb lba c.visible_at.result c.if-lba-visible_at.true)

pub returns : goal.returns
returns c =
    let lba = c.args.lba in
    λ disk ed ek. rw (told c.sound.ensures c.if-not-sound.false, ed, ek, told c.is_disk.ensures c.if-not-is_disk.false, ← c.visible_at.ensures, lt-ltb lba c.visible_at.result c.if-lba-visible_at.false)

use borrow.Author.Tests.{ne_eqb, eq-eqb}
use Rattle.wire.proofs.ChoiceLaws.{told}
use Rattle.store.specs.Areas.{private_size}
use Rattle.refusals.proofs.refusal.work_checks.Goals as goal

pub returns-then-not-sound : goal.returns-then-not-sound
returns-then-not-sound c = λ a disk ea ed ek. rw (told c.sound.ensures c.if-not-sound.true)

pub returns-then-area_len-ne-PRIVATE : goal.returns-then-area_len-ne-PRIVATE
returns-then-area_len-ne-PRIVATE c =
    λ a disk ea ed ek. rw (told c.sound.ensures c.if-not-sound.false, ea, ne_eqb c.args.area_len private_size c.if-area_len-ne-PRIVATE.true)

pub is_disk-requires : goal.is_disk-requires
is_disk-requires c = told c.sound.ensures c.if-not-sound.false

pub returns-then-not-is_disk : goal.returns-then-not-is_disk
returns-then-not-is_disk c =
    λ a disk ea ed ek. rw (told c.sound.ensures c.if-not-sound.false, ea, ed, ek, eq-eqb c.args.area_len private_size c.if-area_len-ne-PRIVATE.false, told c.is_disk.ensures c.if-not-is_disk.true)

pub returns : goal.returns
returns c =
    λ a disk ea ed ek. rw (told c.sound.ensures c.if-not-sound.false, ea, ed, ek, eq-eqb c.args.area_len private_size c.if-area_len-ne-PRIVATE.false, told c.is_disk.ensures c.if-not-is_disk.false)

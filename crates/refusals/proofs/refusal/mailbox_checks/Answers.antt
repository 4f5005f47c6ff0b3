use Rattle.store.proofs.SoundLaws.{sound-parts}
use borrow.Author.Tests.{ne_eqb, eq-eqb}
use Rattle.wire.proofs.ChoiceLaws.{told}
use Rattle.model.specs.Sizes.{mailbox_size}
use Rattle.store.specs.Areas.{private_size}
use Rattle.refusals.proofs.refusal.mailbox_checks.Goals as goal

pub returns-then-not-sound : goal.returns-then-not-sound
returns-then-not-sound c = λ m a em ea. rw (told c.sound.ensures c.if-not-sound.true)

pub returns-then-mailbox_len-ne-MAILBOX : goal.returns-then-mailbox_len-ne-MAILBOX
returns-then-mailbox_len-ne-MAILBOX c = λ m a em ea. rw (told c.sound.ensures c.if-not-sound.false, em, ne_eqb c.args.mailbox_len mailbox_size c.if-mailbox_len-ne-MAILBOX.true)

pub returns-then-area_len-ne-PRIVATE : goal.returns-then-area_len-ne-PRIVATE
returns-then-area_len-ne-PRIVATE c =
    λ m a em ea. rw (told c.sound.ensures c.if-not-sound.false, em, ea, eq-eqb c.args.mailbox_len mailbox_size c.if-mailbox_len-ne-MAILBOX.false, ne_eqb c.args.area_len private_size c.if-area_len-ne-PRIVATE.true)

pub slot_checks-requires : goal.slot_checks-requires
slot_checks-requires c =
    (sound-parts c.args.device.now (told c.sound.ensures c.if-not-sound.false)).size

pub returns : goal.returns
returns c =
    λ m a em ea. rw (told c.sound.ensures c.if-not-sound.false, em, ea, eq-eqb c.args.mailbox_len mailbox_size c.if-mailbox_len-ne-MAILBOX.false, eq-eqb c.args.area_len private_size c.if-area_len-ne-PRIVATE.false) c.slot_checks.ensures

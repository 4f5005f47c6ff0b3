use borrow.Author.Tests.{ne_eqb, eq-eqb}
use Rattle.wire.proofs.ChoiceLaws.{told}
use Rattle.store.specs.Areas.{private_size, record_size}
use Rattle.image_steps.proofs.images.power_on_checks.Goals as goal

pub returns-then-device_len-ne-RECORD : goal.returns-then-device_len-ne-RECORD
returns-then-device_len-ne-RECORD c = λ r a disk er ea ed ek. rw (er, ne_eqb c.args.device_len record_size c.if-device_len-ne-RECORD.true)

pub returns-then-area_len-ne-PRIVATE : goal.returns-then-area_len-ne-PRIVATE
returns-then-area_len-ne-PRIVATE c =
    λ r a disk er ea ed ek. rw (er, eq-eqb c.args.device_len record_size c.if-device_len-ne-RECORD.false, ea, ne_eqb c.args.area_len private_size c.if-area_len-ne-PRIVATE.true)

pub returns-then-not-is_disk : goal.returns-then-not-is_disk
returns-then-not-is_disk c =
    λ r a disk er ea ed ek. rw (er, eq-eqb c.args.device_len record_size c.if-device_len-ne-RECORD.false, ea, eq-eqb c.args.area_len private_size c.if-area_len-ne-PRIVATE.false, told (c.is_disk.ensures disk ed ek) c.if-not-is_disk.true)

pub returns : goal.returns
returns c =
    λ r a disk er ea ed ek. rw (er, eq-eqb c.args.device_len record_size c.if-device_len-ne-RECORD.false, ea, eq-eqb c.args.area_len private_size c.if-area_len-ne-PRIVATE.false, told (c.is_disk.ensures disk ed ek) c.if-not-is_disk.false, ed) c.image_checks.ensures

use native.Mathlib.Omega.{arith}
use Rattle.store.proofs.SoundLaws.{sound-parts}
use Rattle.image.proofs.UsedLaws.{whole-used, form-used}
use Rattle.save.proofs.AppendLaws.{entry-stored}
use Rattle.save.proofs.appending.put_entry.Goals as goal

pub chain_form-entry_form-requires : goal.chain_form-entry_form-requires
chain_form-entry_form-requires c = whole-used c.args.image.now c.args.used (omega arith) c.requires.room.1

pub put_head-requires : goal.put_head-requires
put_head-requires c = (omega arith, (sound-parts _ c.requires.device_value).size)

pub copy_part-requires : goal.copy_part-requires
copy_part-requires c = (omega arith, omega (arith, (sound-parts _ c.requires.device_value).size))

pub returns : goal.returns
returns c =
    let a = c.args in
    rw (c.put_trailer.ensures, c.copy_part.ensures, c.put_head.ensures, c.chain_form-entry_form.ensures, form-used c.args.image.now c.args.used (omega arith) c.requires.room.1)
    (entry-stored a.device.now a.image.now a.used _ (λ i. omega (arith, c.shared_slice_known-1.given i)) c.requires.device_value (omega arith))

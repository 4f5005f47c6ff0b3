-- A save that answers 0, and then a power-on from that image on that disk, whatever was written to it in between.
use mathlib.Core.Path.{◌≡◌, refl, sym, ap, ◌∙◌}
use Prim.Native.Nat.{ℕ, ◌+◌}
use mathlib.Core.List.{List}
use lib.ListN.{length}
use borrow.Author.Tests.{eq-eqb}
use Rattle.wire.specs.Choice.{first_failed}
use Rattle.wire.proofs.ChoiceLaws.{attempt-done, all_pass, pass_all}
use Rattle.model.specs.Sizes.{entry_size}
use Rattle.model.specs.Device.{Device}
use Rattle.model.specs.Disk.{Disk, HasSize}
use Rattle.model.specs.Image.{Saved, saved_from, chain_form, saved_image, restored}
use Rattle.model.specs.Image.{save_checks as saving_checks}
use Rattle.model.specs.Step.{save, Seen, Outcome, answered_image}
use Rattle.model.specs.Valid.{Valid}
use Rattle.model.proofs.PowerOnLaws.{KeptRules, kept-rules, power-on-valid}
use Rattle.model.proofs.DiskSizes.{SameSize, native-size}
use Rattle.model.proofs.SaveLaws.{saved-fits, saved-ranged, power-on-after-save, restored-saved}
use Rattle.store.specs.Areas.{record_size, private_size}
use Rattle.store.specs.Record.{Contents, encode, decode}
use Rattle.store.specs.Store.{Store}
use Rattle.store.specs.Entries.{power_on_checks, restored_contents, powered_contents, power_on_entry, power_on_bytes}
use Rattle.store.specs.OnStore.{on_store}
use Rattle.store.proofs.RecordLaws.{ContentsValid, valid-fits, decode-encode}
use Rattle.store.proofs.ExitLaws.{store_checks, on-done}
use Rattle.store.proofs.FollowLaws.{StoreValid, contents-valid}
use Rattle.store.proofs.PowerOnAnswers.{power-on-answer}
use Rattle.store.proofs.AnswerLaws.{entry-answer, entry-order}

module _ (s : Store) (v : StoreValid s) (image : List ℕ) (used : ℕ) (saves : (on_store (save image used) s).seen.answer ≡ 0) where
  abbrev device : Device
  device = (decode s.record_area).device

  -- what the save saves: an entry of the chain's form
  abbrev entry : Saved
  entry = saved_from (chain_form image used) device

  abbrev saved : Seen
  saved = (on_store (save image used) s).seen

  device-valid : Valid device
  device-valid = (contents-valid s v).device

  passed : first_failed (store_checks (save image used) s) ≡ 0
  passed = sym (entry-answer (save image used) s) ∙ saves

  checked : first_failed (saving_checks device.native image used) ≡ 0
  checked = pass_all (saving_checks device.native image used) (all_pass 8 (store_checks (save image used) s) (entry-order (save image used) s).1 passed).1

  saved-is : saved ≡ answered_image 0 (saved_image device image used) (used + entry_size)
  saved-is = ap (λ (o : Outcome Store). o.seen) (on-done (save image used) s passed)

  -- a disk of the same size has the record's N sectors
  sizes : (disk : Disk) → SameSize disk s.disk → HasSize device.native disk
  sizes disk same = (same.0 ∙ v.disk.sectors_valid.size, same.1 ∙ v.disk.check_area_valid.size)

  -- what is read back is what was saved
  contents-back : (disk : Disk) → SameSize disk s.disk → powered_contents disk saved.image saved.used ≡ restored_contents entry
  contents-back disk same =
      let native = native-size device.native disk (sizes disk same) in
      ap restored_contents
      (rw saved-is
      (ap (λ (n : ℕ). restored n (saved_image device image used) (used + entry_size)) native ∙ restored-saved device image used device-valid checked))

  module _ (r a : List ℕ) (disk : Disk) (size : length r ≡ record_size) (private : length a ≡ private_size) (same : SameSize disk s.disk) where
    on-passed : first_failed (power_on_checks r a disk saved.image saved.used) ≡ 0
    on-passed =
        rw (saved-is, eq-eqb (length r) record_size size, eq-eqb (length a) private_size private)
        (power-on-after-save device image used device-valid checked disk (sizes disk same))

    -- THEOREM: the power-on answers 0 ..
    pub power-on-saved : (power_on_bytes r a disk saved.image saved.used).answer ≡ 0
    power-on-saved = power-on-answer r a disk saved.image saved.used ∙ on-passed

    record-back : (power_on_bytes r a disk saved.image saved.used).record_area ≡ encode (restored_contents entry)
    unfolding power_on_bytes
    record-back = rw (attempt-done (power_on_entry r a disk saved.image saved.used) 0 (sym on-passed) refl) (ap encode (contents-back disk same))

    -- .. and "A saved image read back gives what was saved, as the power-on rules keep it".
    pub saved-read-back : KeptRules entry (decode (power_on_bytes r a disk saved.image saved.used).record_area).device
    saved-read-back = rw (record-back, decode-encode restored_now (valid-fits restored_now restored-valid)) (kept-rules entry)
      where
        restored_now : Contents
        restored_now = restored_contents entry

        restored-valid : ContentsValid restored_now
        restored-valid = record { device = power-on-valid entry (saved-fits (chain_form image used) device device-valid) (saved-ranged (chain_form image used) device device-valid); four = refl }

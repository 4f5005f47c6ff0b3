-- A save that answers 0, and then a power-on from that image on that disk.
use mathlib.Core.Path.{◌≡◌, sym, ap, ◌∙◌}
use Prim.Native.Nat.{ℕ, ◌+◌}
use mathlib.Core.List.{List}
use Rattle.wire.specs.Choice.{first_failed}
use Rattle.model.specs.Sizes.{entry_size}
use Rattle.model.specs.Image.{saved_from, save_checks, chain_form, saved_image, power_on_checks, restored}
use Rattle.model.specs.Image.{power_on as power_on_device}
use Rattle.model.specs.Machine.{Machine}
use Rattle.model.specs.Step.{save, power_on, Seen, Outcome, answered_image, step}
use Rattle.model.specs.Valid.{MachineValid}
use Rattle.model.proofs.StepLaws.{step-done, answer-is}
use Rattle.model.proofs.SaveLaws.{power-on-after-save, restored-saved}
use Rattle.model.specs.Disk.{HasSize}
use Rattle.model.proofs.DiskSizes.{SameSize, native-size}
use Rattle.model.proofs.PowerOnLaws.{KeptRules, kept-rules}
use Rattle.model.proofs.ImageSteps.{power-on-leaves}

-- N is a machine on the same disk as M: since the save the disk may have changed, except in size
module _ (M N : Machine) (image : List ℕ) (used : ℕ) (ok : MachineValid M) (disk : SameSize N.disk M.disk) (saves : (step (save image used) M).seen.answer ≡ 0) where
  abbrev saved : Seen
  saved = (step (save image used) M).seen

  passed : first_failed (save_checks M.device.native image used) ≡ 0
  passed = sym (answer-is (save image used) M) ∙ saves

  saved-is : saved ≡ answered_image 0 (saved_image M.device image used) (used + entry_size)
  saved-is = ap (λ (o : Outcome Machine). o.seen) (step-done (save image used) M passed)

  size : HasSize M.device.native N.disk
  size = (disk.0 ∙ ok.disk_valid.sectors_valid.size, disk.1 ∙ ok.disk_valid.check_area_valid.size)

  on-passed : first_failed (power_on_checks N.disk saved.image saved.used) ≡ 0
  on-passed = rw saved-is (power-on-after-save M.device image used ok.device_valid passed N.disk size)

  pub power-on-answers : (step (power_on saved.image saved.used) N).seen.answer ≡ 0
  power-on-answers = answer-is (power_on saved.image saved.used) N ∙ on-passed

  device-on : (step (power_on saved.image saved.used) N).state.device ≡ power_on_device (saved_from (chain_form image used) M.device)
  device-on =
      (power-on-leaves saved.image saved.used N power-on-answers).device
      ∙ rw saved-is
      (ap power_on_device
      (ap (λ (n : ℕ). restored n (saved_image M.device image used) (used + entry_size)) (native-size M.device.native N.disk size) ∙ restored-saved M.device image used ok.device_valid passed))

  -- THEOREM: "A saved image read back gives what was saved, as the power-on rules keep it"
  pub saved-read-back : KeptRules (saved_from (chain_form image used) M.device) (step (power_on saved.image saved.used) N).state.device
  saved-read-back = rw device-on (kept-rules (saved_from (chain_form image used) M.device))

-- What the steps save and power-on leave when they answer 0, and what the firmware sees of them.
use mathlib.Core.Path.{◌≡◌, refl, sym, ap, ◌∙◌}
use Prim.Native.Nat.{ℕ, suc, ◌+◌, ◌/◌}
use native.Mathlib.Omega.{arith}
use mathlib.Core.List.{List, [], ◌++◌}
use lib.ListN.{length}
use lib.Seq.{sets}
use Rattle.wire.specs.Choice.{first_failed}
use Rattle.model.specs.Image.{saved_from, body_bytes, trailer_bytes, entries, chain_form, saved_image, restored}
use Rattle.model.specs.Image.{power_on as power_on_device}
use Rattle.model.specs.Machine.{empty, Machine}
use Rattle.model.specs.Step.{save, power_on, Outcome, checks, powered_on, step}
use Rattle.model.proofs.StepLaws.{step-done, answer-is}

-- ---- save

-- "A save adds one entry behind the used length; other bytes stay."
pub record Saves (image : List ℕ) (used : ℕ) (M : Machine) (o : Outcome Machine) : Type 0 where
  pub machine_after : o.state ≡ M
  pub image_after : o.seen.image ≡ sets image used (body_bytes (saved_from (chain_form image used) M.device) ++ trailer_bytes (used / 560 + 1))
  pub used_after : o.seen.used ≡ used + 560
  pub no_more : (o.seen.count ≡ 0) × (o.seen.mailbox ≡ [])

pub save-leaves : (image : List ℕ) (used : ℕ) (M : Machine) → (step (save image used) M).seen.answer ≡ 0 → Saves image used M (step (save image used) M)
unfolding saved_image
save-leaves image used M done =
    let passed : first_failed (checks (save image used) M) ≡ 0 = sym (answer-is (save image used) M) ∙ done in
    let number : suc (entries used) ≡ used / 560 + 1 = omega arith in
    rw (step-done (save image used) M passed)
    (
    record {
      machine_after = refl;
      image_after = ap (λ (n : ℕ). sets image used (body_bytes (saved_from (chain_form image used) M.device) ++ trailer_bytes n)) number;
      used_after = refl;
      no_more = (refl, refl);
    }
    )

-- ---- power-on

-- "slots empty"; the device is the restored one, and the disk is unchanged
pub record IsOn (image : List ℕ) (used : ℕ) (M N : Machine) : Type 0 where
  pub device : N.device ≡ power_on_device (restored (length M.disk.sectors / 512) image used)
  pub ports : (p : ℕ) → N.ports p ≡ empty
  pub sector : N.sector ≡ []
  pub disk : N.disk ≡ M.disk

pub power-on-leaves : (image : List ℕ) (used : ℕ) (M : Machine) → (step (power_on image used) M).seen.answer ≡ 0 → IsOn image used M (step (power_on image used) M).state
unfolding powered_on power_on_device
power-on-leaves image used M done =
    let passed : first_failed (checks (power_on image used) M) ≡ 0 = sym (answer-is (power_on image used) M) ∙ done in
    rw (step-done (power_on image used) M passed) (record { device = refl; ports = λ p. refl; sector = refl; disk = refl })

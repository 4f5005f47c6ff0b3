-- The form of the entry that a save adds (W-204), in the bytes of the image before and after it.
use mathlib.Core.Path.{◌≡◌, sym, ap, ◌∙◌, subst}
use Prim.Native.Nat.{ℕ, suc, ◌+◌, ◌-◌, ◌*◌, ◌/◌}
use native.Mathlib.Omega.{arith}
use mathlib.Core.List.{List}
use borrow.Author.Tests.{eq-eqb, ne_eqb}
use Rattle.wire.specs.Choice.{first_failed}
use Rattle.wire.specs.Numbers.{get}
use Rattle.model.specs.Sizes.{entry_size}
use Rattle.model.specs.Device.{Settings}
use Rattle.model.specs.Image.{SavedTimers, form_of, timers_in, Saved, saved_from, timers_at, saved_at, body_at, entries, save_checks, chain_form, saved_image}
use Rattle.model.specs.Machine.{Machine}
use Rattle.model.specs.Step.{save, step}
use Rattle.model.specs.Convert.{entry_timers}
use Rattle.model.specs.Valid.{MachineValid}
use Rattle.model.proofs.StepLaws.{step-done, answer-is}
use Rattle.model.proofs.ImageLaws.{newest-timers-at}
use Rattle.model.proofs.SaveLaws.{save-accepted, new-entry, newest-saved}
use Rattle.model.proofs.EntryTimers.{timers-of, TimersStand, timers-stand, OfFormOne}

-- the new entry at its place: of form 2, with these timers
abbrev pub AddsFormTwo : Settings → List ℕ → ℕ → Type 0
AddsFormTwo c after at = (get 1 after (at + 25) ≡ 2) × (get 2 after (at + 26) ≡ c.read_timer) × (get 2 after (at + 28) ≡ c.write_timer)

-- "a save keeps the form of the chain it extends (form 1 leaves the timers out), and an empty image starts with form 2"
pub record FormKept (image : List ℕ) (used : ℕ) (c : Settings) (after : List ℕ) : Type 0 where
  pub empty_image : used ≡ 0 → AddsFormTwo c after used
  pub form_one : (used ≡ 0 → ⊥) → get 1 image (used - 560 + 25) ≡ 0 → OfFormOne after used
  pub form_two : (used ≡ 0 → ⊥) → get 1 image (used - 560 + 25) ≡ 2 → AddsFormTwo c after used

module _ (image : List ℕ) (used : ℕ) (M : Machine) (ok : MachineValid M) (saves : (step (save image used) M).seen.answer ≡ 0) where
  abbrev c : Settings
  c = M.device.settings

  abbrev after : List ℕ
  after = saved_image M.device image used

  passed : first_failed (save_checks M.device.native image used) ≡ 0
  passed = sym (answer-is (save image used) M) ∙ saves

  whole : 560 * (suc (used / 560) - 1) ≡ used
  whole = let e = (save-accepted M.device.native image used passed).readable_before.multiple in omega arith

  -- what the new entry holds, by the form of the chain
  abbrev now : Saved
  now = saved_from (chain_form image used) M.device

  abbrev k : ℕ
  k = suc (used / 560)

  new-timers : entry_timers after k ≡ timers_in (chain_form image used) c.read_timer c.write_timer
  unfolding saved_from
  new-timers =
      let last : k ≡ entries (used + entry_size) = omega arith in
      sym (timers-of after k (omega arith))
      ∙ ap (λ (n : ℕ). (saved_at (body_at after n) 0).timers) last
      ∙ ap (λ (s : Saved). s.timers) (newest-saved M.device image used ok.device_valid passed)

  added : TimersStand (timers_in (chain_form image used) c.read_timer c.write_timer) after used
  added =
      let stands = timers-stand now after k (omega arith) (new-entry M.device image used ok.device_valid passed) in
      subst (λ (t : SavedTimers). TimersStand t after used) new-timers (subst (TimersStand (entry_timers after k) after) whole stands)

  by_form : (n : ℕ) → chain_form image used ≡ n → TimersStand (timers_in n c.read_timer c.write_timer) after used
  by_form n e = subst (λ (x : ℕ). TimersStand (timers_in x c.read_timer c.write_timer) after used) e added

  -- the form of a chain that is not empty is told by byte 25 of its newest entry
  newest-form : (used ≡ 0 → ⊥) → chain_form image used ≡ form_of (timers_at image (used - 560))
  newest-form some =
      let multiple = (save-accepted M.device.native image used passed).readable_before.multiple in
      rw (ne_eqb used 0 some) (ap form_of (newest-timers-at image used multiple (omega arith)))

  -- THEOREM: a save that answers 0 adds an entry of the chain's form, and one of form 2 to an empty image.
  pub save-keeps-form : FormKept image used M.device.settings (step (save image used) M).seen.image
  save-keeps-form =
      rw (step-done (save image used) M passed)
      (
      record {
        empty_image = λ e. by_form 2 (rw (eq-eqb used 0 e));
        form_one = λ some e. by_form 1 (newest-form some ∙ rw e);
        form_two = λ some e. by_form 2 (newest-form some ∙ rw e);
      }
      )

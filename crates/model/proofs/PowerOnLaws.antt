-- Laws of power-on: which values are kept over power, and that the resulting device is valid.
use mathlib.Core.Path.{◌≡◌, refl, ap, ◌∙◌, subst}
use mathlib.Core.Bool.{Bool, true, false}
use mathlib.Core.Logic.{inr}
use Prim.Native.Nat.{ℕ, ◌+◌, ◌-◌, ◌^◌, ◌≤◌, ◌<◌}
use native.Mathlib.Omega.{arith}
use mathlib.Core.List.{List}
use lib.ListN.{length, replicate, length-replicate}
use lib.Dec.{eqb}
use borrow.Author.Tests.{eq-eqb, ne_eqb}
use Rattle.std.specs.Prelude.{if◌then◌else◌}
use Rattle.wire.specs.Numbers.{get}
use Rattle.wire.specs.Bytes.{Bytes}
use Rattle.wire.proofs.BytesLaws.{bytes-replicate}
use Rattle.model.specs.Sizes.{native_limit, history_size, missing}
use Rattle.model.specs.Device.{idle, Feature, Settings, Device}
use Rattle.model.specs.Key.{highest_state}
use Rattle.model.specs.Temperature.{empty_history, empty_index}
use Rattle.model.specs.Fill.{nothing_pending}
use Rattle.model.specs.Image.{SavedTimers, left_out, stored, timers_meant, Saved, timers_at, saved_at, in_range, body_at, entries, newest_in, readable, blank, kept, settings_of, power_on_thermal, power_on, restored}
use Rattle.model.specs.Valid.{TimerValid, StateValid, ThermalValid, Valid}
use Rattle.model.specs.ImageForm.{TimersFit, SavedFits}
use Rattle.model.proofs.EntryLaws.{TimersRanged, Ranged, range-parts, parts-range, range-fits}
use Rattle.model.proofs.ImageLaws.{form-saved, readable-parts, readable-form, newest-timers-at}

-- ---- what is kept over power

-- "Option 1 keeps a state over power; other states return to 1."
pub record FeatureKept (before after : Feature) : Type 0 where
  pub option : after.persistent ≡ before.persistent
  pub persistent_state : before.persistent ≡ true → after.state ≡ before.state
  pub other_state : before.persistent ≡ false → after.state ≡ 1

-- The timers that were saved: W-204: "Form 1 .. means 70 and 70"; ".. the read and write timers, which power-on then restores"
abbrev pub TimersKept : SavedTimers → Settings → Type 0
TimersKept left_out c = (c.read_timer ≡ 70) × (c.write_timer ≡ 70)
TimersKept (stored for_read for_write) c = (c.read_timer ≡ for_read) × (c.write_timer ≡ for_write)

-- d is the device at power-on from what was saved.
pub record KeptRules (s : Saved) (d : Device) : Type 0 where
  pub timers : TimersKept s.timers d.settings
  pub write_cache : FeatureKept s.write_cache d.settings.write_cache
  pub reordering : FeatureKept s.reordering d.settings.reordering
  pub log_interval : FeatureKept s.log_interval d.settings.log_interval
  -- "The history is kept if the interval after power-on equals the saved one; minutes are 0."
  pub history_kept : d.settings.log_interval.state ≡ s.log_interval.state → (d.thermal.history ≡ s.history) × (d.thermal.index ≡ s.index)
  pub history_empty : (d.settings.log_interval.state ≡ s.log_interval.state → ⊥) → (d.thermal.history ≡ empty_history) × (d.thermal.index ≡ 477)
  pub minutes : d.thermal.minutes ≡ 0
  -- ".. with "now" and this cycle's maximum missing."
  pub temperatures : (d.thermal.current ≡ 0x80) × (d.thermal.cycle_maximum ≡ 0x80)
  pub as_saved : (d.native ≡ s.native) × (d.visible ≡ s.visible) × (d.initialized ≡ s.initialized) × (d.thermal.life_maximum ≡ s.life_maximum)
  -- "Unlocked, no fill, nothing owed, .. code, action and function 0"
  pub unlocked : d.locked ≡ false
  pub no_fill : d.command.fill ≡ idle
  pub no_transfer : d.command.pending ≡ nothing_pending
  pub command : (d.command.code ≡ 0) × (d.command.action ≡ 0) × (d.command.function ≡ 0)

feature-kept : (f : Feature) → FeatureKept f (kept f)
feature-kept f = record { option = refl; persistent_state = λ e. rw e; other_state = λ e. rw e }

timers-kept : (t : SavedTimers) (cache reordering interval : Feature) → TimersKept t (settings_of (timers_meant t).0 (timers_meant t).1 cache reordering interval)
timers-kept left_out cache reordering interval = (refl, refl)
timers-kept (stored for_read for_write) cache reordering interval = (refl, refl)

-- THEOREM: every rule of power-on holds, whatever was saved.
pub kept-rules : (s : Saved) → KeptRules s (power_on s)
unfolding power_on
kept-rules s =
    record {
      timers = timers-kept s.timers s.write_cache s.reordering s.log_interval;
      write_cache = feature-kept s.write_cache;
      reordering = feature-kept s.reordering;
      log_interval = feature-kept s.log_interval;
      history_kept = λ e. chosen true (eq-eqb (kept s.log_interval).state s.log_interval.state e);
      history_empty = λ e. chosen false (ne_eqb (kept s.log_interval).state s.log_interval.state e);
      minutes = refl;
      temperatures = (refl, refl);
      as_saved = (refl, refl, refl, refl);
      unlocked = refl;
      no_fill = refl;
      no_transfer = refl;
      command = (refl, refl, refl);
    }
  where
    chosen : (b : Bool) → eqb (kept s.log_interval).state s.log_interval.state ≡ b
        → ((power_on_thermal s).history ≡ (if b then s.history else empty_history)) × ((power_on_thermal s).index ≡ (if b then s.index else empty_index))
    chosen b e = (rw e, rw e)

-- ---- the timers at power-on, from the image's bytes

-- W-203: "Both error recovery timers shall be 70 (7 seconds) at power-on."; W-204: "image entries of form 2: byte 25 is 2 and bytes 26 to 29 hold the
-- read and write timers, which power-on then restores. Form 1 has byte 25 = 0 and means 70 and 70." The newest entry is the last 560 bytes.
pub record TimersOn (image : List ℕ) (used for_read for_write : ℕ) : Type 0 where
  pub empty_image : used ≡ 0 → (for_read ≡ 70) × (for_write ≡ 70)
  pub form_one : (used ≡ 0 → ⊥) → get 1 image (used - 560 + 25) ≡ 0 → (for_read ≡ 70) × (for_write ≡ 70)
  pub form_two : (used ≡ 0 → ⊥) → get 1 image (used - 560 + 25) ≡ 2
      → (for_read ≡ get 2 image (used - 560 + 26)) × (for_write ≡ get 2 image (used - 560 + 28))

-- THEOREM: the timers of the device that power-on makes from a readable image.
pub timers-restored : (native : ℕ) (image : List ℕ) (used : ℕ) → readable image used ≡ true
    → let c = (power_on (restored native image used)).settings in TimersOn image used c.read_timer c.write_timer
timers-restored native image used r =
    record {
      empty_image = λ e. kept left_out (empty-timers e);
      form_one = λ some e. kept left_out (newest-timers some ∙ rw e);
      form_two = λ some e. kept (stored (get 2 image (used - 560 + 26)) (get 2 image (used - 560 + 28))) (newest-timers some ∙ rw e);
    }
  where
    kept : (t : SavedTimers) → (restored native image used).timers ≡ t → TimersKept t (power_on (restored native image used)).settings
    kept t e = subst (λ (x : SavedTimers). TimersKept x (power_on (restored native image used)).settings) e (kept-rules (restored native image used)).timers

    empty-timers : used ≡ 0 → (restored native image used).timers ≡ left_out
    empty-timers e = unfold restored in rw (eq-eqb used 0 e)

    newest-timers : (used ≡ 0 → ⊥) → (restored native image used).timers ≡ timers_at image (used - 560)
    newest-timers some =
        let whole = (readable-parts image used r).multiple in
        unfold restored in rw (ne_eqb used 0 some) (newest-timers-at image used whole (omega arith))

-- ---- "Power-on from length 0 gives V = N, no flag, missing temperatures, defaults, empty history"

-- a default: state 1, not kept over power
abbrev pub Default : Feature → Type 0
Default f = (f.state ≡ 1) × (f.persistent ≡ false)

pub record Fresh (native : ℕ) (d : Device) : Type 0 where
  pub sizes : (d.native ≡ native) × (d.visible ≡ native)
  pub flag : d.initialized ≡ false
  pub temperatures : (d.thermal.current ≡ 0x80) × (d.thermal.cycle_maximum ≡ 0x80) × (d.thermal.life_maximum ≡ 0x80)
  pub timers : (d.settings.read_timer ≡ 70) × (d.settings.write_timer ≡ 70)
  pub features : Default d.settings.write_cache × Default d.settings.reordering × Default d.settings.log_interval
  -- "Empty history is all 80h, index 477, minutes 0"
  pub history : d.thermal.history ≡ replicate 478 0x80
  pub index : d.thermal.index ≡ 477
  pub minutes : d.thermal.minutes ≡ 0

pub fresh_on : (native : ℕ) (image : List ℕ) → Fresh native (power_on (restored native image 0))
unfolding power_on restored
fresh_on native image =
    record {
      sizes = (refl, refl);
      flag = refl;
      temperatures = (refl, refl, refl);
      timers = (refl, refl);
      features = ((refl, refl), (refl, refl), (refl, refl));
      history = refl;
      index = refl;
      minutes = refl;
    }

-- ---- the device at power-on is valid

kept-valid : (n : ℕ) (f : Feature) → 1 ≤ highest_state n → StateValid n f → StateValid n (kept f)
kept-valid n f top v = go f.persistent
  where
    go : (b : Bool) → (1 ≤ (if b then f.state else 1)) × ((if b then f.state else 1) ≤ highest_state n)
    go true = v
    go false = (omega arith, top)

-- the timers at power-on are named values, and words
pub timers-valid : (t : SavedTimers) → TimersRanged t → TimerValid (timers_meant t).0 × TimerValid (timers_meant t).1
timers-valid left_out r = (inr (omega arith), inr (omega arith))
timers-valid (stored for_read for_write) r = r

pub timer-words : (t : SavedTimers) → TimersFit t → ((timers_meant t).0 < 256 ^ 2) × ((timers_meant t).1 < 256 ^ 2)
timer-words left_out f = (omega arith, omega arith)
timer-words (stored for_read for_write) f = f

length-empty : length empty_history ≡ history_size
length-empty = length-replicate history_size missing

bytes-empty : Bytes empty_history
bytes-empty = bytes-replicate history_size missing (omega arith)

thermal-valid : (s : Saved) → SavedFits s → Ranged s → ThermalValid (kept s.log_interval).state (power_on_thermal s)
thermal-valid s f r =
    record {
      minutes_valid = (kept-valid 3 s.log_interval (omega arith) r.log_interval).0;
      index_valid = index same;
      whole = whole same;
      readings = readings same;
      bytes = (omega arith, omega arith, f.life_maximum);
    }
  where
    same : Bool
    same = eqb (kept s.log_interval).state s.log_interval.state

    index : (b : Bool) → (if b then s.index else empty_index) < history_size
    index true = r.index
    index false = omega arith

    whole : (b : Bool) → length (if b then s.history else empty_history) ≡ history_size
    whole true = f.whole
    whole false = length-empty

    readings : (b : Bool) → Bytes (if b then s.history else empty_history)
    readings true = f.readings
    readings false = bytes-empty

pub power-on-valid : (s : Saved) → SavedFits s → in_range s ≡ true → Valid (power_on s)
unfolding power_on
power-on-valid s f h =
    let r = range-parts s h in
    record {
      sizes = (r.visible.0, r.visible.1, r.native.1);
      command_valid =
          record {
            code_valid = λ e. omega arith;
            fill_valid = tt;
            pending_valid = (tt, (tt, (tt, (tt, tt))));
            only_one = omega arith;
            places = refl;
            words = omega arith;
          };
      settings_valid =
          record {
            read_valid = (timers-valid s.timers r.timers).0;
            write_valid = (timers-valid s.timers r.timers).1;
            cache_valid = kept-valid 1 s.write_cache (omega arith) r.write_cache;
            reordering_valid = kept-valid 2 s.reordering (omega arith) r.reordering;
            interval_valid = kept-valid 3 s.log_interval (omega arith) r.log_interval;
            words = timer-words s.timers f.timers;
          };
      thermal_valid = thermal-valid s f r;
    }

-- ---- what power-on starts from: a blank device, or the newest entry

blank-range : (native : ℕ) → 1 ≤ native → native ≤ native_limit → Ranged (blank native)
blank-range native low high = omega arith

pub blank-ranged : (native : ℕ) → 1 ≤ native → native ≤ native_limit → in_range (blank native) ≡ true
blank-ranged native low high = parts-range (blank native) (blank-range native low high)

pub blank-fits : (native : ℕ) → 1 ≤ native → native ≤ native_limit → SavedFits (blank native)
blank-fits native low high = range-fits (blank native) (blank-range native low high) (omega arith) length-empty bytes-empty (omega arith, omega arith)

newest-form : (image : List ℕ) (used : ℕ) → Bytes image → readable image used ≡ true → (used ≡ 0 → ⊥)
    → (s : Saved) × (newest_in image used ≡ s) × SavedFits s × (in_range s ≡ true)
newest-form image used b h n =
    let f = readable-form image used b h in
    let number : entries used ≡ f.number = omega (arith, f.used_length) in
    let low : 1 ≤ f.number = omega (arith, f.used_length) in
    let e = f.each f.number low (omega arith) in (
      e.saved,
      ap (λ (n : ℕ). saved_at (body_at image n) 0) number ∙ form-saved f.newest image f.number low e,
      e.fits,
      e.ranged,
    )

pub newest-fits : (image : List ℕ) (used : ℕ) → Bytes image → readable image used ≡ true → (used ≡ 0 → ⊥) → SavedFits (newest_in image used)
newest-fits image used b h n = let f = newest-form image used b h n in rw f.1 f.2

pub newest-ranged : (image : List ℕ) (used : ℕ) → Bytes image → readable image used ≡ true → (used ≡ 0 → ⊥) → in_range (newest_in image used) ≡ true
newest-ranged image used b h n = let f = newest-form image used b h n in rw f.1 f.3

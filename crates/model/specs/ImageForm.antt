-- The form of a saved image, as document 01 describes it from the values that its entries hold. Image.readable tests the same from the
-- bytes; that they agree is a law (ImageLaws.readable-form, ImageLaws.form-readable).
use Rattle.std.specs.Prelude.{◌≡◌, true, ◌++◌, ℕ, ◌*◌, ◌-◌, ◌^◌, ◌≤◌, ◌<◌, length}
use Rattle.wire.specs.Parts.{part}
use Rattle.wire.specs.Bytes.{Bytes}
use Rattle.model.specs.Sizes.{history_size, entry_size, entry_limit}
use Rattle.model.specs.Buffers.{Image}
use Rattle.model.specs.Image.{SavedTimers, form_of, Saved, timer_numbers, body_bytes, trailer_bytes, in_range}

-- timers fit their places in a body
abbrev pub TimersFit : SavedTimers → Type 0
TimersFit t = ((timer_numbers t).1 < 256 ^ 2) × ((timer_numbers t).2 < 256 ^ 2)

-- the values fit their places in a body
pub record SavedFits (s : Saved) : Type 0 where
  pub native : s.native < 256 ^ 8
  pub visible : s.visible < 256 ^ 8
  pub life_maximum : s.life_maximum < 256
  pub write_cache : s.write_cache.state < 256 ^ 2
  pub reordering : s.reordering.state < 256 ^ 2
  pub log_interval : s.log_interval.state < 256 ^ 2
  pub index : s.index < 256 ^ 2
  pub whole : length s.history ≡ history_size
  pub readings : Bytes s.history
  pub timers : TimersFit s.timers

-- "all entries have the same N"; W-204: "A chain may not mix forms"
pub record AreAlike (a b : Saved) : Type 0 where
  pub same_native : b.native ≡ a.native
  pub same_form : form_of b.timers ≡ form_of a.timers

-- "Entries of 560 bytes: 544 of body, a 16-byte trailer at the end": entry k, of values that are in range, fit, and are like the newest
pub record EntryForm (newest : Saved) (image : Image) (k : ℕ) : Type 0 where
  pub saved : Saved
  pub fits : SavedFits saved
  pub ranged : in_range saved ≡ true
  pub like : AreAlike newest saved
  pub bytes : part image (entry_size * (k - 1)) entry_size ≡ body_bytes saved ++ trailer_bytes k

-- "The used length is a multiple of 560, at most 65,520; all entries have the same N", and the same form
pub record ImageForm (image : Image) (used : ℕ) : Type 0 where
  pub newest : Saved
  pub number : ℕ
  pub used_length : used ≡ entry_size * number
  pub most : number ≤ entry_limit
  pub each : (k : ℕ) → 1 ≤ k → k ≤ number → EntryForm newest image k

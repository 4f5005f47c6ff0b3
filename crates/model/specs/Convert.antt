-- Converting a saved image from one form to the other (W-204). It needs no device, and is no step of the machine.
use Rattle.std.specs.Prelude.{Bool, ◌&&◌, ◌||◌, ℕ, zero, suc, ◌-◌, ◌*◌, List, [], ◌∷◌, length, eqb, leb}
use Rattle.wire.specs.Choice.{between, Check}
use Rattle.wire.specs.Layout.{stores, placed}
use Rattle.model.specs.Sizes.{power_on_timer, entry_size, bad_length, bad_value, bad_image, other_timers}
use Rattle.model.specs.Buffers.{Image}
use Rattle.model.specs.Image.{SavedTimers, timers_in, timers_meant, timer_fields, timers_at, every, entries, readable}

-- what an entry holds of its timers when it is of this form
abbrev pub in_form : ℕ → SavedTimers → SavedTimers
in_form entry_form t = timers_in entry_form (timers_meant t).0 (timers_meant t).1

-- the image with the entry at a place in this form: byte 25 and the timers are written, and nothing else
abbrev pub converted_entry : ℕ → ℕ → Image → Image
converted_entry entry_form at image = stores (placed at (timer_fields (in_form entry_form (timers_at image at)))) image

-- "Convert a whole image": its first k entries
abbrev pub converted : ℕ → Image → ℕ → Image
converted entry_form image zero = image
converted entry_form image (suc k) = converted_entry entry_form (entry_size * k) (converted entry_form image k)

-- "going back from timers other than 70 and 70": whether an entry's timers can be in this form
abbrev pub fits_form : ℕ → SavedTimers → Bool
fits_form entry_form t = eqb entry_form 2 || (eqb (timers_meant t).0 power_on_timer && eqb (timers_meant t).1 power_on_timer)

-- the timers of entry k
abbrev pub entry_timers : Image → ℕ → SavedTimers
entry_timers image k = timers_at image (entry_size * (k - 1))

-- "a form asked for other than 1 or 2 is answer 5; a mixed chain is answer 6; going back from timers other than 70 and 70 is answer 9, after 6"
abbrev pub convert_checks : ℕ → Image → ℕ → List Check
convert_checks entry_form image used =
    (leb used (length image), bad_length)
    ∷ (between 1 entry_form 2, bad_value)
    ∷ (readable image used, bad_image)
    ∷ (every (entries used) (λ k. fits_form entry_form (entry_timers image k)), other_timers)
    ∷ []

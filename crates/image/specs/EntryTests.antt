-- An entry of the saved image, tested on the image's bytes in place. The tests are equivalent to `body_holds` and `entry_holds`
-- (proofs/EntryInPlace.antt).
use Rattle.std.specs.Prelude.{◌≡◌, Bool, ◌&&◌, ◌||◌, ℕ, ◌+◌, ◌-◌, List, eqb, leb}
use Rattle.wire.specs.Numbers.{get}
use Rattle.wire.specs.Parts.{part}
use Rattle.wire.specs.Bytes.{same, all_zero}
use Rattle.model.specs.Sizes.{body_size}
use Rattle.model.specs.Temperature.{table_interval_place}
use Rattle.model.specs.Image.{form_of, Saved, flag_place, interval_place, options_place, form_place, form_two_byte, read_timer_place, write_timer_place, zeros_place, head_size, saved_at, in_range, tag, previous_place, link_place, number_place, tag_place}
use Rattle.store.specs.RecordTests.{table_fixed}

-- W-204: in form 2 byte 25 is 2; in form 1 it is 0, and so are the places of the timers
unfoldable pub timers_in_place : List ℕ → ℕ → Bool
timers_in_place image at =
    eqb (get 1 image (at + form_place)) form_two_byte
    || (eqb (get 1 image (at + form_place)) 0 && eqb (get 2 image (at + read_timer_place)) 0 && eqb (get 2 image (at + write_timer_place)) 0)

-- "values in range, zeros zero, table interval equal to feature 3"
unfoldable pub body_in_place : List ℕ → ℕ → Bool
body_in_place image at =
    leb (get 1 image (at + flag_place)) 1
    && leb (get 1 image (at + options_place)) 7
    && timers_in_place image at
    && all_zero (part image (at + zeros_place) (head_size - zeros_place))
    && table_fixed image (at + head_size)
    && eqb (get 2 image (at + (head_size + table_interval_place))) (get 2 image (at + interval_place))
    && in_range (saved_at image at)

-- trailer k at a place of the image
unfoldable pub trailer_in_place : List ℕ → ℕ → ℕ → Bool
trailer_in_place image at k =
    eqb (get 4 image at) body_size
    && eqb (get 4 image (at + link_place)) (previous_place k)
    && eqb (get 4 image (at + number_place)) k
    && same (part image (at + tag_place) 4) tag

-- what `alike` needs of the newest entry: its N and its form
abbrev pub NewestIs : Saved → ℕ → ℕ → Type 0
NewestIs newest native entry_form = (newest.native ≡ native) × (form_of newest.timers ≡ entry_form)

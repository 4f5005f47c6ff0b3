-- The saved image: its entries, when it is readable, saving, and what power-on restores.
use Rattle.std.specs.Prelude.{Bool, true, false, ◌&&◌, ◌||◌, ℕ, zero, suc, ◌+◌, ◌-◌, ◌*◌, ◌/◌, ◌%◌, List, [], ◌∷◌, ◌++◌, length, eqb, leb, ltb, if◌then◌else◌}
use Rattle.std.proofs.lemmas.List.Edits.{sets}
use Rattle.wire.specs.Choice.{bit, between, Check}
use Rattle.wire.specs.Numbers.{get}
use Rattle.wire.specs.Parts.{part}
use Rattle.wire.specs.Layout.{Field, form}
use Rattle.wire.specs.Bytes.{same}
use Rattle.model.specs.Sizes.{sector_size, check_size, native_limit, history_size, missing, power_on_timer, body_size, trailer_size, entry_size, entry_limit, bad_length, bad_image, other_disk, image_full}
use Rattle.model.specs.Disk.{Disk, native_size}
use Rattle.model.specs.Device.{idle, Feature, Settings, Thermal, Device}
use Rattle.model.specs.Key.{timer_named, states_named}
use Rattle.model.specs.Temperature.{empty_history, empty_index, table_index_place, table_head_size, table_bytes}
use Rattle.model.specs.Fill.{nothing_pending}
use Rattle.model.specs.Buffers.{Image}

-- ---- an entry

-- What an entry holds of the recovery timers (W-204): an entry of form 1 nothing, one of form 2 the read and the write timer.
pub data SavedTimers : Type 0 where
  left_out : SavedTimers
  stored : ℕ → ℕ → SavedTimers

abbrev pub form_of : SavedTimers → ℕ
form_of left_out = 1
form_of (stored for_read for_write) = 2

-- these timers in an entry of this form: "form 1 leaves the timers out"
abbrev pub timers_in : ℕ → ℕ → ℕ → SavedTimers
timers_in entry_form for_read for_write = if eqb entry_form 1 then left_out else stored for_read for_write

-- the read and the write timer that an entry means: "Form 1 .. means 70 and 70."
abbrev pub timers_meant : SavedTimers → ℕ × ℕ
timers_meant left_out = (power_on_timer, power_on_timer)
timers_meant (stored for_read for_write) = (for_read, for_write)

-- what an entry saves
pub record Saved : Type 0 where
  pub native : ℕ
  pub visible : ℕ
  pub initialized : Bool
  pub life_maximum : ℕ
  pub write_cache : Feature
  pub reordering : Feature
  pub log_interval : Feature
  pub history : List ℕ
  pub index : ℕ
  pub timers : SavedTimers

-- what an entry of this form saves of a device
unfoldable pub saved_from : ℕ → Device → Saved
saved_from entry_form d =
    record {
      native = d.native;
      visible = d.visible;
      initialized = d.initialized;
      life_maximum = d.thermal.life_maximum;
      write_cache = d.settings.write_cache;
      reordering = d.settings.reordering;
      log_interval = d.settings.log_interval;
      history = d.thermal.history;
      index = d.thermal.index;
      timers = timers_in entry_form d.settings.read_timer d.settings.write_timer;
    }

-- "Body: N at 0 and V at 8 (8 bytes each), flag 16, life maximum 17, features 1 to 3 at 18, 20, 22,
-- kept marks in bits 0 to 2 of byte 24, zeros to 31, then the temperature table."
abbrev pub native_place : ℕ
native_place = 0

abbrev pub visible_place : ℕ
visible_place = 8

abbrev pub flag_place : ℕ
flag_place = 16

abbrev pub life_place : ℕ
life_place = 17

abbrev pub cache_place : ℕ
cache_place = 18

abbrev pub reordering_place : ℕ
reordering_place = 20

abbrev pub interval_place : ℕ
interval_place = 22

abbrev pub options_place : ℕ
options_place = 24

-- W-204: "byte 25 is 2 and bytes 26 to 29 hold the read and write timers"; zeros to 31 as before
abbrev pub form_place : ℕ
form_place = 25

abbrev pub form_two_byte : ℕ
form_two_byte = 2

abbrev pub read_timer_place : ℕ
read_timer_place = 26

abbrev pub write_timer_place : ℕ
write_timer_place = 28

abbrev pub zeros_place : ℕ
zeros_place = 30

abbrev pub head_size : ℕ
head_size = 32

-- N, V, the flag and the life maximum
abbrev pub sizes_of : Saved → List Field
sizes_of s =
    (native_place, 8, s.native) ∷ (visible_place, 8, s.visible) ∷ (flag_place, 1, bit s.initialized) ∷ (life_place, 1, s.life_maximum) ∷ []

-- the features' states, and their kept marks in one byte
abbrev pub features_of : Saved → List Field
features_of s =
    (cache_place, 2, s.write_cache.state)
    ∷ (reordering_place, 2, s.reordering.state)
    ∷ (interval_place, 2, s.log_interval.state)
    ∷ (options_place, 1, bit s.write_cache.persistent + 2 * bit s.reordering.persistent + 4 * bit s.log_interval.persistent)
    ∷ []

-- byte 25, the read and the write timer: "Form 1 has byte 25 = 0"
abbrev pub timer_numbers : SavedTimers → ℕ × ℕ × ℕ
timer_numbers left_out = (0, 0, 0)
timer_numbers (stored for_read for_write) = (form_two_byte, for_read, for_write)

abbrev pub timer_fields : SavedTimers → List Field
timer_fields t =
    (form_place, 1, (timer_numbers t).0) ∷ (read_timer_place, 2, (timer_numbers t).1) ∷ (write_timer_place, 2, (timer_numbers t).2) ∷ []

abbrev pub head_fields : Saved → List Field
head_fields s = sizes_of s ++ features_of s ++ timer_fields s.timers

unfoldable pub body_bytes : Saved → List ℕ
body_bytes s = form head_size (head_fields s) ++ table_bytes s.log_interval.state s.index s.history

-- whether the bit of a weight (1, 2, 4 ..) is 1 in a byte
abbrev pub has_bit : ℕ → ℕ → Bool
has_bit weight byte = eqb (byte / weight % 2) 1

-- the timers that the body at a place of a run holds
abbrev pub timers_at : List ℕ → ℕ → SavedTimers
timers_at run at =
    if eqb (get 1 run (at + form_place)) form_two_byte then stored (get 2 run (at + read_timer_place)) (get 2 run (at + write_timer_place)) else left_out

-- the values that the fields of a body decode to, for a body at a place of a run
unfoldable pub saved_at : List ℕ → ℕ → Saved
saved_at run at =
    let options = get 1 run (at + options_place) in
    record {
      native = get 8 run (at + native_place);
      visible = get 8 run (at + visible_place);
      initialized = eqb (get 1 run (at + flag_place)) 1;
      life_maximum = get 1 run (at + life_place);
      write_cache = record { state = get 2 run (at + cache_place); persistent = has_bit 1 options };
      reordering = record { state = get 2 run (at + reordering_place); persistent = has_bit 2 options };
      log_interval = record { state = get 2 run (at + interval_place); persistent = has_bit 4 options };
      history = part run (at + (head_size + table_head_size)) history_size;
      index = get 2 run (at + (head_size + table_index_place));
      timers = timers_at run at;
    }

-- W-204: "A saved timer of 1 to 9 is out of range."
abbrev pub timers_named : SavedTimers → Bool
timers_named left_out = true
timers_named (stored for_read for_write) = timer_named for_read && timer_named for_write

-- "values in range", for disks of at most so many sectors. This and what is made of it take the limit, so that a handler of another limit can be
-- spoken of: W-207, "a handler of the old limit answers 6 to an entry above 65,536" (proofs/TwoLimits.antt).
unfoldable pub in_range_under : ℕ → Saved → Bool
in_range_under limit s =
    between 1 s.native limit
    && between 1 s.visible s.native
    && states_named s.write_cache.state s.reordering.state s.log_interval.state
    && ltb s.index history_size
    && timers_named s.timers

-- A body holds if it is, byte for byte, the body of values in range: so "zeros zero, table interval equal to feature 3", and byte 25 is 0 or 2.
unfoldable pub body_holds_under : ℕ → List ℕ → Bool
body_holds_under limit b = same (body_bytes (saved_at b 0)) b && in_range_under limit (saved_at b 0)

-- "then the letters SCTE"
abbrev pub tag : List ℕ
tag = 0x53 ∷ 0x43 ∷ 0x54 ∷ 0x45 ∷ []

-- "Trailer k stands at 560k - 16."
abbrev pub trailer_place : ℕ → ℕ
trailer_place k = entry_size * k - trailer_size

-- "the place of the previous trailer (FFFFFFFFh for the first)"
abbrev pub no_trailer : ℕ
no_trailer = 0xFFFFFFFF

abbrev pub previous_place : ℕ → ℕ
previous_place k = if eqb k 1 then no_trailer else trailer_place (k - 1)

-- "Trailer: 544, the place of the previous trailer .., the entry number from 1 (4 bytes each), then the letters SCTE."
abbrev pub link_place : ℕ
link_place = 4

abbrev pub number_place : ℕ
number_place = 8

abbrev pub tag_place : ℕ
tag_place = 12

abbrev pub trailer_fields : ℕ → List Field
trailer_fields k = (0, 4, body_size) ∷ (link_place, 4, previous_place k) ∷ (number_place, 4, k) ∷ []

unfoldable pub trailer_bytes : ℕ → List ℕ
trailer_bytes k = form tag_place (trailer_fields k) ++ tag

abbrev pub body_at : Image → ℕ → List ℕ
body_at image k = part image (trailer_place k - body_size) body_size

abbrev pub trailer_at : Image → ℕ → List ℕ
trailer_at image k = part image (trailer_place k) trailer_size

-- whether an entry is like the newest: "all entries have the same N"; W-204: "A chain may not mix forms"
unfoldable pub alike : Saved → Saved → Bool
alike newest s = eqb s.native newest.native && eqb (form_of s.timers) (form_of newest.timers)

-- entry k holds: its body, like the newest, and its trailer
unfoldable pub entry_holds_under : ℕ → Saved → Image → ℕ → Bool
entry_holds_under limit newest image k =
    body_holds_under limit (body_at image k) && alike newest (saved_at (body_at image k) 0) && same (trailer_at image k) (trailer_bytes k)

-- ---- an image

-- f holds for 1, 2, .., n
abbrev pub every : ℕ → (ℕ → Bool) → Bool
every zero f = true
every (suc k) f = f (suc k) && every k f

abbrev pub entries : ℕ → ℕ
entries used = used / entry_size

-- "the newest entry"
abbrev pub newest_in : Image → ℕ → Saved
newest_in image used = saved_at (body_at image (entries used)) 0

-- "The used length is a multiple of 560, at most 65,520; all entries have the same N. .. every entry must hold"
unfoldable pub readable_under : ℕ → Image → ℕ → Bool
readable_under limit image used =
    eqb (used % entry_size) 0
    && leb used (entry_size * entry_limit)
    && every (entries used) (entry_holds_under limit (newest_in image used) image)

-- .. under the limit of this handler
abbrev pub in_range : Saved → Bool
in_range = in_range_under native_limit

abbrev pub body_holds : List ℕ → Bool
body_holds = body_holds_under native_limit

abbrev pub entry_holds : Saved → Image → ℕ → Bool
entry_holds = entry_holds_under native_limit

abbrev pub readable : Image → ℕ → Bool
readable = readable_under native_limit

-- "Reading starts at the last trailer and follows the chain back": n entries, the last trailer at a place. It is equivalent to
-- "every entry" above (proofs/ImageLaws.antt, chain-every).
unfoldable pub chain_holds : Saved → Image → ℕ → ℕ → Bool
chain_holds newest image zero at = eqb at no_trailer
chain_holds newest image (suc k) at =
    eqb at (trailer_place (suc k)) && entry_holds newest image (suc k) && chain_holds newest image k (get 4 image (at + link_place))

-- whether the image is empty or its newest entry is this disk's
abbrev pub same_disk : ℕ → Image → ℕ → Bool
same_disk native image used = eqb used 0 || eqb (newest_in image used).native native

-- "an image's used length exceeds its buffer" (2); "image not readable by the rules below" (6); "newest entry's N is not this disk's" (7):
-- what a save and a power-on require of an image
abbrev pub image_checks_under : ℕ → ℕ → Image → ℕ → List Check
image_checks_under limit native image used =
    (leb used (length image), bad_length) ∷ (readable_under limit image used, bad_image) ∷ (same_disk native image used, other_disk) ∷ []

abbrev pub image_checks : ℕ → Image → ℕ → List Check
image_checks = image_checks_under native_limit

-- ---- save

-- "on a save only: image has 117 entries, or its buffer lacks 560 more bytes"
abbrev pub has_room : Image → ℕ → Bool
has_room image used = ltb (entries used) entry_limit && leb (used + entry_size) (length image)

abbrev pub save_checks : ℕ → Image → ℕ → List Check
save_checks native image used = image_checks native image used ++ ((has_room image used, image_full) ∷ [])

-- W-204: "a save keeps the form of the chain it extends .., and an empty image starts with form 2"
abbrev pub chain_form : Image → ℕ → ℕ
chain_form image used = if eqb used 0 then 2 else form_of (newest_in image used).timers

-- "A save adds one entry behind the used length; other bytes stay."
unfoldable pub saved_image : Device → Image → ℕ → Image
saved_image d image used = sets image used (body_bytes (saved_from (chain_form image used) d) ++ trailer_bytes (suc (entries used)))

-- ---- power-on

-- "power-on: not 1 to 65,536 whole sectors"; W-207: ".. answer 2 take the new limit"
abbrev pub whole_sectors : ℕ → Bool
whole_sectors size = eqb (size % sector_size) 0 && between 1 (size / sector_size) native_limit

-- W-202: "a check area of wrong length is answer 2"
abbrev pub well_sized : Disk → Bool
well_sized disk = whole_sectors (length disk.sectors) && eqb (length disk.check_area) (check_size * native_size disk)

abbrev pub power_on_checks : Disk → Image → ℕ → List Check
power_on_checks disk image used = (well_sized disk, bad_length) ∷ image_checks (native_size disk) image used

abbrev pub default_feature : Feature
default_feature = record { state = 1; persistent = false }

-- "Power-on from length 0 gives V = N, no flag, missing temperatures, defaults, empty history"; no timers are saved, so they are 70 and 70
abbrev pub blank : ℕ → Saved
blank native =
    record {
      native = native;
      visible = native;
      initialized = false;
      life_maximum = missing;
      write_cache = default_feature;
      reordering = default_feature;
      log_interval = default_feature;
      history = empty_history;
      index = empty_index;
      timers = left_out;
    }

-- "Option 1 keeps a state over power; other states return to 1."
abbrev pub kept : Feature → Feature
kept f = record { state = if f.persistent then f.state else 1; persistent = f.persistent }

-- the settings at power-on, from two timers, and from the three features as they were saved
abbrev pub settings_of : ℕ → ℕ → Feature → Feature → Feature → Settings
settings_of for_read for_write cache reordering interval =
    record {
      read_timer = for_read;
      write_timer = for_write;
      write_cache = kept cache;
      reordering = kept reordering;
      log_interval = kept interval;
    }

-- W-203: "Both error recovery timers shall be 70 (7 seconds) at power-on."; W-204: ".. the read and write timers, which power-on then restores"
abbrev pub power_on_settings : Saved → Settings
power_on_settings s =
    let timers = timers_meant s.timers in
    settings_of timers.0 timers.1 s.write_cache s.reordering s.log_interval

-- ".. with "now" and this cycle's maximum missing. The history is kept if the interval after power-on equals the saved one; minutes are 0."
abbrev pub power_on_thermal : Saved → Thermal
power_on_thermal s =
    let same_interval = eqb (kept s.log_interval).state s.log_interval.state in
    record {
      current = missing;
      cycle_maximum = missing;
      life_maximum = s.life_maximum;
      history = if same_interval then s.history else empty_history;
      index = if same_interval then s.index else empty_index;
      minutes = 0;
    }

-- "Unlocked, no fill, nothing owed, .. code, action and function 0 .. The flag is believed as saved."
unfoldable pub power_on : Saved → Device
power_on s =
    record {
      native = s.native;
      visible = s.visible;
      locked = false;
      initialized = s.initialized;
      command = record { code = 0; action = 0; function = 0; fill = idle; pending = nothing_pending };
      settings = power_on_settings s;
      thermal = power_on_thermal s;
    }

-- ".. from length 0 ..; otherwise the newest entry"
unfoldable pub restored : ℕ → Image → ℕ → Saved
restored native image used = if eqb used 0 then blank native else newest_in image used

-- Laws of a save: it adds one entry and changes no other byte, and power-on reads back what was saved.
use mathlib.Core.Path.{◌≡◌, refl, sym, ap, ◌∙◌}
use mathlib.Core.Bool.{Bool, true, false, ◌||◌}
use Prim.Native.Nat.{ℕ, suc, ◌+◌, ◌-◌, ◌*◌, ◌≤◌, ◌<◌}
use native.Mathlib.Omega.{arith}
use mathlib.Core.List.{List, ◌++◌}
use lib.ListN.{length, get_or, length-append}
use lib.Seq.{length-sets}
use lib.Dec.{eqb, leb, ltb}
use borrow.Author.Tests.{eqb-true, leb-true, ltb-true, eq-eqb, le-leb, ne_eqb, eqb-false}
use Rattle.wire.specs.Choice.{first_failed}
use Rattle.wire.specs.Parts.{part}
use Rattle.wire.specs.Bytes.{Bytes}
use Rattle.wire.proofs.ChoiceLaws.{and_left, and_right, all_pass, pass_all}
use Rattle.wire.proofs.NumbersLaws.{get_or_sets_before, get_or-sets-after}
use Rattle.wire.proofs.PartsLaws.{part-before, part_same}
use Rattle.wire.proofs.BytesLaws.{bytes-sets, bytes-append}
use Rattle.model.specs.Sizes.{body_size, trailer_size, entry_size, entry_limit, image_full}
use Rattle.model.specs.Buffers.{Image}
use Rattle.model.specs.Disk.{Disk, HasSize}
use Rattle.model.specs.Device.{Device}
use Rattle.model.specs.Valid.{Valid}
use Rattle.model.specs.Image.{SavedTimers, left_out, stored, form_of, timers_in, Saved, saved_from, body_bytes, saved_at, in_range, trailer_bytes, body_at, trailer_place, entry_holds_under, entry_holds, entries, newest_in, readable, same_disk, save_checks, chain_form, saved_image, power_on_checks, restored}
use Rattle.model.specs.ImageForm.{TimersFit, SavedFits, AreAlike, EntryForm}
use Rattle.model.proofs.DiskSizes.{native-size, well-sized}
use Rattle.model.proofs.EntryLaws.{bytes-body, bytes-trailer, length-body, length-trailer, by_form, TimersRanged, Ranged, parts-range, range-fits, alike_self}
use Rattle.model.proofs.ImageLaws.{holds-alike, form-saved, form-holds, Readable, readable-parts, parts-readable}

-- ---- what a valid device saves

module _ (entry_form : ℕ) (d : Device) (v : Valid d) where
  saved-range : Ranged (saved_from entry_form d)
  unfolding saved_from
  saved-range =
      record {
        native = omega (arith, v.sizes);
        visible = omega (arith, v.sizes);
        write_cache = v.settings_valid.cache_valid;
        reordering = v.settings_valid.reordering_valid;
        log_interval = v.settings_valid.interval_valid;
        index = v.thermal_valid.index_valid;
        timers =
            by_form TimersRanged entry_form d.settings.read_timer d.settings.write_timer tt
            (v.settings_valid.read_valid, v.settings_valid.write_valid);
      }

  pub saved-ranged : in_range (saved_from entry_form d) ≡ true
  saved-ranged = parts-range (saved_from entry_form d) saved-range

  pub saved-fits : SavedFits (saved_from entry_form d)
  unfolding saved_from
  saved-fits =
      let t = v.thermal_valid in
      range-fits (saved_from entry_form d) saved-range t.bytes.2 t.whole t.readings
      (by_form TimersFit entry_form d.settings.read_timer d.settings.write_timer (omega arith, omega arith) v.settings_valid.words)

-- timers in the form of an entry are of its form
form-kept : (t : SavedTimers) (for_read for_write : ℕ) → form_of (timers_in (form_of t) for_read for_write) ≡ form_of t
form-kept left_out for_read for_write = refl
form-kept (stored r w) for_read for_write = refl

or_right : (a b : Bool) → b ≡ true → (a || b) ≡ true
or_right true b h = refl
or_right false b h = h

-- ---- the image after a save

-- what a save saves, and the entry that it adds
abbrev saved_into : Image → ℕ → Device → Saved
saved_into image used d = saved_from (chain_form image used) d

abbrev added : Device → Image → ℕ → List ℕ
added d image used = body_bytes (saved_into image used d) ++ trailer_bytes (suc (entries used))

length-added : (d : Device) (image : List ℕ) (used : ℕ) → Valid d → length (added d image used) ≡ entry_size
length-added d image used v =
    length-append (body_bytes (saved_into image used d)) (trailer_bytes (suc (entries used)))
    ∙ rw (length-body (saved_into image used d) (saved-fits (chain_form image used) d v).whole, length-trailer (suc (entries used)))

bytes-added : (d : Device) (image : List ℕ) (used : ℕ) → Valid d → Bytes (added d image used)
bytes-added d image used v =
    bytes-append (body_bytes (saved_into image used d)) (trailer_bytes (suc (entries used)))
    (bytes-body (saved_into image used d) (saved-fits (chain_form image used) d v).readings)
    (bytes-trailer (suc (entries used)))

pub length-saved : (d : Device) (image : List ℕ) (used : ℕ) → length (saved_image d image used) ≡ length image
unfolding saved_image
length-saved d image used = length-sets image used (added d image used)

pub bytes-saved : (d : Device) (image : List ℕ) (used : ℕ) → Valid d → Bytes image → Bytes (saved_image d image used)
unfolding saved_image
bytes-saved d image used v b = bytes-sets (added d image used) image used b (bytes-added d image used v)

-- "other bytes stay": those before the used length, and those from the new used length on
pub saved-before : (d : Device) (image : List ℕ) (used i : ℕ) → i < used → get_or (saved_image d image used) i 0 ≡ get_or image i 0
unfolding saved_image
saved-before d image used i h = get_or_sets_before (added d image used) image used i h

pub saved_after : (d : Device) (image : List ℕ) (used i : ℕ) → Valid d → used + entry_size ≤ i → get_or (saved_image d image used) i 0 ≡ get_or image i 0
unfolding saved_image
saved_after d image used i v h = get_or-sets-after (added d image used) image used i (rw (length-added d image used v) h)

-- the earlier entries hold as before
entry-before : (newest : Saved) (d : Device) (image : List ℕ) (used k : ℕ) → 1 ≤ k → entry_size * k ≤ used
    → entry_holds newest (saved_image d image used) k ≡ entry_holds newest image k
unfolding saved_image entry_holds_under
entry-before newest d image used k low h =
    rw (
      part-before (added d image used) image used (trailer_place k - body_size) body_size (omega arith),
      part-before (added d image used) image used (trailer_place k) trailer_size (omega arith),
    )

-- ---- a save that passes its checks, and the power-on after it

-- what the checks of a save state
pub record SaveAccepted (native : ℕ) (image : List ℕ) (used : ℕ) : Type 0 where
  pub readable_before : Readable image used
  pub own_disk : same_disk native image used ≡ true
  pub few : entries used < entry_limit
  pub room : used + entry_size ≤ length image

pub save-accepted : (native : ℕ) (image : List ℕ) (used : ℕ) → first_failed (save_checks native image used) ≡ 0 → SaveAccepted native image used
save-accepted native image used e =
    let few = ltb (entries used) entry_limit in
    let room = leb (used + entry_size) (length image) in
    let pass = all_pass image_full (save_checks native image used) (omega arith) e in
    record {
      readable_before = readable-parts image used pass.1.0;
      own_disk = pass.1.1.0;
      few = ltb-true (entries used) entry_limit (and_left few room pass.1.1.1.0);
      room = leb-true (used + entry_size) (length image) (and_right few room pass.1.1.1.0);
    }

entries-after : (used : ℕ) → entries (used + entry_size) ≡ suc (entries used)
entries-after used = omega arith

module _ (d : Device) (image : List ℕ) (used : ℕ) (valid : Valid d) (passed : first_failed (save_checks d.native image used) ≡ 0) where
  abbrev now : Saved
  now = saved_into image used d

  accepted : SaveAccepted d.native image used
  accepted = save-accepted d.native image used passed

  -- the entry that a save adds has the form
  pub new-entry : EntryForm now (saved_image d image used) (suc (entries used))
  unfolding saved_image
  new-entry =
      let multiple = accepted.readable_before.multiple in
      let place : entry_size * (suc (entries used) - 1) ≡ used = omega arith in
      record {
        saved = now;
        fits = saved-fits (chain_form image used) d valid;
        ranged = saved-ranged (chain_form image used) d valid;
        like = alike_self now;
        bytes =
            ap (λ (at : ℕ). part (saved_image d image used) at entry_size) place
            ∙ part_same (added d image used) image used entry_size (length-added d image used valid) accepted.room;
      }

  -- the newest entry is what was saved
  pub newest-saved : newest_in (saved_image d image used) (used + entry_size) ≡ now
  unfolding new-entry
  newest-saved =
      ap (λ (n : ℕ). saved_at (body_at (saved_image d image used) n) 0) (entries-after used)
      ∙ form-saved now (saved_image d image used) (suc (entries used)) (omega arith) new-entry

  newest-native : (newest_in (saved_image d image used) (used + entry_size)).native ≡ d.native
  unfolding saved_from
  newest-native = ap (λ (s : Saved). s.native) newest-saved

  -- the earlier entries are this disk's, and the new one is like the newest of them
  like-before : 1 ≤ entries used → AreAlike now (newest_in image used)
  unfolding saved_from
  like-before h =
      record {
        same_native = eqb-true (newest_in image used).native d.native (rw (ne_eqb used 0 (omega arith)) at accepted.own_disk);
        same_form = sym (rw (ne_eqb used 0 (omega arith)) (form-kept (newest_in image used).timers d.settings.read_timer d.settings.write_timer));
      }

  -- every entry of the new image holds
  each_holds : (k : ℕ) → 1 ≤ k → k ≤ suc (entries used) → entry_holds now (saved_image d image used) k ≡ true
  each_holds k low high = go (eqb k (suc (entries used))) refl
    where
      go : (b : Bool) → eqb k (suc (entries used)) ≡ b → entry_holds now (saved_image d image used) k ≡ true
      go true e =
          ap (entry_holds now (saved_image d image used)) (eqb-true k (suc (entries used)) e)
          ∙ form-holds now (saved_image d image used) (suc (entries used)) (omega arith) new-entry
      go false e =
          let other = eqb-false k (suc (entries used)) e in
          entry-before now d image used k low (omega arith)
          ∙ holds-alike now (newest_in image used) image k (like-before (omega arith))
          ∙ accepted.readable_before.each k low (omega arith)

  pub readable-saved : readable (saved_image d image used) (used + entry_size) ≡ true
  readable-saved =
      let multiple = accepted.readable_before.multiple in
      let few = accepted.few in
      parts-readable (saved_image d image used) (used + entry_size)
      (
      record {
        multiple = omega arith;
        most = omega arith;
        each = λ k low high. rw newest-saved (each_holds k low (rw entries-after at high));
      }
      )

  pub same-disk-saved : same_disk d.native (saved_image d image used) (used + entry_size) ≡ true
  same-disk-saved =
      or_right (eqb (used + entry_size) 0) (eqb (newest_in (saved_image d image used) (used + entry_size)).native d.native)
      (eq-eqb (newest_in (saved_image d image used) (used + entry_size)).native d.native newest-native)

  pub restored-saved : restored d.native (saved_image d image used) (used + entry_size) ≡ now
  unfolding restored
  restored-saved = rw (ne_eqb (used + entry_size) 0 (omega arith)) newest-saved

  -- THEOREM: after a save, power-on with the new image passes its checks (and restores what was saved, by restored-saved).
  pub power-on-after-save : (disk : Disk) → HasSize d.native disk
      → first_failed (power_on_checks disk (saved_image d image used) (used + entry_size)) ≡ 0
  power-on-after-save disk e =
      let sizes = valid.sizes in
      let count = native-size d.native disk e in
      pass_all (power_on_checks disk (saved_image d image used) (used + entry_size)) (
        well-sized d.native disk e (omega arith) (omega arith),
        (
          le-leb (used + entry_size) (length (saved_image d image used)) (rw (length-saved d image used) accepted.room),
          (readable-saved, (rw count same-disk-saved, tt)),
        ),
      )

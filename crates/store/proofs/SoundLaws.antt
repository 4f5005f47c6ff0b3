-- Soundness is document 01's list of clauses, neither weaker nor stricter, and a sound record is the record of exactly one device.
use mathlib.Core.Path.{◌≡◌, refl, sym, ap, ◌∙◌, subst}
use mathlib.Core.Bool.{Bool, true, ◌&&◌}
use mathlib.Core.Logic.{◌↔◌}
use Prim.Native.Nat.{ℕ, ◌+◌, ◌^◌, ◌<◌}
use native.Mathlib.Omega.{arith}
use mathlib.Core.List.{List, [], ◌∷◌}
use lib.ListN.{length}
use lib.Dec.{eqb, leb, ltb}
use borrow.Author.Tests.{eqb-true, eqb-false, eq-eqb, ne_eqb, leb-true, le-leb, ltb-true, lt-ltb, not-true}
use Rattle.wire.specs.Bytes.{Bytes, same}
use Rattle.wire.proofs.ChoiceLaws.{and_left, and_right, and-three, three-and}
use Rattle.wire.proofs.PartsLaws.{length_part}
use Rattle.wire.proofs.BytesLaws.{bytes-part, get-fits, same_refl, same_true}
use Rattle.model.specs.Sizes.{native_limit, history_size}
use Rattle.model.specs.Device.{Fill, idle, running, Transfer, none, table, fill_data, read_long, write_long, Device}
use Rattle.model.specs.Key.{timer_named, states_named}
use Rattle.model.proofs.StateLaws.{timer-range, range-timer, states-ranges, ranges-states}
use Rattle.model.specs.Temperature.{table_head_size}
use Rattle.model.specs.Fill.{running_code}
use Rattle.model.specs.Valid.{FillValid, TransferValid, PendingValid, pending_count, pending_limit, CodeValid, CommandValid, SettingsValid, Valid}
use Rattle.model.proofs.ValidClauses.{Clauses, Stored, valid-clauses, clauses-valid}
use Rattle.store.specs.Areas.{record_size, head_size}
use Rattle.store.specs.Record.{Contents, encode, decode}
use Rattle.store.specs.Sound.{fill_sound, transfer_sound, pending_sound, command_sound, settings_sound, device_sound, sound}
use Rattle.store.proofs.RecordLaws.{ContentsFit, ContentsValid, valid-fits, length-encode, bytes-encode, decode-encode}

-- ---- the tests are the clauses

fill-clauses : (visible code : ℕ) (f : Fill) → fill_sound visible code f ≡ true → CodeValid f code × FillValid visible f
fill-clauses visible code idle e = (eqb-false code running_code (not-true (eqb code running_code) e), tt)
fill-clauses visible code (running first next end) e =
    let w = and-three (eqb code running_code && leb first next) (ltb next end) (leb end visible) e in
    let c = eqb-true code running_code (and_left (eqb code running_code) (leb first next) w.0) in
    let low = leb-true first next (and_right (eqb code running_code) (leb first next) w.0) in
    (c, (low, ltb-true next end w.1, leb-true end visible w.2))

fill-tests : (visible code : ℕ) (f : Fill) → CodeValid f code → FillValid visible f → fill_sound visible code f ≡ true
fill-tests visible code idle c v = rw (ne_eqb code running_code c)
fill-tests visible code (running first next end) c v =
    rw (eq-eqb code running_code c, le-leb first next v.0, lt-ltb next end v.1, le-leb end visible v.2)

transfer-clauses : (visible : ℕ) (t : Transfer) → transfer_sound visible t ≡ true → TransferValid visible t
transfer-clauses visible none e = tt
transfer-clauses visible table e = tt
transfer-clauses visible (fill_data first end) e =
    (ltb-true first end (and_left (ltb first end) (leb end visible) e), leb-true end visible (and_right (ltb first end) (leb end visible) e))
transfer-clauses visible (read_long lba) e = ltb-true lba visible e
transfer-clauses visible (write_long lba) e = ltb-true lba visible e

transfer-tests : (visible : ℕ) (t : Transfer) → TransferValid visible t → transfer_sound visible t ≡ true
transfer-tests visible none v = refl
transfer-tests visible table v = refl
transfer-tests visible (fill_data first end) v = rw (lt-ltb first end v.0, le-leb end visible v.1)
transfer-tests visible (read_long lba) v = lt-ltb lba visible v
transfer-tests visible (write_long lba) v = lt-ltb lba visible v

pending-clauses : (visible : ℕ) (ts : List Transfer) → pending_sound visible ts ≡ true → PendingValid visible ts
pending-clauses visible [] e = tt
pending-clauses visible (t ∷ ts) e = (
  transfer-clauses visible t (and_left (transfer_sound visible t) (pending_sound visible ts) e),
  pending-clauses visible ts (and_right (transfer_sound visible t) (pending_sound visible ts) e),
)

pending-tests : (visible : ℕ) (ts : List Transfer) → PendingValid visible ts → pending_sound visible ts ≡ true
pending-tests visible [] v = refl
pending-tests visible (t ∷ ts) v = rw (transfer-tests visible t v.0, pending-tests visible ts v.1)

-- what the widths of the record's fields state about a device, in addition to the clauses
pub record DeviceFits (d : Device) : Type 0 where
  pub command_words : (d.command.code < 256 ^ 2) × (d.command.action < 256 ^ 2) × (d.command.function < 256 ^ 2)
  pub timers : (d.settings.read_timer < 256 ^ 2) × (d.settings.write_timer < 256 ^ 2)
  pub transfers : length d.command.pending ≡ 4
  pub history : length d.thermal.history ≡ history_size
  pub readings : Bytes d.thermal.history
  pub temperatures : (d.thermal.current < 256) × (d.thermal.cycle_maximum < 256) × (d.thermal.life_maximum < 256)

module _ (d : Device) where
  abbrev sizes_test : Bool
  sizes_test = leb 1 d.visible && leb d.visible d.native && leb d.native native_limit

  abbrev minutes_test : Bool
  minutes_test = ltb d.thermal.minutes d.settings.log_interval.state && ltb d.thermal.index history_size

  command-clauses : DeviceFits d → command_sound d.visible d.command ≡ true → CommandValid d.visible d.command
  unfolding command_sound
  command-clauses f e =
      let c = d.command in
      let w = and-three (fill_sound d.visible c.code c.fill) (pending_sound d.visible c.pending) (leb (pending_count c.pending) (pending_limit c.fill)) e in
      let k = fill-clauses d.visible c.code c.fill w.0 in
      record {
        code_valid = k.0;
        fill_valid = k.1;
        pending_valid = pending-clauses d.visible c.pending w.1;
        only_one = leb-true (pending_count c.pending) (pending_limit c.fill) w.2;
        places = f.transfers;
        words = f.command_words;
      }

  command-tests : CommandValid d.visible d.command → command_sound d.visible d.command ≡ true
  unfolding command_sound
  command-tests v =
      let c = d.command in
      rw (fill-tests d.visible c.code c.fill v.code_valid v.fill_valid, pending-tests d.visible c.pending v.pending_valid)
      (le-leb (pending_count c.pending) (pending_limit c.fill) v.only_one)

  settings-clauses : DeviceFits d → settings_sound d.settings ≡ true → SettingsValid d.settings
  unfolding settings_sound
  settings-clauses f e =
      let s = d.settings in
      let w = and-three (timer_named s.read_timer) (timer_named s.write_timer) (states_named s.write_cache.state s.reordering.state s.log_interval.state) e in
      let states = states-ranges s.write_cache.state s.reordering.state s.log_interval.state w.2 in
      record {
        read_valid = timer-range s.read_timer w.0;
        write_valid = timer-range s.write_timer w.1;
        cache_valid = states.0;
        reordering_valid = states.1;
        interval_valid = states.2;
        words = f.timers;
      }

  settings-tests : SettingsValid d.settings → settings_sound d.settings ≡ true
  unfolding settings_sound
  settings-tests v =
      let s = d.settings in
      rw (
        range-timer s.read_timer v.read_valid,
        range-timer s.write_timer v.write_valid,
      )
      (ranges-states s.write_cache.state s.reordering.state s.log_interval.state v.cache_valid v.reordering_valid v.interval_valid)

  -- if the clauses hold, the tests pass ..
  pub clauses-tests : Valid d → device_sound d ≡ true
  unfolding device_sound
  clauses-tests v =
      rw (
        le-leb 1 d.visible v.sizes.0,
        le-leb d.visible d.native v.sizes.1,
        le-leb d.native native_limit v.sizes.2,
        command-tests v.command_valid,
        settings-tests v.settings_valid,
        lt-ltb d.thermal.minutes d.settings.log_interval.state v.thermal_valid.minutes_valid,
      )
      (lt-ltb d.thermal.index _ (omega (arith, v.thermal_valid.index_valid)))

  -- .. and every test implies its clause
  pub tests-clauses : DeviceFits d → device_sound d ≡ true → Valid d
  unfolding device_sound
  tests-clauses f e =
      let w = and-three (sizes_test && command_sound d.visible d.command) (settings_sound d.settings) minutes_test e in
      let a = and_left sizes_test (command_sound d.visible d.command) w.0 in
      let z = and-three (leb 1 d.visible) (leb d.visible d.native) (leb d.native native_limit) a in
      record {
        sizes = (leb-true 1 d.visible z.0, leb-true d.visible d.native z.1, leb-true d.native native_limit z.2);
        command_valid = command-clauses f (and_right sizes_test (command_sound d.visible d.command) w.0);
        settings_valid = settings-clauses f w.1;
        thermal_valid =
            record {
              minutes_valid = ltb-true d.thermal.minutes d.settings.log_interval.state (and_left (ltb d.thermal.minutes d.settings.log_interval.state) (ltb d.thermal.index history_size) w.2);
              index_valid = ltb-true d.thermal.index history_size (and_right (ltb d.thermal.minutes d.settings.log_interval.state) (ltb d.thermal.index history_size) w.2);
              whole = f.history;
              readings = f.readings;
              bytes = f.temperatures;
            };
      }

-- ---- the values of a record fit their places

device-fits : (r : List ℕ) → Bytes r → length r ≡ record_size → DeviceFits (decode r).device
unfolding decode
device-fits r b size =
    record {
      command_words = (get-fits 2 r 20 b, get-fits 2 r 22 b, get-fits 2 r 24 b);
      timers = (get-fits 2 r 26 b, get-fits 2 r 28 b);
      transfers = refl;
      history = length_part r (head_size + table_head_size) history_size (omega arith);
      readings = bytes-part r (head_size + table_head_size) history_size b;
      temperatures = (get-fits 1 r 40 b, get-fits 1 r 41 b, get-fits 1 r 42 b);
    }

-- ---- sound records

pub record SoundParts (r : List ℕ) : Type 0 where
  pub size : length r ≡ record_size
  pub again : encode (decode r) ≡ r
  pub tests : device_sound (decode r).device ≡ true

pub sound-parts : (r : List ℕ) → sound r ≡ true → SoundParts r
unfolding sound
sound-parts r e =
    let w = and-three (eqb (length r) record_size) (same (encode (decode r)) r) (device_sound (decode r).device) e in
    record { size = eqb-true (length r) record_size w.0; again = same_true (encode (decode r)) r w.1; tests = w.2 }

pub parts-sound : (r : List ℕ) → SoundParts r → sound r ≡ true
unfolding sound
parts-sound r p =
    three-and (eqb (length r) record_size) (same (encode (decode r)) r) (device_sound (decode r).device)
    (eq-eqb (length r) record_size p.size)
    (rw p.again (same_refl r))
    p.tests

-- THEOREM: the contents of a sound record meet document 01's clauses.
pub sound-valid : (r : List ℕ) → Bytes r → sound r ≡ true → ContentsValid (decode r)
sound-valid r b e =
    let p = sound-parts r e in
    record { device = tests-clauses (decode r).device (device-fits r b p.size) p.tests; four = four }
  where
    four : length (decode r).stages ≡ 4
    four = unfold decode in refl

-- THEOREM: the same in document 01's numbers, clause by clause.
pub sound-clauses : (r : List ℕ) → Bytes r → sound r ≡ true → Clauses (decode r).device
sound-clauses r b e = valid-clauses (decode r).device (sound-valid r b e).device

-- THEOREM: the record of contents that meet the clauses is sound.
pub sound-encode : (c : Contents) → ContentsValid c → sound (encode c) ≡ true
sound-encode c v =
    let back = decode-encode c (valid-fits c v) in
    parts-sound (encode c)
    (record {
      size = length-encode c (valid-fits c v);
      again = ap encode back;
      tests = ap (λ (x : Contents). device_sound x.device) back ∙ clauses-tests c.device v.device;
    })

-- .. again in document 01's numbers; the other requirement is that the values fit their places
pub clauses-sound : (c : Contents) → Clauses c.device → Stored c.device → length c.stages ≡ 4 → sound (encode c) ≡ true
clauses-sound c clauses stored four = sound-encode c (record { device = clauses-valid c.device clauses stored; four = four })

-- THEOREM: values that fit their places meet the clauses exactly if their record is sound.
pub sound-exactly : (c : Contents) → ContentsFit c → (sound (encode c) ≡ true) ↔ ContentsValid c
sound-exactly c f =
    (λ e. subst ContentsValid (decode-encode c f) (sound-valid (encode c) (bytes-encode c f) e), sound-encode c)

-- THEOREM: every sound record is the record of exactly one device with its stages.
pub sound-unique : (r : List ℕ) → Bytes r → sound r ≡ true → ContentsFit (decode r) × (encode (decode r) ≡ r) × ((c : Contents) → ContentsFit c → encode c ≡ r → c ≡ decode r)
sound-unique r b e =
    (valid-fits (decode r) (sound-valid r b e), (sound-parts r e).again, λ c f same. sym (decode-encode c f) ∙ ap decode same)

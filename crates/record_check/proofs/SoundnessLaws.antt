-- The tests that the code makes are equivalent to soundness.
use mathlib.Core.Path.{◌≡◌, ap, ◌∙◌}
use mathlib.Core.Bool.{Bool, ◌&&◌}
use mathlib.Core.List.{List}
use Prim.Native.Nat.{ℕ}
use lib.ListN.{length}
use lib.Dec.{leb, ltb}
use borrow.Author.Tests.{eq-eqb}
use Rattle.wire.specs.Bytes.{Bytes}
use Rattle.model.specs.Sizes.{native_limit, history_size}
use Rattle.store.specs.Areas.{record_size, head_size}
use Rattle.store.specs.Record.{decode}
use Rattle.store.specs.Sound.{command_sound, settings_sound, device_sound, sound}
use Rattle.store.specs.RecordTests.{spare_runs, zero_runs, flags_named, fill_named, slot_named, table_fixed, sound_in_place}
use Rattle.store.proofs.RecordTestLaws.{sound-in-place}
use Rattle.record.specs.DeviceMeaning.{as_settings}
use Rattle.record.specs.declared.device as code

pub tests-sound : (r : List ℕ) → Bytes r → length r ≡ record_size
    → (zero_runs spare_runs r && flags_named r && fill_named r && (slot_named r 0 && slot_named r 1 && (slot_named r 2 && slot_named r 3)) && table_fixed r head_size && device_sound (decode r).device)
    ≡ sound r
unfolding sound_in_place
tests-sound r b size = rw (sound-in-place r b, eq-eqb (length r) record_size size)

-- the clauses, on values that are read part by part
pub device-tests : (r : List ℕ) {native visible minutes index : ℕ} (s : code.Settings.Settings) {command settings : Bool}
    → native ≡ (decode r).device.native → visible ≡ (decode r).device.visible → command ≡ command_sound visible (decode r).device.command
    → settings ≡ settings_sound (as_settings s) → as_settings s ≡ (decode r).device.settings
    → minutes ≡ (decode r).device.thermal.minutes → index ≡ (decode r).device.thermal.index
    → ((leb 1 visible && leb visible native && leb native native_limit) && command && settings && (ltb minutes s.log_interval.state && ltb index history_size)) ≡ device_sound (decode r).device
unfolding device_sound
device-tests r s n v c t says m x =
    let last = c ∙ ap (λ (w : ℕ). command_sound w (decode r).device.command) v in
    let kept = t ∙ ap settings_sound says in
    λ i.
    (leb 1 (v i) && leb (v i) (n i) && leb (n i) native_limit)
    && last i
    && kept i
    && (ltb (m i) (says i).log_interval.state && ltb (x i) history_size)

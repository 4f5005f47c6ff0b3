-- A sample on the record's bytes: its history holds the sample if it is logged, and the values of the struct are written as well.
use mathlib.Core.Path.{◌≡◌, refl, ap, ◌∙◌}
use mathlib.Core.Bool.{Bool, true, false}
use mathlib.Core.List.{List}
use Prim.Native.Nat.{ℕ, suc, ◌+◌, ◌<◌}
use native.Mathlib.Omega.{arith}
use lib.ListN.{set}
use lib.Dec.{ltb, eqb}
use borrow.Author.Tests.{eqb-false}
use Rattle.std.specs.Prelude.{if◌then◌else◌}
use Rattle.wire.specs.Bytes.{Bytes}
use Rattle.model.specs.Sizes.{history_size}
use Rattle.model.specs.Update.{with_thermal}
use Rattle.model.specs.Device.{Thermal}
use Rattle.model.specs.Temperature.{table_head_size, next_index}
use Rattle.model.specs.Owner.{sample}
use Rattle.store.specs.Areas.{head_size}
use Rattle.store.specs.Record.{Contents, decode, encode}
use Rattle.store.specs.Sound.{sound}
use Rattle.store.specs.Entries.{owner_done, with_device}
use Rattle.store.proofs.SoundLaws.{sound-valid}
use Rattle.record.specs.declared.device as code
use Rattle.record.specs.DeviceMeaning.{as_device, as_contents, history_of}
use Rattle.record_write.specs.Framed.{Framed}
use Rattle.record_write.proofs.FramedLaws.{logged-framed}
use Rattle.record_write.proofs.HistoryLaws.{history-logged}
use Rattle.temperature.specs.Sampled.{logged_history, Sampled, SampledDevice, logged_record}

abbrev with_thermal_of : code.Device.Device → code.Thermal.Thermal → code.Device.Device
with_thermal_of d t =
    record {
      native = d.native;
      visible = d.visible;
      locked = d.locked;
      initialized = d.initialized;
      command = d.command;
      settings = d.settings;
      thermal = t;
      slots = d.slots;
    }

pub sampled-says : (reading : ℕ) (d : code.Device.Device) (t : code.Thermal.Thermal) → Sampled d.thermal d.settings.log_interval.state reading t
    → SampledDevice reading d (with_thermal_of d t)
unfolding sample
sampled-says reading d t s = record { device = λ h. ap (λ (x : Thermal). with_thermal x (as_device d h)) (s.thermal h); stages = refl }

-- the next place is within the history
pub next-within : (index : ℕ) → index < history_size → next_index index < history_size
next-within index h = go (eqb (suc index) history_size) refl
  where
    go : (b : Bool) → eqb (suc index) history_size ≡ b → (if b then 0 else suc index) < history_size
    go true e = omega arith
    go false e = let ne = eqb-false (suc index) history_size e in omega arith

module _ (t : code.Thermal.Thermal) (interval reading : ℕ) (r : List ℕ) where
  abbrev later : Bool
  later = ltb (suc t.minutes) interval

  pub log-framed : Framed r → Framed (logged_record t interval reading r)
  log-framed f = go later
    where
      go : (b : Bool) → Framed (if b then r else set r (head_size + table_head_size + next_index t.index) reading)
      go true = f
      go false = logged-framed r (next_index t.index) reading f

  pub log-history : t.index < history_size → history_of (logged_record t interval reading r) ≡ logged_history t interval reading (history_of r)
  log-history h = go later
    where
      go : (b : Bool) → history_of (if b then r else set r (head_size + table_head_size + next_index t.index) reading) ≡ (if b then history_of r else set (history_of r) (next_index t.index) reading)
      go true = refl
      go false = history-logged r (next_index t.index) reading (next-within t.index h)

module _ (reading : ℕ) (r : List ℕ) (d : code.Device.Device) (says : as_contents d (history_of r) ≡ decode r) where
  -- "minutes counted are below it, the history index is at most 477"
  pub sample-ready : Bytes r → sound r ≡ true → (d.thermal.minutes < d.settings.log_interval.state) × (d.thermal.index < history_size)
  sample-ready b s =
      let v = (sound-valid r b s).device.thermal_valid in
      let m = ap (λ (c : Contents). c.device.thermal.minutes) says in
      let n = ap (λ (c : Contents). c.device.settings.log_interval.state) says in
      let x = ap (λ (c : Contents). c.device.thermal.index) says in
      (omega (arith, m, n, v.minutes_valid), omega (arith, x, v.index_valid))

  pub sample-written : (e : code.Device.Device) → d.thermal.index < history_size → SampledDevice reading d e
      → encode (as_contents e (history_of (logged_record d.thermal d.settings.log_interval.state reading r))) ≡ (owner_done (sample reading) r).record_area
  sample-written e x s =
      ap (λ (h : List ℕ). encode (as_contents e h)) (log-history d.thermal d.settings.log_interval.state reading r x)
      ∙ ap encode
      ((λ i. record { device = s.device (history_of r) i; stages = s.stages i })
      ∙ ap (λ (c : Contents). with_device (sample reading c.device) c) says)

-- Every change of the device keeps its values in document 01's ranges.
use mathlib.Core.Path.{◌≡◌, refl, sym, ◌∙◌, subst}
use mathlib.Core.Bool.{Bool, true, false}
use mathlib.Core.Logic.{◌⊎◌, inl, inr}
use Prim.Native.Nat.{ℕ, zero, suc, ◌+◌, ◌^◌, ◌≤◌, ◌<◌}
use native.Mathlib.Omega.{arith}
use mathlib.Core.List.{List, [], ◌∷◌}
use lib.ListN.{length, set, length-set, replicate, length-replicate}
use lib.Signed.{le_z}
use lib.Dec.{eqb, ltb}
use borrow.Author.Tests.{eqb-false, ltb-true}
use Rattle.std.specs.Prelude.{if◌then◌else◌}
use Rattle.wire.specs.Bytes.{Bytes}
use Rattle.wire.proofs.BytesLaws.{bytes-set, bytes-replicate}
use Rattle.model.specs.Sizes.{port_count, history_size, missing}
use Rattle.model.specs.Device.{Fill, idle, running, Transfer, none, table, fill_data, read_long, write_long, Command, Settings, Thermal, Device}
use Rattle.model.specs.Update.{with_command, with_settings, with_initialized, with_locked, with_code, with_key, with_fill, with_pending}
use Rattle.model.specs.Registers.{Direction, read, write}
use Rattle.model.specs.Key.{FeatureName, write_cache, reordering, log_interval, highest_state}
use Rattle.model.specs.Temperature.{signed, new_maximum, next_index, sampled, history_emptied}
use Rattle.model.specs.Fill.{running_code, start_fill, nothing_pending, stop_fill, interrupt, whole_disk, advanced}
use Rattle.model.specs.Decide.{with_timer, with_feature, after_feature}
use Rattle.model.specs.Valid.{FillValid, TransferValid, PendingValid, pending_count, pending_limit, CommandValid, TimerValid, SettingsValid, ThermalValid, Valid}
use Rattle.model.proofs.KeyLaws.{feature_number}
use Rattle.model.proofs.TemperatureLaws.{index-small}
use Rattle.model.proofs.OwnerLaws.{Quiet}
use Rattle.model.proofs.RequestLaws.{interrupt-kept}

-- ---- parts of the device that have no range

pub initialized-valid : (b : Bool) (d : Device) → Valid d → Valid (with_initialized b d)
initialized-valid b d v =
    record { sizes = v.sizes; command_valid = v.command_valid; settings_valid = v.settings_valid; thermal_valid = v.thermal_valid }

pub locked-valid : (b : Bool) (d : Device) → Valid d → Valid (with_locked b d)
locked-valid b d v =
    record { sizes = v.sizes; command_valid = v.command_valid; settings_valid = v.settings_valid; thermal_valid = v.thermal_valid }

-- ---- the command

pub command-valid : (c : Command) (d : Device) → Valid d → CommandValid d.visible c → Valid (with_command c d)
command-valid c d v k = record { sizes = v.sizes; command_valid = k; settings_valid = v.settings_valid; thermal_valid = v.thermal_valid }

-- after an interrupt the command is valid for any visible size
pub interrupt-command : (visible other : ℕ) (d : Device) → CommandValid visible d.command → CommandValid other (interrupt d).command
unfolding interrupt
interrupt-command visible other d v = go d.command.fill refl
  where
    go : (f : Fill) → d.command.fill ≡ f → CommandValid other (with_pending nothing_pending (stop_fill f d)).command
    go idle e =
        record {
          code_valid = v.code_valid;
          fill_valid = subst (FillValid other) (sym e) tt;
          pending_valid = (tt, (tt, (tt, (tt, tt))));
          only_one = omega arith;
          places = refl;
          words = v.words;
        }
    go (running first next end) e =
        record {
          code_valid = λ k. omega arith;
          fill_valid = tt;
          pending_valid = (tt, (tt, (tt, (tt, tt))));
          only_one = omega arith;
          places = refl;
          words = (omega arith, v.words.1, v.words.2);
        }

pub interrupt-valid : (d : Device) → Valid d → Valid (interrupt d)
interrupt-valid d v =
    rw (interrupt-kept d) (command-valid (interrupt d).command d v (interrupt-command d.visible d.visible d v.command_valid))

-- a code other than FFFFh, when no fill runs
pub code-valid : (n : ℕ) (d : Device) → Valid d → d.command.fill ≡ idle → n < running_code → Valid (with_code n d)
code-valid n d v e h =
    let c = v.command_valid in
    command-valid _ d v
    (record {
      code_valid = rw e (λ k. omega arith);
      fill_valid = c.fill_valid;
      pending_valid = c.pending_valid;
      only_one = c.only_one;
      places = c.places;
      words = (omega arith, c.words.1, c.words.2);
    })

pub key-valid : (a f : ℕ) (d : Device) → Valid d → a < 256 ^ 2 → f < 256 ^ 2 → Valid (with_key a f d)
key-valid a f d v h k =
    let c = v.command_valid in
    command-valid _ d v
    (record {
      code_valid = c.code_valid;
      fill_valid = c.fill_valid;
      pending_valid = c.pending_valid;
      only_one = c.only_one;
      places = c.places;
      words = (c.words.0, h, k);
    })

-- ---- the fill

pub start-valid : (first end : ℕ) (d : Device) → Valid d → Quiet d → first < end → end ≤ d.visible → Valid (start_fill first end d)
start-valid first end d v q h k =
    let c = v.command_valid in
    command-valid _ d v
    (record {
      code_valid = refl;
      fill_valid = (omega arith, h, k);
      pending_valid = c.pending_valid;
      only_one = rw q.no_transfer (omega arith);
      places = c.places;
      words = (omega arith, c.words.1, c.words.2);
    })

-- one sector further
pub advanced-valid : (first next end : ℕ) (d : Device) → Valid d → d.command.fill ≡ running first next end → Valid (advanced first (suc next) end d)
advanced-valid first next end d v e = go (eqb (suc next) end) refl (subst (FillValid d.visible) e c.fill_valid) (subst (λ (f : Fill). pending_count d.command.pending ≤ pending_limit f) e c.only_one)
  where
    c : CommandValid d.visible d.command
    c = v.command_valid

    go : (b : Bool) → eqb (suc next) end ≡ b → FillValid d.visible (running first next end) → pending_count d.command.pending ≤ 0
        → Valid (if b then with_initialized (whole_disk first end d.visible) (with_fill idle 0x0000 d) else with_fill (running first (suc next) end) running_code d)
    go true q f o =
        initialized-valid _ (with_fill idle 0x0000 d)
        (command-valid _ d v
        (record {
          code_valid = λ k. omega arith;
          fill_valid = tt;
          pending_valid = c.pending_valid;
          only_one = omega arith;
          places = c.places;
          words = (omega arith, c.words.1, c.words.2);
        }))
    go false q f o =
        let ne = eqb-false (suc next) end q in
        command-valid _ d v
        (record {
          code_valid = refl;
          fill_valid = (omega (arith, f.0), omega (arith, f.1), f.2);
          pending_valid = c.pending_valid;
          only_one = o;
          places = c.places;
          words = (omega arith, c.words.1, c.words.2);
        })

-- ---- a pending transfer

set-pending : (visible : ℕ) (ts : List Transfer) (p : ℕ) (t : Transfer) → PendingValid visible ts → TransferValid visible t → PendingValid visible (set ts p t)
set-pending visible [] p t v k = v
set-pending visible (x ∷ ts) zero t v k = (k, v.1)
set-pending visible (x ∷ ts) (suc p) t v k = (v.0, set-pending visible ts p t v.1 k)

count_none : (n : ℕ) → pending_count (replicate n none) ≡ 0
count_none zero = refl
count_none (suc n) = count_none n

-- a transfer in front of others counts 1, unless it is none
abbrev pub FirstCounts : Transfer → List Transfer → Type 0
FirstCounts t ts = ((t ≡ none) × (pending_count (t ∷ ts) ≡ pending_count ts)) ⊎ (pending_count (t ∷ ts) ≡ 1 + pending_count ts)

pub count-first : (t : Transfer) (ts : List Transfer) → FirstCounts t ts
count-first none ts = inl (refl, refl)
count-first table ts = inr refl
count-first (fill_data first end) ts = inr refl
count-first (read_long lba) ts = inr refl
count-first (write_long lba) ts = inr refl

pub count-bounds : (t : Transfer) (ts : List Transfer) → (pending_count ts ≤ pending_count (t ∷ ts)) × (pending_count (t ∷ ts) ≤ 1 + pending_count ts)
count-bounds t ts = go (count-first t ts)
  where
    go : FirstCounts t ts → (pending_count ts ≤ pending_count (t ∷ ts)) × (pending_count (t ∷ ts) ≤ 1 + pending_count ts)
    go (inl e) = (omega (arith, e.1), omega (arith, e.1))
    go (inr e) = (omega (arith, e), omega (arith, e))

-- with one transfer set and no other, at most one is pending
count_set : (n p : ℕ) (t : Transfer) → pending_count (set (replicate n none) p t) ≤ 1
count_set zero p t = omega arith
count_set (suc n) zero t = omega (arith, count_none n, (count-bounds t (replicate n none)).1)
count_set (suc n) (suc p) t = count_set n p t

pub pending-valid : (p : ℕ) (t : Transfer) (d : Device) → Valid d → Quiet d → TransferValid d.visible t → Valid (with_pending (set d.command.pending p t) d)
pending-valid p t d v q k =
    let c = v.command_valid in
    command-valid _ d v
    (record {
      code_valid = c.code_valid;
      fill_valid = c.fill_valid;
      pending_valid = set-pending d.visible d.command.pending p t c.pending_valid k;
      only_one = rw (q.no_fill, q.no_transfer) (count_set port_count p t);
      places = length-set d.command.pending p t ∙ c.places;
      words = c.words;
    })

-- ---- settings and temperatures

pub settings-valid : (s : Settings) (d : Device) → Valid d → SettingsValid s → ThermalValid s.log_interval.state d.thermal → Valid (with_settings s d)
settings-valid s d v k t = record { sizes = v.sizes; command_valid = v.command_valid; settings_valid = k; thermal_valid = t }

pub timer-set : (t : Direction) (n : ℕ) (d : Device) → Valid d → TimerValid n → n < 256 ^ 2 → Valid (with_settings (with_timer t n d.settings) d)
timer-set read n d v k h =
    let s = v.settings_valid in
    settings-valid _ d v
    (record {
      read_valid = k;
      write_valid = s.write_valid;
      cache_valid = s.cache_valid;
      reordering_valid = s.reordering_valid;
      interval_valid = s.interval_valid;
      words = (h, s.words.1);
    })
    v.thermal_valid
timer-set write n d v k h =
    let s = v.settings_valid in
    settings-valid _ d v
    (record {
      read_valid = s.read_valid;
      write_valid = k;
      cache_valid = s.cache_valid;
      reordering_valid = s.reordering_valid;
      interval_valid = s.interval_valid;
      words = (s.words.0, h);
    })
    v.thermal_valid

-- an emptied history is valid for any interval
emptied-valid : (interval other : ℕ) (t : Thermal) → 1 ≤ other → ThermalValid interval t → ThermalValid other (history_emptied t)
unfolding history_emptied
emptied-valid interval other t h v =
    record {
      minutes_valid = h;
      index_valid = omega arith;
      whole = length-replicate history_size missing;
      readings = bytes-replicate history_size missing (omega arith);
      bytes = v.bytes;
    }

pub feature-set : (f : FeatureName) (n : ℕ) (keep : Bool) (d : Device) → Valid d → 1 ≤ n → n ≤ highest_state (feature_number f)
    → Valid (after_feature f (with_settings (with_feature f (record { state = n; persistent = keep }) d.settings) d))
feature-set write_cache n keep d v h k =
    let s = v.settings_valid in
    settings-valid _ d v
    (record {
      read_valid = s.read_valid;
      write_valid = s.write_valid;
      cache_valid = (h, k);
      reordering_valid = s.reordering_valid;
      interval_valid = s.interval_valid;
      words = s.words;
    })
    v.thermal_valid
feature-set reordering n keep d v h k =
    let s = v.settings_valid in
    settings-valid _ d v
    (record {
      read_valid = s.read_valid;
      write_valid = s.write_valid;
      cache_valid = s.cache_valid;
      reordering_valid = (h, k);
      interval_valid = s.interval_valid;
      words = s.words;
    })
    v.thermal_valid
feature-set log_interval n keep d v h k =
    let s = v.settings_valid in
    record {
      sizes = v.sizes;
      command_valid = v.command_valid;
      settings_valid =
          record {
            read_valid = s.read_valid;
            write_valid = s.write_valid;
            cache_valid = s.cache_valid;
            reordering_valid = s.reordering_valid;
            interval_valid = (h, k);
            words = s.words;
          };
      thermal_valid = emptied-valid d.settings.log_interval.state n d.thermal h v.thermal_valid;
    }

maximum-byte : (sample old : ℕ) → sample < 256 → old < 256 → new_maximum sample old < 256
unfolding new_maximum
maximum-byte sample old h k = go (eqb sample missing) (eqb old missing) (le_z (signed sample) (signed old))
  where
    go : (a b c : Bool) → (if a then old else if b then sample else if c then old else sample) < 256
    go true b c = k
    go false true c = h
    go false false true = k
    go false false false = h

pub sampled-valid : (interval sample : ℕ) (t : Thermal) → sample < 256 → 1 ≤ interval → ThermalValid interval t → ThermalValid interval (sampled interval sample t)
unfolding sampled
sampled-valid interval sample t h i v =
    record {
      minutes_valid = minutes (ltb (suc t.minutes) interval) refl;
      index_valid = index (ltb (suc t.minutes) interval);
      whole = whole (ltb (suc t.minutes) interval);
      readings = readings (ltb (suc t.minutes) interval);
      bytes = (h, maximum-byte sample t.cycle_maximum h v.bytes.1, maximum-byte sample t.life_maximum h v.bytes.2);
    }
  where
    minutes : (b : Bool) → ltb (suc t.minutes) interval ≡ b → (if b then suc t.minutes else 0) < interval
    minutes true e = ltb-true (suc t.minutes) interval e
    minutes false e = i

    index : (b : Bool) → (if b then t.index else next_index t.index) < history_size
    index true = v.index_valid
    index false = index-small t.index v.index_valid

    whole : (b : Bool) → length (if b then t.history else set t.history (next_index t.index) sample) ≡ history_size
    whole true = v.whole
    whole false = length-set t.history (next_index t.index) sample ∙ v.whole

    readings : (b : Bool) → Bytes (if b then t.history else set t.history (next_index t.index) sample)
    readings true = v.readings
    readings false = bytes-set t.history (next_index t.index) sample v.readings h

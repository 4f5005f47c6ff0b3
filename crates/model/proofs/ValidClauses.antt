-- A device is valid exactly if it meets document 01's clauses, in its words and numbers ("A record is sound when").
use mathlib.Core.Path.{◌≡◌, refl}
use mathlib.Core.Logic.{◌⊎◌}
use Prim.Native.Nat.{ℕ, suc, ◌^◌, ◌≤◌, ◌<◌}
use native.Mathlib.Omega.{arith}
use mathlib.Core.List.{List, [], ◌∷◌}
use lib.ListN.{length, get_or}
use Rattle.wire.specs.Bytes.{Bytes}
use Rattle.model.specs.Device.{Fill, idle, running, Transfer, none, table, fill_data, read_long, write_long, Device}
use Rattle.model.specs.Registers.{Direction, read, write}
use Rattle.model.specs.Decide.{long_transfer}
use Rattle.model.specs.Valid.{FillValid, TransferValid, PendingValid, pending_count, pending_limit, CodeValid, Valid}
use Rattle.model.proofs.ValidRequest.{pending-for, empty-rest}

pub record Clauses (d : Device) : Type 0 where
  -- "1 ≤ V ≤ N ≤ 65,536"; W-207: "Sound records .. take the new limit"
  pub sizes : (1 ≤ d.visible) × (d.visible ≤ d.native) × (d.native ≤ 16777216)
  -- "if a fill runs, first ≤ next < end ≤ V"
  pub fill : (first next end : ℕ) → d.command.fill ≡ running first next end → (first ≤ next) × (next < end) × (end ≤ d.visible)
  -- "an owed fill has first < end ≤ V"
  pub fill_sector : (p first end : ℕ) → get_or d.command.pending p none ≡ fill_data first end → (first < end) × (end ≤ d.visible)
  -- W-202: "In a sound record an owed Long transfer has its LBA below V."
  pub long : (dir : Direction) (p lba : ℕ) → get_or d.command.pending p none ≡ long_transfer dir lba → lba < d.visible
  -- "a fill and an owed transfer never coexist"
  pub apart : (first next end p : ℕ) → d.command.fill ≡ running first next end → get_or d.command.pending p none ≡ none
  -- "the stored code is FFFFh exactly while a fill runs"
  pub running_code : (first next end : ℕ) → d.command.fill ≡ running first next end → d.command.code ≡ 0xFFFF
  pub idle_code : d.command.fill ≡ idle → d.command.code ≡ 0xFFFF → ⊥
  -- "each timer is 0 or at least 10"
  pub timers : ((d.settings.read_timer ≡ 0) ⊎ (10 ≤ d.settings.read_timer)) × ((d.settings.write_timer ≡ 0) ⊎ (10 ≤ d.settings.write_timer))
  -- "Feature states: 1 (write cache) 1 to 3; 2 (reordering) 1 or 2; 3 (log interval) 1 to 65,535 minutes."
  pub write_cache : (1 ≤ d.settings.write_cache.state) × (d.settings.write_cache.state ≤ 3)
  pub reordering : (1 ≤ d.settings.reordering.state) × (d.settings.reordering.state ≤ 2)
  pub log_interval : (1 ≤ d.settings.log_interval.state) × (d.settings.log_interval.state ≤ 65535)
  -- "minutes counted are below it, the history index is at most 477"
  pub minutes : d.thermal.minutes < d.settings.log_interval.state
  pub index : d.thermal.index ≤ 477
  pub history : length d.thermal.history ≡ 478

fill-at : (visible : ℕ) (f : Fill) (first next end : ℕ) → FillValid visible f → f ≡ running first next end → (first ≤ next) × (next < end) × (end ≤ visible)
fill-at visible f first next end v e = rw e at v

code_at : (f : Fill) (code first next end : ℕ) → CodeValid f code → f ≡ running first next end → code ≡ 0xFFFF
code_at f code first next end v e = rw e at v

code-idle : (f : Fill) (code : ℕ) → CodeValid f code → f ≡ idle → code ≡ 0xFFFF → ⊥
code-idle f code v e = rw e at v

fill-pending : (visible : ℕ) (t : Transfer) (first end : ℕ) → TransferValid visible t → t ≡ fill_data first end → (first < end) × (end ≤ visible)
fill-pending visible t first end v e = rw e at v

long-pending : (visible : ℕ) (t : Transfer) (dir : Direction) (lba : ℕ) → TransferValid visible t → t ≡ long_transfer dir lba → lba < visible
long-pending visible t read lba v e = rw e at v
long-pending visible t write lba v e = rw e at v

limit-at : (f : Fill) (first next end n : ℕ) → n ≤ pending_limit f → f ≡ running first next end → n ≤ 0
limit-at f first next end n h e = rw e at h

pub valid-clauses : (d : Device) → Valid d → Clauses d
valid-clauses d v =
    let c = v.command_valid in
    let s = v.settings_valid in
    let t = v.thermal_valid in
    record {
      sizes = v.sizes;
      fill = λ first next end e. fill-at d.visible d.command.fill first next end c.fill_valid e;
      fill_sector = λ p first end e. fill-pending d.visible (get_or d.command.pending p none) first end (pending-for d.visible d.command.pending p c.pending_valid) e;
      long = λ dir p lba e. long-pending d.visible (get_or d.command.pending p none) dir lba (pending-for d.visible d.command.pending p c.pending_valid) e;
      apart = λ first next end p e.
          empty-rest d.command.pending p (limit-at d.command.fill first next end (pending_count d.command.pending) c.only_one e);
      running_code = λ first next end e. code_at d.command.fill d.command.code first next end c.code_valid e;
      idle_code = λ e. code-idle d.command.fill d.command.code c.code_valid e;
      timers = (s.read_valid, s.write_valid);
      write_cache = s.cache_valid;
      reordering = s.reordering_valid;
      log_interval = s.interval_valid;
      minutes = t.minutes_valid;
      index = omega (arith, t.index_valid);
      history = t.whole;
    }

-- ---- the converse

-- What `Valid` states in addition to those clauses: the places and widths of the values, and that at most one transfer is pending
-- (document 01 speaks of one owed transfer).
pub record Stored (d : Device) : Type 0 where
  pub only_one : pending_count d.command.pending ≤ 1
  pub places : length d.command.pending ≡ 4
  pub words : (d.command.code < 256 ^ 2) × (d.command.action < 256 ^ 2) × (d.command.function < 256 ^ 2)
  pub timers : (d.settings.read_timer < 256 ^ 2) × (d.settings.write_timer < 256 ^ 2)
  pub readings : Bytes d.thermal.history
  pub temperatures : (d.thermal.current < 256) × (d.thermal.cycle_maximum < 256) × (d.thermal.life_maximum < 256)

fill-from : (visible : ℕ) (f : Fill) → ((first next end : ℕ) → f ≡ running first next end → (first ≤ next) × (next < end) × (end ≤ visible)) → FillValid visible f
fill-from visible idle k = tt
fill-from visible (running first next end) k = k first next end refl

code-from : (f : Fill) (code : ℕ) → ((first next end : ℕ) → f ≡ running first next end → code ≡ 0xFFFF) → (f ≡ idle → code ≡ 0xFFFF → ⊥) → CodeValid f code
code-from idle code k l = l refl
code-from (running first next end) code k l = k first next end refl

transfer-from : (visible : ℕ) (t : Transfer) → ((first end : ℕ) → t ≡ fill_data first end → (first < end) × (end ≤ visible))
    → ((dir : Direction) (lba : ℕ) → t ≡ long_transfer dir lba → lba < visible) → TransferValid visible t
transfer-from visible none k l = tt
transfer-from visible table k l = tt
transfer-from visible (fill_data first end) k l = k first end refl
transfer-from visible (read_long lba) k l = l read lba refl
transfer-from visible (write_long lba) k l = l write lba refl

pending-from : (visible : ℕ) (ts : List Transfer) → ((p first end : ℕ) → get_or ts p none ≡ fill_data first end → (first < end) × (end ≤ visible))
    → ((dir : Direction) (p lba : ℕ) → get_or ts p none ≡ long_transfer dir lba → lba < visible) → PendingValid visible ts
pending-from visible [] k l = tt
pending-from visible (t ∷ ts) k l =
    (transfer-from visible t (k 0) (λ dir. l dir 0), pending-from visible ts (λ p. k (suc p)) (λ dir p. l dir (suc p)))

none_from : (ts : List Transfer) → ((p : ℕ) → get_or ts p none ≡ none) → pending_count ts ≤ 0
none_from [] k = omega arith
none_from (t ∷ ts) k = rw (k 0) (none_from ts (λ p. k (suc p)))

limit-from : (f : Fill) (ts : List Transfer) → pending_count ts ≤ 1 → ((first next end p : ℕ) → f ≡ running first next end → get_or ts p none ≡ none) → pending_count ts ≤ pending_limit f
limit-from idle ts one k = one
limit-from (running first next end) ts one k = none_from ts (λ p. k first next end p refl)

pub clauses-valid : (d : Device) → Clauses d → Stored d → Valid d
clauses-valid d s t =
    record {
      sizes = s.sizes;
      command_valid =
          record {
            code_valid = code-from d.command.fill d.command.code s.running_code s.idle_code;
            fill_valid = fill-from d.visible d.command.fill s.fill;
            pending_valid = pending-from d.visible d.command.pending s.fill_sector s.long;
            only_one = limit-from d.command.fill d.command.pending t.only_one s.apart;
            places = t.places;
            words = t.words;
          };
      settings_valid =
          record {
            read_valid = s.timers.0;
            write_valid = s.timers.1;
            cache_valid = s.write_cache;
            reordering_valid = s.reordering;
            interval_valid = s.log_interval;
            words = t.timers;
          };
      thermal_valid =
          record { minutes_valid = s.minutes; index_valid = omega (arith, s.index); whole = s.history; readings = t.readings; bytes = t.temperatures };
    }

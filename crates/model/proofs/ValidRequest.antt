-- What a request decides is in document 01's ranges: the device, the effect and the reply's registers.
use Rattle.std.specs.Prelude.{if◌then◌else◌}
use mathlib.Core.Path.{◌≡◌, refl, ap, ◌∙◌}
use mathlib.Core.Bool.{Bool, true, false}
use mathlib.Core.Logic.{◌⊎◌, inl, inr}
use Prim.Native.Nat.{ℕ, zero, suc, ◌^◌, ◌≤◌, ◌<◌}
use native.Mathlib.Omega.{arith}
use mathlib.Core.List.{List, [], ◌∷◌}
use lib.ListN.{length, get_or}
use borrow.Author.Tests.{ltb-true}
use Rattle.wire.specs.Choice.{Check, first_failed, if_passed}
use Rattle.wire.specs.Bytes.{Bytes}
use Rattle.wire.proofs.ChoiceLaws.{bit-small, all_pass, first-bound}
use Rattle.wire.proofs.PartsLaws.{length_part}
use Rattle.wire.proofs.BytesLaws.{bytes-part, get-fits}
use Rattle.model.specs.Sizes.{sector_size, registers_size, mailbox_size}
use Rattle.model.specs.Device.{Fill, idle, running, Transfer, none, table, fill_data, read_long, write_long, Settings, Device}
use Rattle.model.specs.Disk.{LongSector}
use Rattle.model.specs.Update.{with_code, with_key}
use Rattle.model.specs.Registers.{Direction, read, write, Request, status_read, key_sector, data_transfer, sector_access, other, data_of, long_data_of, request_of, Registers, good, refused, refused_with}
use Rattle.model.specs.Key.{word, FeatureName, write_cache, reordering, log_interval, Action, access_long, fill_pattern, fill_sector, set_timer, return_timer, set_feature, return_state, return_option, send_table, Verdict, accepted, rejected, judge_key}
use Rattle.model.specs.Fill.{interrupt}
use Rattle.model.specs.Decide.{Serving, Writing, no_write, one_sector, new_fill, Sending, no_data, status, temperatures, disk_sector, stored_sector, Effect, nothing, sending, Decision, decision, decide_status, timer, feature, long_transfer, carry_out, decide_verdict, decide_key, data_checks, transfer_effect, decide_data, sector_checks, sector_effect, decide_sector, pending_for, decide_request, decide}
use Rattle.model.specs.Machine.{Port, empty, request, reply, held_bytes}
use Rattle.model.specs.Step.{is_request}
use Rattle.model.specs.Valid.{TransferValid, PendingValid, pending_count, pending_limit, SettingsValid, Valid, Sized, PortValid}
use Rattle.model.proofs.KeyRows.{refusal-small}
use Rattle.model.proofs.KeyLaws.{ActionValid, accepted-valid}
use Rattle.model.proofs.FormatLaws.{RegistersFit}
use Rattle.model.proofs.RequestLaws.{interrupt-kept}
use Rattle.model.proofs.OwnerLaws.{Quiet, interrupt-quiet}
use Rattle.model.proofs.ValidDevice.{interrupt-valid, code-valid, key-valid, FirstCounts, count-first, count-bounds, pending-valid, timer-set, feature-set}

-- what an effect's values must satisfy on the decided device
abbrev pub WritingValid : Device → Writing → Type 0
WritingValid d no_write = Unit {0}
WritingValid d (one_sector lba x) = (lba < d.visible) × Sized sector_size x.content
WritingValid d (new_fill first end sector) = (first < end) × (end ≤ d.visible) × Sized sector_size sector × Quiet d

abbrev pub SendingValid : ℕ → Sending → Type 0
SendingValid visible no_data = Unit {0}
SendingValid visible status = Unit {0}
SendingValid visible temperatures = Unit {0}
SendingValid visible (disk_sector lba) = lba < visible
SendingValid visible (stored_sector lba) = lba < visible

abbrev pub EffectValid : Device → Effect → Type 0
EffectValid d e = WritingValid d e.writes × SendingValid d.visible e.sends

-- A decision on the device d: in range; N and V are unchanged; the fill is the previous one, or none.
pub record DecisionValid (d : Device) (c : Decision) : Type 0 where
  pub device_valid : Valid c.device
  pub effect_valid : EffectValid c.device c.effect
  pub fits : RegistersFit c.registers
  pub same_sizes : (c.device.native ≡ d.native) × (c.device.visible ≡ d.visible)
  pub same_fill : (c.device.command.fill ≡ idle) ⊎ (c.device.command.fill ≡ d.command.fill)

good-fits : (value sectors : ℕ) → value < 256 ^ 2 → sectors < 256 → RegistersFit (good value sectors)
good-fits value sectors h k = record { value = h; lba_mid = k; status = omega arith; error = omega arith }

pub refused-fits : (error : ℕ) → error < 256 → RegistersFit (refused error)
refused-fits error h = record { value = omega arith; lba_mid = omega arith; status = omega arith; error = h }

pub code_fits : (code word : ℕ) → code < 256 ^ 2 → word < 256 → RegistersFit (refused_with code word)
code_fits code word h k = record { value = h; lba_mid = k; status = omega arith; error = omega arith }

-- ---- values that a reply carries

timer-fits : (t : Direction) (s : Settings) → SettingsValid s → timer t s < 256 ^ 2
timer-fits read s v = v.words.0
timer-fits write s v = v.words.1

state-fits : (f : FeatureName) (s : Settings) → SettingsValid s → (feature f s).state < 256 ^ 2
state-fits write_cache s v = omega (arith, v.cache_valid.1)
state-fits reordering s v = omega (arith, v.reordering_valid.1)
state-fits log_interval s v = omega (arith, v.interval_valid.1)

-- ---- after an interrupt

-- N, V and the settings are unchanged
sizes-kept : (d : Device) → ((interrupt d).native ≡ d.native) × ((interrupt d).visible ≡ d.visible)
sizes-kept d = (ap (λ (e : Device). e.native) (interrupt-kept d), ap (λ (e : Device). e.visible) (interrupt-kept d))

-- a decision that leaves an interrupted device with a code
coded-valid : (d : Device) (n : ℕ) (r : Registers) (e : Effect) → Valid d → n < 0xFFFF → RegistersFit r
    → EffectValid (with_code n (interrupt d)) e → DecisionValid d (decision (with_code n (interrupt d)) r e)
coded-valid d n r e v h f k =
    record {
      device_valid = code-valid n (interrupt d) (interrupt-valid d v) (interrupt-quiet d).no_fill h;
      effect_valid = k;
      fits = f;
      same_sizes = sizes-kept d;
      same_fill = inl (interrupt-quiet d).no_fill;
    }

-- ---- a key

-- a decision with no effect, which does not change N, V and the fill
still : (d e : Device) (r : Registers) → Valid e → RegistersFit r → (e.native ≡ d.native) × (e.visible ≡ d.visible)
    → e.command.fill ≡ d.command.fill → DecisionValid d (decision e r nothing)
still d e r v f sizes fill = record { device_valid = v; effect_valid = (tt, tt); fits = f; same_sizes = sizes; same_fill = inr fill }

plain : RegistersFit (good 0 0)
plain = good-fits 0 0 (omega arith) (omega arith)

one-pending : RegistersFit (good 0 1)
one-pending = good-fits 0 1 (omega arith) (omega arith)

long-in-range : (dir : Direction) (visible lba : ℕ) → lba < visible → TransferValid visible (long_transfer dir lba)
long-in-range read visible lba h = h
long-in-range write visible lba h = h

module _ (d : Device) (p : ℕ) (v : Valid d) (q : Quiet d) where
  carry-valid : (a : Action) → ActionValid d.visible a → DecisionValid d (carry_out a p d)
  unfolding carry_out
  carry-valid (access_long dir lba) k =
      still d _ _ (pending-valid p (long_transfer dir lba) d v q (long-in-range dir d.visible lba k)) (good-fits 2 2 (omega arith) (omega arith)) (refl, refl) refl
  carry-valid (fill_pattern first end sector) k =
      record { device_valid = v; effect_valid = ((k.0, k.1, k.2, q), tt); fits = plain; same_sizes = (refl, refl); same_fill = inr refl }
  carry-valid (fill_sector first end) k = still d _ _ (pending-valid p (fill_data first end) d v q k) one-pending (refl, refl) refl
  carry-valid (set_timer t n) k = still d _ _ (timer-set t n d v k.0 k.1) plain (refl, refl) refl
  carry-valid (return_timer t) k = still d d _ v (good-fits _ 0 (timer-fits t d.settings v.settings_valid) (omega arith)) (refl, refl) refl
  carry-valid (set_feature write_cache n keep) k = still d _ _ (feature-set write_cache n keep d v k.0 k.1) plain (refl, refl) refl
  carry-valid (set_feature reordering n keep) k = still d _ _ (feature-set reordering n keep d v k.0 k.1) plain (refl, refl) refl
  carry-valid (set_feature log_interval n keep) k = still d _ _ (feature-set log_interval n keep d v k.0 k.1) plain (refl, refl) refl
  carry-valid (return_state f) k = still d d _ v (good-fits _ 0 (state-fits f d.settings v.settings_valid) (omega arith)) (refl, refl) refl
  carry-valid (return_option f) k =
      still d d _ v (good-fits _ 0 (omega (arith, bit-small (feature f d.settings).persistent)) (omega arith)) (refl, refl) refl
  carry-valid send_table k = still d _ _ (pending-valid p table d v q tt) one-pending (refl, refl) refl

module _ (d : Device) (p : ℕ) (v : Valid d) (q : Quiet d) where
  key-decided : (k : List ℕ) → length k ≡ sector_size → Bytes k → DecisionValid d (decide_key p k d)
  unfolding decide_key
  key-decided k size bytes = go (judge_key d k) refl
    where
      recorded : Device
      recorded = with_key (word k 0) (word k 1) d

      recorded-valid : Valid recorded
      recorded-valid = key-valid (word k 0) (word k 1) d v (get-fits 2 k 0 bytes) (get-fits 2 k 2 bytes)

      go : (j : Verdict) → judge_key d k ≡ j → DecisionValid d (decide_verdict j p recorded)
      go (accepted a) e =
          let d₀ = with_code 0x0000 recorded in
          let w =
          carry-valid d₀ p (code-valid 0x0000 recorded recorded-valid q.no_fill (omega arith))
          (record { no_fill = q.no_fill; no_transfer = q.no_transfer }) a
          (accepted-valid d k a v.sizes.0 size bytes e) in
          record { device_valid = w.device_valid; effect_valid = w.effect_valid; fits = w.fits; same_sizes = w.same_sizes; same_fill = w.same_fill }
      go (rejected code named) e =
          let small = refusal-small d k code named e in
          still d _ _ (code-valid code recorded recorded-valid q.no_fill (omega arith)) (code_fits code named (omega arith) (omega arith)) (refl, refl) refl

-- ---- a transfer

-- the transfer that a port has pending is in range
pub pending-for : (visible : ℕ) (ts : List Transfer) (p : ℕ) → PendingValid visible ts → TransferValid visible (get_or ts p none)
pending-for visible [] zero v = tt
pending-for visible [] (suc p) v = tt
pending-for visible (t ∷ ts) zero v = v.0
pending-for visible (t ∷ ts) (suc p) v = pending-for visible ts p v.1

module _ (d : Device) (v : Valid d) (x : LongSector) (whole : Sized sector_size x.content) where
  transfer-effect : (t : Transfer) → TransferValid d.visible t → EffectValid (with_code 0x0000 (interrupt d)) (transfer_effect t x)
  transfer-effect none k = (tt, tt)
  transfer-effect table k = (tt, tt)
  transfer-effect (fill_data first end) k =
      ((k.0, rw (sizes-kept d).1 k.1, whole, record { no_fill = (interrupt-quiet d).no_fill; no_transfer = (interrupt-quiet d).no_transfer }), tt)
  transfer-effect (read_long lba) k = (tt, rw (sizes-kept d).1 k)
  transfer-effect (write_long lba) k = ((rw (sizes-kept d).1 k, whole), tt)

  data-decided : (dir : Direction) (count : ℕ) (t : Transfer) → TransferValid d.visible t → DecisionValid d (decide_data dir count t x (interrupt d))
  unfolding decide_data
  data-decided dir count t k = go (first_failed cs) (first-bound 0x12 cs (omega arith))
    where
      cs : List Check
      cs = data_checks (interrupt d).locked dir count t

      go : (n : ℕ) → n ≤ 0x12
          → DecisionValid d
          (if_passed n (decision (with_code 0x0000 (interrupt d)) (good 0 0) (transfer_effect t x)) (decision (with_code n (interrupt d)) (refused_with n 0) nothing))
      go zero h = coded-valid d 0x0000 (good 0 0) (transfer_effect t x) v (omega arith) plain (transfer-effect t k)
      go (suc n) h = coded-valid d (suc n) (refused_with (suc n) 0) nothing v (omega arith) (code_fits (suc n) 0 (omega arith) (omega arith)) (tt, tt)

  -- ---- one sector

  sector-decided : (dir : Direction) (count lba : ℕ) → DecisionValid d (decide_sector dir count lba x.content (interrupt d))
  unfolding decide_sector
  sector-decided dir count lba = go (first_failed cs) refl (first-bound 0x10 cs (omega arith))
    where
      cs : List Check
      cs = sector_checks (interrupt d) count lba

      within : first_failed cs ≡ 0 → lba < (interrupt d).visible
      within e = ltb-true lba (interrupt d).visible (all_pass 0x10 cs (omega arith) e).1.1.0

      effect-valid : (dir : Direction) → lba < (interrupt d).visible → EffectValid (interrupt d) (sector_effect dir lba x.content)
      effect-valid read h = (tt, h)
      effect-valid write h = ((h, whole), tt)

      go : (n : ℕ) → first_failed cs ≡ n → n ≤ 0x10
          → DecisionValid d (if_passed n (decision (interrupt d) (good 0 0) (sector_effect dir lba x.content)) (decision (interrupt d) (refused n) nothing))
      go zero e h =
          record {
            device_valid = interrupt-valid d v;
            effect_valid = effect-valid dir (within e);
            fits = plain;
            same_sizes = sizes-kept d;
            same_fill = inl (interrupt-quiet d).no_fill;
          }
      go (suc n) e h =
          record {
            device_valid = interrupt-valid d v;
            effect_valid = (tt, tt);
            fits = refused-fits (suc n) (omega arith);
            same_sizes = sizes-kept d;
            same_fill = inl (interrupt-quiet d).no_fill;
          }

-- ---- which port a pending transfer belongs to

-- a place with a pending transfer is counted
counted : (ts : List Transfer) (q : ℕ) → (get_or ts q none ≡ none → ⊥) → 1 ≤ pending_count ts
counted [] q ne = absurd (ne refl)
counted (t ∷ ts) zero ne = go (count-first t ts)
  where
    go : FirstCounts t ts → 1 ≤ pending_count (t ∷ ts)
    go (inl e) = absurd (ne e.0)
    go (inr e) = omega (arith, e)
counted (t ∷ ts) (suc q) ne = omega (arith, counted ts q ne, (count-bounds t ts).0)

-- if nothing is pending, no port has a transfer
pub empty-rest : (ts : List Transfer) (p : ℕ) → pending_count ts ≤ 0 → get_or ts p none ≡ none
empty-rest [] p h = refl
empty-rest (t ∷ ts) zero h = go (count-first t ts)
  where
    go : FirstCounts t ts → t ≡ none
    go (inl e) = e.0
    go (inr e) = absurd (omega (arith, e, h))
empty-rest (t ∷ ts) (suc p) h = empty-rest ts p (omega (arith, h, (count-bounds t ts).0))

-- if at most one is pending, every other port has none
alone : (ts : List Transfer) (p q : ℕ) → pending_count ts ≤ 1 → (q ≡ p → ⊥) → (get_or ts q none ≡ none → ⊥) → get_or ts p none ≡ none
alone [] p q one ne some = refl
alone (t ∷ ts) zero zero one ne some = absurd (ne refl)
alone (t ∷ ts) zero (suc q) one ne some = go (count-first t ts)
  where
    go : FirstCounts t ts → t ≡ none
    go (inl e) = e.0
    go (inr e) = absurd (omega (arith, e, one, counted ts q some))
alone (t ∷ ts) (suc p) zero one ne some = go (count-first t ts)
  where
    go : FirstCounts t ts → get_or ts p none ≡ none
    go (inl e) = absurd (some e.0)
    go (inr e) = empty-rest ts p (omega (arith, e, one))
alone (t ∷ ts) (suc p) (suc q) one ne some = alone ts p q (omega (arith, one, (count-bounds t ts).0)) (λ e. ne (ap suc e)) some

limit-one : (f : Fill) → pending_limit f ≤ 1
limit-one idle = omega arith
limit-one (running first next end) = omega arith

-- "another port collecting an owed sector": if port q has a transfer pending, port p has none
pub not-owner : (d : Device) → Valid d → (p q : ℕ) → (q ≡ p → ⊥) → (get_or d.command.pending q none ≡ none → ⊥) → get_or d.command.pending p none ≡ none
not-owner d v p q = alone d.command.pending p q (omega (arith, v.command_valid.only_one, limit-one d.command.fill))

-- ---- any request

status-decided : (d : Device) → Valid d → DecisionValid d (decide_status d)
status-decided d v = go d.locked
  where
    go : (b : Bool) → DecisionValid d (if b then decision d (refused_with 0x0012 0) nothing else decision d (good 0 0) (sending status))
    go true = still d d _ v (code_fits 0x0012 0 (omega arith) (omega arith)) (refl, refl) refl
    go false = record { device_valid = v; effect_valid = (tt, tt); fits = plain; same_sizes = (refl, refl); same_fill = inr refl }

pub request-valid : (q : Request) (s : Serving) (m : List ℕ) (d : Device) → Valid d → Sized mailbox_size m → DecisionValid d (decide_request q s m d)
request-valid q s m d v whole = go q
  where
    sector : Sized sector_size (data_of m)
    sector =
        record {
          size = length_part m registers_size sector_size (omega (arith, whole.size));
          bytes = bytes-part m registers_size sector_size whole.bytes;
        }

    keyed : DecisionValid (interrupt d) (decide_key s.port (data_of m) (interrupt d))
    keyed = key-decided (interrupt d) s.port (interrupt-valid d v) (interrupt-quiet d) (data_of m) sector.size sector.bytes

    same-fill : (f : Fill) → (f ≡ idle) ⊎ (f ≡ (interrupt d).command.fill) → (f ≡ idle) ⊎ (f ≡ d.command.fill)
    same-fill f (inl e) = inl e
    same-fill f (inr e) = inl (e ∙ (interrupt-quiet d).no_fill)

    go : (r : Request) → DecisionValid d (decide_request r s m d)
    go status_read = status-decided d v
    go key_sector =
        record {
          device_valid = keyed.device_valid;
          effect_valid = keyed.effect_valid;
          fits = keyed.fits;
          same_sizes = (keyed.same_sizes.0 ∙ (sizes-kept d).0, keyed.same_sizes.1 ∙ (sizes-kept d).1);
          same_fill = same-fill _ keyed.same_fill;
        }
    go (data_transfer dir count) =
        data-decided d v (long_data_of m) sector dir count (pending_for s.port d) (pending-for d.visible d.command.pending s.port v.command_valid.pending_valid)
    go (sector_access dir count lba) = sector-decided d v (long_data_of m) sector dir count lba
    go other =
        record {
          device_valid = interrupt-valid d v;
          effect_valid = (tt, tt);
          fits = refused-fits 0x04 (omega arith);
          same_sizes = sizes-kept d;
          same_fill = inl (interrupt-quiet d).no_fill;
        }

pub decide-valid : (s : Serving) (m : List ℕ) (d : Device) → Valid d → Sized mailbox_size m → DecisionValid d (decide s m d)
unfolding decide
decide-valid s m d = request-valid (request_of m) s m d

-- a port in the stage that serve needs holds a request
pub request-held : (x : Port) → is_request x ≡ true → PortValid x → Sized mailbox_size (held_bytes x)
request-held empty e v = absurd (let z : ◌≡◌ {A = ℕ} 0 1 = cc in omega arith)
request-held (request m) e v = v
request-held (reply m) e v = absurd (let z : ◌≡◌ {A = ℕ} 0 1 = cc in omega arith)

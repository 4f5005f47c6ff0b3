-- Condition 2 for requests: for each kind of request, its reply, and the device and the disk afterwards.
use Rattle.std.specs.Prelude.{if◌then◌else◌}
use mathlib.Core.Path.{◌≡◌, refl, ap, subst, ◌∙◌}
use mathlib.Core.Bool.{Bool, true, false}
use Prim.Native.Nat.{ℕ, suc, ◌*◌, ◌≤◌, ◌<◌}
use native.Mathlib.Omega.{arith}
use mathlib.Core.List.{List, [], ◌++◌}
use lib.ListN.{get_or, set}
use lib.Seq.{sets}
use lib.Dec.{eqb}
use borrow.Author.Tests.{eq-eqb, ne_eqb, lt-ltb, le-ltb}
use Rattle.wire.specs.Choice.{bit, first_failed}
use Rattle.wire.specs.Numbers.{le, get, put}
use Rattle.wire.specs.Parts.{part}
use Rattle.sector_check.specs.Check.{check_of}
use Rattle.wire.proofs.ChoiceLaws.{pass_all}
use Rattle.model.specs.Sizes.{port_count, done}
use Rattle.model.specs.Device.{Fill, idle, running, Transfer, none, table, fill_data, read_long, write_long, Device}
use Rattle.model.specs.Update.{with_fill, with_settings, with_code, with_key, with_pending, with_initialized, with_command}
use Rattle.model.specs.Registers.{Direction, read, write, Request, status_read, key_sector, data_transfer, sector_access, other, data_of, long_data_of, request_of, Registers, good, refused, refused_with, reply_bytes}
use Rattle.model.specs.Key.{word, FeatureName, Action, access_long, fill_pattern, fill_sector, set_timer, return_timer, set_feature, return_state, return_option, send_table, Verdict, accepted, rejected, judge_key}
use Rattle.model.specs.Status.{status_sector}
use Rattle.model.specs.Disk.{Disk, LongSector, checked, sector_at}
use Rattle.model.specs.Fill.{nothing_pending, stop_fill, interrupt, write_sector}
use Rattle.model.specs.Decide.{Serving, one_sector, new_fill, status, temperatures, disk_sector, stored_sector, nothing, writing, sending, Decision, decision, timer, with_timer, feature, with_feature, after_feature, long_transfer, carry_out, decide_verdict, decide_key, moves, sectors_of, data_checks, decide_data, sector_checks, decide_sector, decide_request, decide}
use Rattle.model.specs.Perform.{temperature_table, read_reply, volume_after, reply_of}
use Rattle.model.specs.Machine.{Port, request, reply, Machine, held_bytes}
use Rattle.model.specs.Step.{serve, Outcome, checks, answer_only, served, serve_decided, step}
use Rattle.model.proofs.StepLaws.{step-done, port-same, port-other}

abbrev pub serve_on : Serving → Machine → Outcome Machine
serve_on s M = step (serve s) M

-- Port `s.port` is served: it then holds this reply, the other ports are unchanged, and the device and the disk are these.
pub record Serves (s : Serving) (M : Machine) (answer : List ℕ) (d : Device) (disk : Disk) : Type 0 where
  pub is_seen : (serve_on s M).seen ≡ answer_only done
  pub replied : (serve_on s M).state.ports s.port ≡ reply answer
  pub others : (q : ℕ) → (q ≡ s.port → ⊥) → (serve_on s M).state.ports q ≡ M.ports q
  pub device_after : (serve_on s M).state.device ≡ d
  pub disk_after : (serve_on s M).state.disk ≡ disk

-- what a read replies, by the stored check number and that of the content
pub read-sound : (r : Registers) (x : LongSector) → x.check ≡ check_of x.content → read_reply r x ≡ reply_bytes r x.content
read-sound r x same = rw (eq-eqb x.check (check_of x.content) same)

pub read-damaged : (r : Registers) (x : LongSector) → (x.check ≡ check_of x.content → ⊥) → read_reply r x ≡ reply_bytes (refused 0x40) []
read-damaged r x differs = rw (ne_eqb x.check (check_of x.content) differs)

-- stopping a fill changes only the state of the last command
stop-kept : (f : Fill) (ts : List Transfer) (d : Device) → with_pending ts (stop_fill f d) ≡ with_command (with_pending ts (stop_fill f d)).command d
stop-kept idle ts d = refl
stop-kept (running first next end) ts d = refl

pub interrupt-kept : (d : Device) → interrupt d ≡ with_command (interrupt d).command d
unfolding interrupt
interrupt-kept d = stop-kept d.command.fill _ d

no-transfer : (dir : Direction) → moves dir none ≡ true → ⊥
no-transfer dir e = let z : ◌≡◌ {A = ℕ} 0 1 = cc in omega arith

module _ (s : Serving) (M : Machine) (m : List ℕ) (port : s.port < port_count) (held : M.ports s.port ≡ request m) where
  abbrev p : ℕ
  p = s.port

  -- a held request is decided from the bytes taken, and performed
  pub serves : {c : Decision} → decide s m M.device ≡ c
      → Serves s M (reply_of c (volume_after c M.disk)) (volume_after c M.disk).device (volume_after c M.disk).disk
  unfolding served serve_decided
  serves {c} e =
      let is = step-done (serve s) M (pass_all (checks (serve s) M) (lt-ltb p port_count port, (rw held, tt))) in
      let same : decide s (held_bytes (M.ports p)) M.device ≡ c = ap (λ (x : Port). decide s (held_bytes x) M.device) held ∙ e in
      record {
        is_seen = rw is;
        replied = rw (is, same) (port-same p _ M.ports);
        others = λ q ne. rw (is, same) (port-other p q _ M.ports ne);
        device_after = rw (is, same);
        disk_after = rw (is, same);
      }

  decided : (r : Request) → request_of m ≡ r → decide s m M.device ≡ decide_request r s m M.device
  unfolding decide
  decided r e = rw e

  -- ---- status

  pub decided-status : request_of m ≡ status_read → M.device.locked ≡ false → decide s m M.device ≡ decision M.device (good 0 0) (sending status)
  decided-status e unlocked = decided status_read e ∙ rw unlocked

  pub serves-status : request_of m ≡ status_read → M.device.locked ≡ false
      → Serves s M (reply_bytes (good 0 0) (status_sector M.device)) M.device M.disk
  serves-status e unlocked = serves (decided-status e unlocked)

  -- "A refused status read under the lock answers 0012h and stores nothing."
  pub serves-status-locked : request_of m ≡ status_read → M.device.locked ≡ true
      → Serves s M (reply_bytes (refused_with 0x0012 0) []) M.device M.disk
  serves-status-locked e locked = serves {c = decision M.device (refused_with 0x0012 0) nothing} (decided status_read e ∙ rw locked)

  -- ---- key sector

  -- the device of an accepted key: the fill stopped, nothing pending, action and function recorded, code 0000h
  abbrev pub keyed : Device
  keyed = with_code 0x0000 (with_key (word (data_of m) 0) (word (data_of m) 1) (interrupt M.device))

  abbrev pub key_judged : Verdict
  key_judged = judge_key (interrupt M.device) (data_of m)

  decided-key : request_of m ≡ key_sector → (v : Verdict) → key_judged ≡ v
      → decide s m M.device ≡ decide_verdict v p (with_key (word (data_of m) 0) (word (data_of m) 1) (interrupt M.device))
  unfolding decide_key
  decided-key e v j = decided key_sector e ∙ rw j

  -- "both are recorded from every key, accepted or not"; "A refused key stores its code." W-206: "The key reply carries it in LBA Mid"
  pub serves-key-refused : (code named : ℕ) → request_of m ≡ key_sector → key_judged ≡ rejected code named
      → Serves s M (reply_bytes (refused_with code named) []) (with_code code keyed) M.disk
  serves-key-refused code named e j = serves (decided-key e (rejected code named) j)

  pub decided-accepted : request_of m ≡ key_sector → (a : Action) → key_judged ≡ accepted a → decide s m M.device ≡ carry_out a p keyed
  decided-accepted e a j = decided-key e (accepted a) j

  -- "Pattern fill starts at once": code FFFFh, next is first; no sector is written yet
  pub serves-pattern : (first end : ℕ) (sector : List ℕ) → request_of m ≡ key_sector → key_judged ≡ accepted (fill_pattern first end sector)
      → Serves s M (reply_bytes (good 0 0) []) (with_fill (running first first end) 0xFFFF keyed) M.disk
  unfolding carry_out
  serves-pattern first end sector e j = serves (decided-accepted e _ j)

  -- "LBA Mid is 1 if a sector is owed (fill function 2, table)"
  pub serves-fill-sector : (first end : ℕ) → request_of m ≡ key_sector → key_judged ≡ accepted (fill_sector first end)
      → Serves s M (reply_bytes (good 0 1) []) (with_pending (set nothing_pending p (fill_data first end)) keyed) M.disk
  unfolding carry_out interrupt
  serves-fill-sector first end e j = serves (decided-accepted e _ j)

  pub serves-send-table : request_of m ≡ key_sector → key_judged ≡ accepted send_table
      → Serves s M (reply_bytes (good 0 1) []) (with_pending (set nothing_pending p table) keyed) M.disk
  unfolding carry_out interrupt
  serves-send-table e j = serves (decided-accepted e _ j)

  -- W-202: "either key's reply has 2 in Sector Count and LBA Mid"
  pub serves-access-long : (dir : Direction) (lba : ℕ) → request_of m ≡ key_sector → key_judged ≡ accepted (access_long dir lba)
      → Serves s M (reply_bytes (good 2 2) []) (with_pending (set nothing_pending p (long_transfer dir lba)) keyed) M.disk
  unfolding carry_out interrupt
  serves-access-long dir lba e j = serves (decided-accepted e _ j)

  pub serves-set-timer : (t : Direction) (n : ℕ) → request_of m ≡ key_sector → key_judged ≡ accepted (set_timer t n)
      → Serves s M (reply_bytes (good 0 0) []) (with_settings (with_timer t n keyed.settings) keyed) M.disk
  unfolding carry_out
  serves-set-timer t n e j = serves (decided-accepted e _ j)

  -- "The value asked for by timers 2 and feature 2 or 3 (the mark, 0 or 1) stands in Sector Count (low) and LBA Low (high)"
  pub serves-return-timer : (t : Direction) → request_of m ≡ key_sector → key_judged ≡ accepted (return_timer t)
      → Serves s M (reply_bytes (good (timer t keyed.settings) 0) []) keyed M.disk
  unfolding carry_out
  serves-return-timer t e j = serves (decided-accepted e _ j)

  -- "Any set of feature 3 empties the temperature history."
  pub serves-set-feature : (f : FeatureName) (n : ℕ) (keep : Bool) → request_of m ≡ key_sector → key_judged ≡ accepted (set_feature f n keep)
      → Serves s M (reply_bytes (good 0 0) []) (after_feature f (with_settings (with_feature f (record { state = n; persistent = keep }) keyed.settings) keyed)) M.disk
  unfolding carry_out
  serves-set-feature f n keep e j = serves (decided-accepted e _ j)

  pub serves-return-state : (f : FeatureName) → request_of m ≡ key_sector → key_judged ≡ accepted (return_state f)
      → Serves s M (reply_bytes (good (feature f keyed.settings).state 0) []) keyed M.disk
  unfolding carry_out
  serves-return-state f e j = serves (decided-accepted e _ j)

  pub serves-return-option : (f : FeatureName) → request_of m ≡ key_sector → key_judged ≡ accepted (return_option f)
      → Serves s M (reply_bytes (good (bit (feature f keyed.settings).persistent) 0) []) keyed M.disk
  unfolding carry_out
  serves-return-option f e j = serves (decided-accepted e _ j)

  -- ---- data (E1h)

  -- the code of a refused transfer: "lock 0012h; no owed transfer of this port and direction 000Bh; count not 1 0003h"
  abbrev pub data_code : Direction → ℕ → ℕ
  data_code dir count = first_failed (data_checks M.device.locked dir count (get_or M.device.command.pending p none))

  pub decided-data : (dir : Direction) (count : ℕ) → request_of m ≡ data_transfer dir count
      → decide s m M.device ≡ decide_data dir count (get_or M.device.command.pending p none) (long_data_of m) (interrupt M.device)
  decided-data dir count e = decided (data_transfer dir count) e

  -- "Each becomes the stored code."
  pub serves-data-refused : (dir : Direction) (count code : ℕ) → request_of m ≡ data_transfer dir count → data_code dir count ≡ suc code
      → Serves s M (reply_bytes (refused_with (suc code) 0) []) (with_code (suc code) (interrupt M.device)) M.disk
  unfolding decide_data
  serves-data-refused dir count code e j =
      serves {c = decision (with_code (suc code) (interrupt M.device)) (refused_with (suc code) 0) nothing}
      (decided-data dir count e ∙ rw (interrupt-kept M.device, j))

  -- "E1h is judged: lock 0012h" ..
  pub data-locked : (dir : Direction) (count : ℕ) → M.device.locked ≡ true → data_code dir count ≡ 0x0012
  data-locked dir count locked = rw locked

  -- ".. no owed transfer of this port and direction 000Bh" ..
  pub data-not-pending : (dir : Direction) (count : ℕ) → M.device.locked ≡ false → moves dir (get_or M.device.command.pending p none) ≡ false
      → data_code dir count ≡ 0x000B
  data-not-pending dir count unlocked pends = rw (unlocked, pends)

  -- ".. count not 1 0003h.", W-202: "E1h wants count 2 for it and 1 for the others"
  pub data-count : (dir : Direction) (count : ℕ) → M.device.locked ≡ false → moves dir (get_or M.device.command.pending p none) ≡ true
      → ((lba : ℕ) → get_or M.device.command.pending p none ≡ long_transfer dir lba → ⊥) → (count ≡ 1 → ⊥) → data_code dir count ≡ 0x0003
  data-count dir count unlocked pends short ne = rw (unlocked, pends) (go dir (get_or M.device.command.pending p none) pends short)
    where
      go : (d : Direction) (t : Transfer) → moves d t ≡ true → ((lba : ℕ) → t ≡ long_transfer d lba → ⊥)
          → ◌≡◌ {A = ℕ} (if eqb count (sectors_of t) then 0 else 0x0003) 0x0003
      go d none e k = absurd (no-transfer d e)
      go d table e k = rw (ne_eqb count 1 ne)
      go d (fill_data first end) e k = rw (ne_eqb count 1 ne)
      go read (read_long lba) e k = absurd (k lba refl)
      go write (read_long lba) e k = absurd (let z : ◌≡◌ {A = ℕ} 0 1 = cc in omega arith)
      go read (write_long lba) e k = absurd (let z : ◌≡◌ {A = ℕ} 0 1 = cc in omega arith)
      go write (write_long lba) e k = absurd (k lba refl)

  pub data-count-long : (dir : Direction) (count lba : ℕ) → M.device.locked ≡ false → get_or M.device.command.pending p none ≡ long_transfer dir lba
      → (count ≡ 2 → ⊥) → data_code dir count ≡ 0x0003
  data-count-long read count lba unlocked pends ne = rw (unlocked, pends, ne_eqb count 2 ne)
  data-count-long write count lba unlocked pends ne = rw (unlocked, pends, ne_eqb count 2 ne)

  -- "A table is sent as it stands at the E1h read."
  pub serves-table : request_of m ≡ data_transfer read 1 → M.device.locked ≡ false → get_or M.device.command.pending p none ≡ table
      → Serves s M (reply_bytes (good 0 0) (temperature_table M.device)) (with_code 0x0000 (interrupt M.device)) M.disk
  unfolding decide_data
  serves-table e unlocked pends =
      rw (← ap temperature_table (interrupt-kept M.device))
      (serves {c = decision (with_code 0x0000 (interrupt M.device)) (good 0 0) (sending temperatures)}
      (decided-data read 1 e ∙ rw (pends, interrupt-kept M.device, unlocked)))

  -- "A completed transfer stores .. FFFFh where it starts a fill."
  pub serves-fill-data : (first end : ℕ) → request_of m ≡ data_transfer write 1 → M.device.locked ≡ false
      → get_or M.device.command.pending p none ≡ fill_data first end
      → Serves s M (reply_bytes (good 0 0) []) (with_fill (running first first end) 0xFFFF (interrupt M.device)) M.disk
  unfolding decide_data
  serves-fill-data first end e unlocked pends =
      serves {c = decision (with_code 0x0000 (interrupt M.device)) (good 0 0) (writing (new_fill first end (data_of m)))}
      (decided-data write 1 e ∙ rw (pends, interrupt-kept M.device, unlocked))

  -- W-202: "Read Long sends the two check bytes as stored", also if they are not the content's: there is no Error 40h
  pub serves-read-long : (lba : ℕ) → request_of m ≡ data_transfer read 2 → M.device.locked ≡ false
      → get_or M.device.command.pending p none ≡ read_long lba
      → Serves s M (reply_bytes (good 0 0) (part M.disk.sectors (512 * lba) 512 ++ le 2 (get 2 M.disk.check_area (2 * lba))))
      (with_code 0x0000 (interrupt M.device)) M.disk
  unfolding decide_data
  serves-read-long lba e unlocked pends =
      serves {c = decision (with_code 0x0000 (interrupt M.device)) (good 0 0) (sending (stored_sector lba))}
      (decided-data read 2 e ∙ rw (pends, interrupt-kept M.device, unlocked))

  -- "Write Long stores what it is sent, without judging it"; "The Segment Initialized flag is cleared by any sector written"
  pub serves-write-long : (lba : ℕ) → request_of m ≡ data_transfer write 2 → M.device.locked ≡ false
      → get_or M.device.command.pending p none ≡ write_long lba
      → Serves s M (reply_bytes (good 0 0) []) (with_initialized false (with_code 0x0000 (interrupt M.device)))
      (record { sectors = sets M.disk.sectors (512 * lba) (part m 16 512); check_area = put 2 M.disk.check_area (2 * lba) (get 2 m 528) })
  unfolding decide_data write_sector
  serves-write-long lba e unlocked pends =
      serves {c = decision (with_code 0x0000 (interrupt M.device)) (good 0 0) (writing (one_sector lba (long_data_of m)))}
      (decided-data write 2 e ∙ rw (pends, interrupt-kept M.device, unlocked))

  -- Another port, or the other direction: 51h, 04h, 000Bh and a zero sector, and afterwards nothing is pending.
  pub serves-not-pending : (dir : Direction) (count : ℕ) → request_of m ≡ data_transfer dir count → M.device.locked ≡ false
      → moves dir (get_or M.device.command.pending p none) ≡ false
      → Serves s M (reply_bytes (refused_with 0x000B 0) []) (with_code 0x000B (interrupt M.device)) M.disk
      × ((serve_on s M).state.device.command.pending ≡ nothing_pending)
  unfolding interrupt
  serves-not-pending dir count e unlocked pends =
      let s = serves-data-refused dir count 0x000A e (rw (unlocked, pends)) in
      (s, ap (λ (d : Device). d.command.pending) s.device_after)

  -- ---- one sector (24h, 34h)

  decided-sector : (dir : Direction) (count lba : ℕ) → request_of m ≡ sector_access dir count lba
      → decide s m M.device ≡ decide_sector dir count lba (data_of m) (interrupt M.device)
  decided-sector dir count lba e = decided (sector_access dir count lba) e

  -- "Locked: Error 04h, before both"; "Count (16 bits) other than 1: Error 04h. LBA at or above V: Error 10h."
  abbrev pub sector_error : ℕ → ℕ → ℕ
  sector_error count lba = first_failed (sector_checks M.device count lba)

  pub sector-locked : (count lba : ℕ) → M.device.locked ≡ true → sector_error count lba ≡ 0x04
  sector-locked count lba locked = rw locked

  pub sector-count : (count lba : ℕ) → M.device.locked ≡ false → (count ≡ 1 → ⊥) → sector_error count lba ≡ 0x04
  sector-count count lba unlocked ne = rw (unlocked, ne_eqb count 1 ne)

  pub sector-range : (lba : ℕ) → M.device.locked ≡ false → M.device.visible ≤ lba → sector_error 1 lba ≡ 0x10
  sector-range lba unlocked h = rw (unlocked, le-ltb lba M.device.visible h)

  module _ (lba : ℕ) (unlocked : M.device.locked ≡ false) (low : lba < M.device.visible) where
    -- a sector that is read, by its content and its check bytes
    abbrev content : List ℕ
    content = part M.disk.sectors (512 * lba) 512

    abbrev stored : ℕ
    stored = get 2 M.disk.check_area (2 * lba)

    read-decided : request_of m ≡ sector_access read 1 lba → decide s m M.device ≡ decision (interrupt M.device) (good 0 0) (sending (disk_sector lba))
    unfolding decide_sector
    read-decided e = decided-sector read 1 lba e ∙ rw (interrupt-kept M.device, unlocked, lt-ltb lba M.device.visible low)

    pub serves-read : request_of m ≡ sector_access read 1 lba → stored ≡ check_of content → Serves s M (reply_bytes (good 0 0) content) (interrupt M.device) M.disk
    serves-read e same =
        subst (λ (l : List ℕ). Serves s M l (interrupt M.device) M.disk) (read-sound (good 0 0) (sector_at lba M.disk) same) (serves (read-decided e))

    -- "a read of a sector whose check differs has Error 40h, after the range check"
    pub serves-damaged : request_of m ≡ sector_access read 1 lba → (stored ≡ check_of content → ⊥) → Serves s M (reply_bytes (refused 0x40) []) (interrupt M.device) M.disk
    serves-damaged e differs =
        subst (λ (l : List ℕ). Serves s M l (interrupt M.device) M.disk) (read-damaged (good 0 0) (sector_at lba M.disk) differs) (serves (read-decided e))

    -- the sector is written at its place with its check bytes, every other byte is unchanged, and the flag is cleared
    pub serves-write : request_of m ≡ sector_access write 1 lba
        → Serves s M (reply_bytes (good 0 0) []) (with_initialized false (interrupt M.device))
        (record { sectors = sets M.disk.sectors (512 * lba) (data_of m); check_area = put 2 M.disk.check_area (2 * lba) (check_of (data_of m)) })
    unfolding decide_sector write_sector
    serves-write e =
        serves {c = decision (interrupt M.device) (good 0 0) (writing (one_sector lba (checked (data_of m))))}
        (decided-sector write 1 lba e ∙ rw (interrupt-kept M.device, unlocked, lt-ltb lba M.device.visible low))

  pub serves-sector-refused : (dir : Direction) (count lba error : ℕ) → request_of m ≡ sector_access dir count lba
      → sector_error count lba ≡ suc error
      → Serves s M (reply_bytes (refused (suc error)) []) (interrupt M.device) M.disk
  unfolding decide_sector
  serves-sector-refused dir count lba error e j =
      serves {c = decision (interrupt M.device) (refused (suc error)) nothing}
      (decided-sector dir count lba e ∙ rw (interrupt-kept M.device, j))

  -- ---- "All else": Error 04h, "stored code unchanged unless a fill was stopped"

  pub serves-other : request_of m ≡ other → Serves s M (reply_bytes (refused 0x04) []) (interrupt M.device) M.disk
  serves-other e = serves (decided other e)

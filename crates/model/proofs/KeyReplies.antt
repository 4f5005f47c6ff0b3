-- W-206 in the reply: a refused key names its word in LBA Mid, and no other request does: "The key reply carries it in LBA Mid; E1h replies keep 0."
use Rattle.std.specs.Prelude.{if◌then◌else◌}
use mathlib.Core.Path.{◌≡◌, refl, ◌∙◌}
use mathlib.Core.Bool.{Bool, true, false}
use Prim.Native.Nat.{ℕ, zero, suc, ◌%◌, ◌/◌, ◌<◌}
use native.Mathlib.Omega.{arith}
use mathlib.Core.List.{List, []}
use Rattle.wire.specs.Choice.{first_failed, if_passed}
use Rattle.wire.specs.Numbers.{get}
use Rattle.model.specs.Sizes.{mailbox_size, port_count}
use Rattle.model.specs.Device.{Device}
use Rattle.model.specs.Disk.{LongSector}
use Rattle.model.specs.Status.{status_sector}
use Rattle.model.specs.Registers.{Request, status_read, key_sector, data_transfer, sector_access, other, data_of, request_of, Registers, refused, refused_with, reply_bytes}
use Rattle.model.specs.Key.{rejected, judge_key}
use Rattle.model.specs.Fill.{interrupt}
use Rattle.model.specs.Decide.{Serving, Sending, no_data, status, temperatures, disk_sector, stored_sector, Decision, data_checks, decide_data, sector_checks, decide_sector, pending_for, decide_request, decide}
use Rattle.model.specs.Perform.{temperature_table, same_check, long_bytes, sector_read, reply_with, reply_of, volume_after}
use Rattle.model.specs.Machine.{request, reply, Machine}
use Rattle.model.specs.Valid.{Valid, Sized}
use Rattle.model.proofs.KeyRows.{refusal-small}
use Rattle.model.proofs.FormatLaws.{RegistersFit, reply-mid, reply-at}
use Rattle.model.proofs.RequestLaws.{serve_on, serves, serves-key-refused}
use Rattle.model.proofs.ValidRequest.{refused-fits, code_fits, decide-valid}

-- ---- a refused key: its code in Sector Count (byte 2) and LBA Low (byte 4), its word in LBA Mid (byte 6), Status 51h and Error 04h

pub record Names (code named : ℕ) (m : List ℕ) : Type 0 where
  pub low : get 1 m 2 ≡ code % 256
  pub high : get 1 m 4 ≡ code / 256
  pub mid : get 1 m 6 ≡ named
  pub status : get 1 m 12 ≡ 0x51
  pub error : get 1 m 13 ≡ 0x04

module _ (s : Serving) (M : Machine) (m : List ℕ) (port : s.port < port_count) (held : M.ports s.port ≡ request m) where
  abbrev answer : ℕ → ℕ → List ℕ
  answer code named = reply_bytes (refused_with code named) []

  pub refused-key-names : (code named : ℕ) → request_of m ≡ key_sector → judge_key (interrupt M.device) (data_of m) ≡ rejected code named
      → ((serve_on s M).state.ports s.port ≡ reply (answer code named)) × Names code named (answer code named)
  refused-key-names code named e j =
      let small = refusal-small (interrupt M.device) (data_of m) code named j in
      let at = reply-at (refused_with code named) [] (code_fits code named (omega arith) (omega arith)) (omega arith) in (
        (serves-key-refused s M m port held code named e j).replied,
        record { low = at.count; high = at.low; mid = at.mid; status = at.status; error = at.error },
      )

-- ---- every other request has 0 in LBA Mid, accepted or refused

chosen-mid : (n : ℕ) (x y : Decision) → x.registers.lba_mid ≡ 0 → y.registers.lba_mid ≡ 0 → (if_passed n x y).registers.lba_mid ≡ 0
chosen-mid zero x y p q = p
chosen-mid (suc n) x y p q = q

either-mid : (b : Bool) (x y : Decision) → x.registers.lba_mid ≡ 0 → y.registers.lba_mid ≡ 0 → (if b then x else y).registers.lba_mid ≡ 0
either-mid true x y p q = p
either-mid false x y p q = q

-- as it is decided ..
request-mid : (r : Request) (s : Serving) (m : List ℕ) (d : Device) → (r ≡ key_sector → ⊥) → (decide_request r s m d).registers.lba_mid ≡ 0
unfolding decide_data decide_sector
request-mid status_read s m d ne = either-mid d.locked _ _ refl refl
request-mid key_sector s m d ne = absurd (ne refl)
request-mid (data_transfer dir count) s m d ne = chosen-mid (first_failed (data_checks (interrupt d).locked dir count (pending_for s.port d))) _ _ refl refl
request-mid (sector_access dir count lba) s m d ne = chosen-mid (first_failed (sector_checks (interrupt d) count lba)) _ _ refl refl
request-mid other s m d ne = refl

decided-mid : (s : Serving) (m : List ℕ) (d : Device) → (request_of m ≡ key_sector → ⊥) → (decide s m d).registers.lba_mid ≡ 0
unfolding decide
decided-mid s m d ne = request-mid (request_of m) s m d ne

-- .. and as it is sent, with Error 40h too
sent-mid : (r : Registers) (x : Sending) (d : Device) (sector : LongSector) → RegistersFit r → r.lba_mid ≡ 0 → get 1 (reply_with r x d sector) 6 ≡ 0
sent-mid r no_data d sector f z = reply-mid r [] f ∙ z
sent-mid r status d sector f z = reply-mid r (status_sector d) f ∙ z
sent-mid r temperatures d sector f z = reply-mid r (temperature_table d) f ∙ z
sent-mid r (disk_sector lba) d sector f z = go (same_check sector)
  where
    go : (b : Bool) → get 1 (if b then reply_bytes r sector.content else reply_bytes (refused 0x40) []) 6 ≡ 0
    go true = reply-mid r sector.content f ∙ z
    go false = reply-mid (refused 0x40) [] (refused-fits 0x40 (omega arith))
sent-mid r (stored_sector lba) d sector f z = reply-mid r (long_bytes sector) f ∙ z

module _ (s : Serving) (M : Machine) (m : List ℕ) (port : s.port < port_count) (held : M.ports s.port ≡ request m) where
  abbrev answered : List ℕ
  answered = let c = decide s m M.device in reply_of c (volume_after c M.disk)

  pub only-keys-name : Valid M.device → Sized mailbox_size m → (request_of m ≡ key_sector → ⊥)
      → ((serve_on s M).state.ports s.port ≡ reply answered) × (get 1 answered 6 ≡ 0)
  only-keys-name valid whole ne =
      let c = decide s m M.device in
      let after = volume_after c M.disk in
      let sends = c.effect.sends in (
        (serves s M m port held refl).replied,
        sent-mid c.registers sends after.device (sector_read sends after.disk) (decide-valid s m M.device valid whole).fits
            (decided-mid s m M.device ne),
      )

-- No request both writes and sends, so its reply is the same whether it is built before or after the write.
use Rattle.std.specs.Prelude.{if◌then◌else◌}
use mathlib.Core.Path.{◌≡◌, refl, sym, ap, ◌∙◌}
use mathlib.Core.Bool.{Bool, true, false}
use mathlib.Core.Logic.{◌⊎◌, inl, inr}
use mathlib.Core.List.{List}
use Prim.Native.Nat.{ℕ, zero, suc}
use Rattle.wire.specs.Choice.{first_failed, if_passed}
use Rattle.model.specs.Device.{Transfer, none, table, fill_data, read_long, write_long, Device}
use Rattle.model.specs.Disk.{Disk, LongSector}
use Rattle.model.specs.Update.{with_code, with_key}
use Rattle.model.specs.Registers.{Direction, read, write, Request, status_read, key_sector, data_transfer, sector_access, other, data_of, long_data_of, request_of, good, refused, refused_with}
use Rattle.model.specs.Key.{word, Action, access_long, fill_pattern, fill_sector, set_timer, return_timer, set_feature, return_state, return_option, send_table, Verdict, accepted, rejected, judge_key}
use Rattle.model.specs.Fill.{interrupt}
use Rattle.model.specs.Decide.{Serving, Writing, no_write, Sending, no_data, status, Effect, nothing, sending, Decision, decision, carry_out, decide_verdict, decide_key, data_checks, transfer_effect, decide_data, sector_checks, sector_effect, decide_sector, pending_for, decide_request, decide}
use Rattle.model.specs.Perform.{written, volume_after, sector_read, reply_with, reply_of}

abbrev pub OnePart : Effect → Type 0
OnePart e = (e.writes ≡ no_write) ⊎ (e.sends ≡ no_data)

-- a choice between two decisions, by a number or by a test
chosen-part : (n : ℕ) (x y : Decision) → OnePart x.effect → OnePart y.effect → OnePart (if_passed n x y).effect
chosen-part zero x y p q = p
chosen-part (suc n) x y p q = q

either-part : (b : Bool) (x y : Decision) → OnePart x.effect → OnePart y.effect → OnePart (if b then x else y).effect
either-part true x y p q = p
either-part false x y p q = q

carried-part : (a : Action) (p : ℕ) (d : Device) → OnePart (carry_out a p d).effect
unfolding carry_out
carried-part (access_long dir lba) p d = inr refl
carried-part (fill_pattern first end sector) p d = inr refl
carried-part (fill_sector first end) p d = inr refl
carried-part (set_timer t n) p d = inr refl
carried-part (return_timer t) p d = inr refl
carried-part (set_feature f n keep) p d = inr refl
carried-part (return_state f) p d = inr refl
carried-part (return_option f) p d = inr refl
carried-part send_table p d = inr refl

verdict-part : (v : Verdict) (p : ℕ) (d : Device) → OnePart (decide_verdict v p d).effect
verdict-part (accepted a) p d = carried-part a p (with_code 0x0000 d)
verdict-part (rejected code named) p d = inr refl

transfer-part : (t : Transfer) (x : LongSector) → OnePart (transfer_effect t x)
transfer-part none x = inr refl
transfer-part table x = inl refl
transfer-part (fill_data first end) x = inr refl
transfer-part (read_long lba) x = inl refl
transfer-part (write_long lba) x = inr refl

sector-part : (dir : Direction) (lba : ℕ) (sector : List ℕ) → OnePart (sector_effect dir lba sector)
sector-part read lba sector = inl refl
sector-part write lba sector = inr refl

request-part : (r : Request) (s : Serving) (m : List ℕ) (d : Device) → OnePart (decide_request r s m d).effect
unfolding decide_key decide_data decide_sector
request-part status_read s m d = either-part d.locked (decision d (refused_with 0x0012 0) nothing) (decision d (good 0 0) (sending status)) (inr refl) (inl refl)
request-part key_sector s m d =
    verdict-part (judge_key (interrupt d) (data_of m)) s.port (with_key (word (data_of m) 0) (word (data_of m) 1) (interrupt d))
request-part (data_transfer dir count) s m d =
    let t = pending_for s.port d in
    let code = first_failed (data_checks (interrupt d).locked dir count t) in
    chosen-part code (decision (with_code 0x0000 (interrupt d)) (good 0 0) (transfer_effect t (long_data_of m))) (decision (with_code code (interrupt d)) (refused_with code 0) nothing)
    (transfer-part t (long_data_of m))
    (inr refl)
request-part (sector_access dir count lba) s m d =
    let error = first_failed (sector_checks (interrupt d) count lba) in
    chosen-part error (decision (interrupt d) (good 0 0) (sector_effect dir lba (data_of m))) (decision (interrupt d) (refused error) nothing)
    (sector-part dir lba (data_of m))
    (inr refl)
request-part other s m d = inr refl

-- THEOREM: no request both writes and sends ..
pub one-part : (s : Serving) (m : List ℕ) (d : Device) → OnePart (decide s m d).effect
unfolding decide
one-part s m d = request-part (request_of m) s m d

order-free : (c : Decision) (disk : Disk) → OnePart c.effect → reply_of c (volume_after c disk) ≡ reply_of c (record { device = c.device; disk = disk })
order-free c disk (inl e) = ap (λ (w : Writing). reply_of c (written w (record { device = c.device; disk = disk }))) e
order-free c disk (inr e) =
    let v = volume_after c disk in
    ap (λ (x : Sending). reply_with c.registers x v.device (sector_read x v.disk)) e
    ∙ sym (ap (λ (x : Sending). reply_with c.registers x c.device (sector_read x disk)) e)

-- .. so its reply is the one for the device and the disk before the write
pub reply-before : (s : Serving) (m : List ℕ) (d : Device) (disk : Disk)
    → let c = decide s m d in reply_of c (volume_after c disk) ≡ reply_of c (record { device = c.device; disk = disk })
reply-before s m d disk = order-free (decide s m d) disk (one-part s m d)

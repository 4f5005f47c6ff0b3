-- A status read on the bytes: what it leaves, and (W-205) that this is the same whatever the slot's sectors held.
use Rattle.std.specs.Prelude.{if◌then◌else◌}
use mathlib.Core.Path.{◌≡◌, refl, sym, ap, ◌∙◌}
use mathlib.Core.Bool.{Bool, true, false}
use Prim.Native.Nat.{ℕ, ◌+◌, ◌*◌, ◌≤◌, ◌<◌}
use native.Mathlib.Omega.{arith}
use mathlib.Core.List.{List, []}
use lib.ListN.{length, get_or}
use lib.Seq.{sets, length-sets}
use Rattle.wire.specs.Choice.{first_failed}
use Rattle.wire.proofs.ChoiceLaws.{attempt-answer, attempt-done}
use Rattle.wire.proofs.NumbersLaws.{get_or_sets_before}
use Rattle.wire.proofs.PartsLaws.{get_or_part}
use Rattle.wire.proofs.LayoutLaws.{length-form}
use Rattle.wire.proofs.WithinLaws.{sets_over}
use Rattle.model.specs.Sizes.{sector_size, done}
use Rattle.model.specs.Buffers.{Mailbox}
use Rattle.model.specs.Device.{Device}
use Rattle.model.specs.Disk.{Disk}
use Rattle.model.specs.Registers.{Request, status_read, request_of, good, refused_with, reply_bytes}
use Rattle.model.specs.Status.{status_fields, status_sector}
use Rattle.model.specs.Decide.{Serving, Decision, decision, nothing, sending, status, decide_request, decide}
use Rattle.model.proofs.FormatLaws.{reply-length}
use Rattle.model.proofs.RegisterLaws.{ignored}
use Rattle.store.specs.Areas.{slot_place}
use Rattle.store.specs.Record.{answered, Contents, encode, decode}
use Rattle.store.specs.Store.{slot_bytes}
use Rattle.store.specs.Entries.{with_stage, ServeAfter, performed, serve_checks, serve_done, serve_entry, serve_bytes}

-- ---- a status read performed, by the lock

-- what is decided, and the reply: `decide_status d` is `status_by d.locked d`
abbrev pub status_by : Bool → Device → Decision
status_by locked d = if locked then decision d (refused_with 0x0012 0) nothing else decision d (good 0 0) (sending status)

abbrev pub reply_by : Bool → Device → Mailbox
reply_by locked d = if locked then reply_bytes (refused_with 0x0012 0) [] else reply_bytes (good 0 0) (status_sector d)

-- the stage changes, and the slot; nothing else of record, private area and disk
abbrev pub answered_by : Bool → ℕ → Contents → List ℕ → Disk → ServeAfter
answered_by locked p c a disk =
    record {
      answer = done;
      record_area = encode (with_stage p answered c);
      private_area = sets a (slot_place p) (reply_by locked c.device);
      disk = disk;
    }

pub status-performed : (locked : Bool) (p : ℕ) (c : Contents) (a : List ℕ) (disk : Disk) → performed p (status_by locked c.device) c a disk ≡ answered_by locked p c a disk
status-performed true p c a disk = refl
status-performed false p c a disk = refl

-- the reply is a whole slot
reply-whole : (locked : Bool) (d : Device) → length (reply_by locked d) ≡ 1040
unfolding status_sector
reply-whole true d = reply-length (refused_with 0x0012 0) [] (omega arith)
reply-whole false d = reply-length (good 0 0) (status_sector d) (rw (length-form sector_size (status_fields d)) (omega arith))

-- ---- "The reply is the same whatever the slot's sector bytes held before."

module _ (r a x : List ℕ) (p : ℕ) (disk : Disk) (fits : length x ≤ 1024) where
  -- the private area with other bytes in the sectors of slot p: they are behind the 16 bytes of registers, in a slot of 1,040
  abbrev other : List ℕ
  other = sets a (1040 * p + 16) x

  -- the slot's registers are the same
  same_byte : (i : ℕ) → i < 16 → get_or (slot_bytes p other) i 0 ≡ get_or (slot_bytes p a) i 0
  same_byte i h =
      get_or_part other (1040 * p) 1040 i (omega arith)
      ∙ get_or_sets_before x a (1040 * p + 16) (1040 * p + i) (omega arith)
      ∙ sym (get_or_part a (1040 * p) 1040 i (omega arith))

  same-request : request_of (slot_bytes p other) ≡ request_of (slot_bytes p a)
  same-request =
      ignored (slot_bytes p other) (slot_bytes p a) (record { named = λ i h. same_byte i (omega arith); is_command = same_byte 11 (omega arith) })

  -- the reply covers the slot
  covered : (locked : Bool) (c : Contents) → answered_by locked p c other disk ≡ answered_by locked p c a disk
  covered locked c =
      ap (λ (area : List ℕ). record { answer = done; record_area = encode (with_stage p answered c); private_area = area; disk = disk })
      (sets_over x (reply_by locked c.device) a (1040 * p) 16 (rw (reply-whole locked c.device) (omega arith)))

  done-same : request_of (slot_bytes p a) ≡ status_read → serve_done r p other disk ≡ serve_done r p a disk
  unfolding decide
  done-same asked =
      let c = decode r in
      let s : Serving = record { port = p } in
      let locked = c.device.locked in
      ap (λ (q : Request). performed p (decide_request q s (slot_bytes p other) c.device) c other disk) (same-request ∙ asked)
      ∙ status-performed locked p c other disk
      ∙ covered locked c
      ∙ sym (status-performed locked p c a disk)
      ∙ sym (ap (λ (q : Request). performed p (decide_request q s (slot_bytes p a) c.device) c a disk) asked)

  -- THEOREM (W-205): a status read that is served leaves the same record, private area and disk, whatever these bytes were
  pub same-reply : request_of (slot_bytes p a) ≡ status_read → (serve_bytes r p a disk).answer ≡ 0 → serve_bytes r p other disk ≡ serve_bytes r p a disk
  unfolding serve_bytes
  same-reply asked answers =
      let passes : first_failed (serve_checks r p a disk) ≡ 0 = sym (attempt-answer (serve_entry r p a disk) (λ s. s.answer) refl (λ n. refl)) ∙ answers in
      let other-passes : first_failed (serve_checks r p other disk) ≡ 0 = rw (length-sets a (1040 * p + 16) x) passes in
      attempt-done (serve_entry r p other disk) _ refl other-passes
      ∙ done-same asked
      ∙ sym (attempt-done (serve_entry r p a disk) _ refl passes)

-- Laws of Long Sector Access, in W-202's words: the reply to its keys, what Read Long sends, and what Write Long stores, byte by byte.
use mathlib.Core.Path.{◌≡◌, refl, sym, ap, ap₂, subst, ◌∙◌}
use mathlib.Core.Bool.{false}
use mathlib.Core.Logic.{◌⊎◌}
use Prim.Native.Nat.{ℕ, ◌+◌, ◌*◌, ◌≤◌, ◌<◌}
use native.Mathlib.Nat.{zero-add}
use native.Mathlib.Omega.{arith}
use mathlib.Core.List.{List, [], ◌∷◌, ◌++◌}
use lib.ListN.{length, get_or, drop, length-append}
use lib.Seq.{sets, length-sets, get_or-set_same, get_or-set_other, take-add, drop-drop}
use Rattle.wire.specs.Choice.{first_failed, if_passed}
use Rattle.wire.specs.Numbers.{le, get, put}
use Rattle.wire.specs.Parts.{part, padded}
use Rattle.wire.specs.Layout.{form}
use Rattle.wire.specs.Bytes.{Bytes}
use Rattle.wire.proofs.NumbersLaws.{length-le}
use Rattle.wire.proofs.PartsLaws.{length_part, get_or_part, part-part, get-part, part_same, part-append-left, part-append-right}
use Rattle.wire.proofs.FormUnique.{le-part}
use Rattle.model.specs.Sizes.{port_count, sector_size, registers_size}
use Rattle.model.specs.Device.{Transfer, none, table, fill_data, read_long, write_long, Device}
use Rattle.model.specs.Disk.{Disk, LongSector}
use Rattle.model.specs.Update.{with_code}
use Rattle.model.specs.Registers.{Direction, read, write, Request, status_read, key_sector, data_transfer, sector_access, other, data_of, long_data_of, request_of, good, refused_with, registers_bytes, reply_bytes}
use Rattle.model.specs.Key.{word, access_long, accepted, action_of}
use Rattle.model.specs.Fill.{nothing_pending, interrupt}
use Rattle.model.specs.Decide.{Serving, one_sector, new_fill, Effect, nothing, writing, decision, long_transfer, decide_key, data_checks, transfer_effect, decide_data, decide_sector, pending_for, decide_request, decide}
use Rattle.model.specs.Machine.{request, reply, Machine, held_bytes}
use Rattle.model.specs.Valid.{Sized, PortValid, MachineValid}
use Rattle.model.proofs.RegisterLaws.{ignored}
use Rattle.model.proofs.FormatLaws.{reply-registers, reply-data, reply-behind, reply-length}
use Rattle.model.proofs.KeyTable.{accepts-long}
use Rattle.model.proofs.AcceptedLaws.{word-in-request, direction_number, direction-within, accepted-long}
use Rattle.model.proofs.RequestLaws.{serve_on, key_judged, interrupt-kept, serves-access-long, serves-read-long, serves-write-long}
use Rattle.model.proofs.ValidRequest.{empty-rest}
use Rattle.model.proofs.ValidClauses.{valid-clauses}
use Rattle.model.proofs.HiddenLaws.{outside-stored}

-- ---- the keys

-- "either key's reply has 2 in Sector Count and LBA Mid": Status is 50h, and every other byte is 0
long-key-reply : reply_bytes (good 2 2) [] ≡ form 1040 ((2, 1, 2) ∷ (6, 1, 2) ∷ (12, 1, 0x50) ∷ [])
unfolding reply_bytes registers_bytes padded form put le
long-key-reply = refl

-- what an accepted key of port p leaves: this port and no other has the transfer pending; nothing is written
pub record LongKeyed (p : ℕ) (dir : Direction) (lba : ℕ) (before after : Machine) : Type 0 where
  pub is_reply : after.ports p ≡ reply (form 1040 ((2, 1, 2) ∷ (6, 1, 2) ∷ (12, 1, 0x50) ∷ []))
  pub own : get_or after.device.command.pending p none ≡ long_transfer dir lba
  pub others : (q : ℕ) → (q ≡ p → ⊥) → get_or after.device.command.pending q none ≡ none
  pub code : after.device.command.code ≡ 0x0000
  pub disk : after.disk ≡ before.disk

module _ (s : Serving) (M : Machine) (m : List ℕ) (port : s.port < port_count) (held : M.ports s.port ≡ request m) where
  -- "action 0001h, functions 1 (read) and 2 (write), LBA in words 2 to 5": a key with an LBA below V is accepted
  long-judged : (dir : Direction) → M.device.locked ≡ false → get 2 m 16 ≡ 1 → get 2 m 18 ≡ direction_number dir → get 8 m 20 < M.device.visible
      → key_judged s M m port held ≡ accepted (access_long dir (get 8 m 20))
  long-judged dir unlocked action function low =
      let d = interrupt M.device in
      let k = data_of m in
      let one : word k 0 ≡ 1 = word-in-request m 0 (omega arith) ∙ action in
      let number : word k 1 ≡ direction_number dir = word-in-request m 1 (omega arith) ∙ function in
      let lba : get 8 k 4 ≡ get 8 m 20 = get-part 8 m registers_size sector_size 4 (omega arith) in
      let free : d.locked ≡ false = ap (λ (x : Device). x.locked) (interrupt-kept M.device) ∙ unlocked in
      let visible : d.visible ≡ M.device.visible = ap (λ (x : Device). x.visible) (interrupt-kept M.device) in
      let accepts = accepts-long d k free one (rw number (direction-within dir)) (rw (lba, visible) low) in
      accepts ∙ ap accepted (accepted-long d k (action_of d.visible k) accepts dir one number ∙ ap (access_long dir) lba)

  pub long-key : (dir : Direction) → request_of m ≡ key_sector → M.device.locked ≡ false → get 2 m 16 ≡ 1 → get 2 m 18 ≡ direction_number dir
      → get 8 m 20 < M.device.visible → LongKeyed s.port dir (get 8 m 20) M (serve_on s M).state
  long-key dir e unlocked action function low =
      let t = long_transfer dir (get 8 m 20) in
      let w = serves-access-long s M m port held dir (get 8 m 20) e (long-judged dir unlocked action function low) in
      record {
        is_reply = w.replied ∙ ap reply long-key-reply;
        own = rw w.device_after (get_or-set_same nothing_pending s.port t none port);
        others = λ q ne. rw w.device_after (get_or-set_other nothing_pending s.port q t none ne ∙ empty-rest nothing_pending q (omega arith));
        code = rw w.device_after;
        disk = w.disk_after;
      }

-- ---- Read Long

-- "Read Long sends the two check bytes as stored, zeros behind": the reply r to it, from the disk's bytes
pub record LongReply (disk : Disk) (lba : ℕ) (r : List ℕ) : Type 0 where
  -- Status 50h, and no error whatever the check bytes are
  pub registers : part r 0 16 ≡ form 16 ((12, 1, 0x50) ∷ [])
  pub content : part r 16 512 ≡ part disk.sectors (512 * lba) 512
  pub check_bytes : part r 528 2 ≡ part disk.check_area (2 * lba) 2
  pub behind : (i : ℕ) → 530 ≤ i → get_or r i 0 ≡ 0
  pub size : length r ≡ 1040

good-registers : registers_bytes (good 0 0) ≡ form 16 ((12, 1, 0x50) ∷ [])
unfolding registers_bytes form put le
good-registers = refl

module _ (disk : Disk) (lba : ℕ) (fits : 512 * lba + 512 ≤ length disk.sectors) (checks_fit : 2 * lba + 2 ≤ length disk.check_area) (bytes : Bytes disk.check_area) where
  abbrev sent : List ℕ
  sent = part disk.sectors (512 * lba) 512 ++ le 2 (get 2 disk.check_area (2 * lba))

  abbrev answer : List ℕ
  answer = reply_bytes (good 0 0) sent

  content-length : length (part disk.sectors (512 * lba) 512) ≡ 512
  content-length = length_part disk.sectors (512 * lba) 512 fits

  sent-length : length sent ≡ 514
  sent-length = rw (length-append, content-length, length-le 2 (get 2 disk.check_area (2 * lba)))

  -- the reply's data, part by part
  data-part : (i n : ℕ) → i + n ≤ 514 → part answer (16 + i) n ≡ part sent i n
  data-part i n h = sym (part-part answer 16 514 i n h) ∙ ap (λ (l : List ℕ). part l i n) (reply-data (good 0 0) sent 514 sent-length)

  long-reply : LongReply disk lba answer
  long-reply =
      let stored = le 2 (get 2 disk.check_area (2 * lba)) in
      record {
        registers = reply-registers (good 0 0) sent ∙ good-registers;
        content = data-part 0 512 (omega arith) ∙ part-append-left (part disk.sectors (512 * lba) 512) stored 512 content-length;
        check_bytes =
            data-part 512 2 (omega arith)
            ∙ part-append-right (part disk.sectors (512 * lba) 512) stored 512 2 content-length (length-le 2 (get 2 disk.check_area (2 * lba)))
            ∙ le-part 2 disk.check_area (2 * lba) bytes checks_fit;
        behind = λ i h. reply-behind (good 0 0) sent i (omega (arith, h, sent-length));
        size = reply-length (good 0 0) sent (omega (arith, sent-length));
      }

-- ---- Write Long

-- "Write Long stores what it is sent, without judging it": of the request m, and nothing else changes
pub record LongWritten (m : List ℕ) (lba : ℕ) (before after : Disk) : Type 0 where
  pub content : part after.sectors (512 * lba) 512 ≡ part m 16 512
  pub check_bytes : part after.check_area (2 * lba) 2 ≡ part m 528 2
  pub other_sectors : (i : ℕ) → (i < 512 * lba) ⊎ (512 * lba + 512 ≤ i) → get_or after.sectors i 0 ≡ get_or before.sectors i 0
  pub other_check_bytes : (i : ℕ) → (i < 2 * lba) ⊎ (2 * lba + 2 ≤ i) → get_or after.check_area i 0 ≡ get_or before.check_area i 0
  pub sizes : (length after.sectors ≡ length before.sectors) × (length after.check_area ≡ length before.check_area)

long-written : (m : List ℕ) (lba : ℕ) (disk : Disk) → Sized 1040 m → 512 * lba + 512 ≤ length disk.sectors → 2 * lba + 2 ≤ length disk.check_area
    → LongWritten m lba disk (record { sectors = sets disk.sectors (512 * lba) (part m 16 512); check_area = put 2 disk.check_area (2 * lba) (get 2 m 528) })
unfolding put
long-written m lba disk whole fits checks_fit =
    let sent = part m 16 512 in
    let checks = le 2 (get 2 m 528) in
    let size : length sent ≡ 512 = length_part m 16 512 (omega (arith, whole.size)) in
    let two = length-le 2 (get 2 m 528) in
    record {
      content = part_same sent disk.sectors (512 * lba) 512 size fits;
      check_bytes = part_same checks disk.check_area (2 * lba) 2 two checks_fit ∙ le-part 2 m 528 whole.bytes (omega (arith, whole.size));
      other_sectors = λ i h. outside-stored sent disk.sectors (512 * lba) (512 * lba + 512) i (omega (arith, size)) h;
      other_check_bytes = λ i h. outside-stored checks disk.check_area (2 * lba) (2 * lba + 2) i (omega (arith, two)) h;
      sizes = (length-sets disk.sectors (512 * lba) sent, length-sets disk.check_area (2 * lba) checks);
    }

-- ---- the two transfers, on a machine

module _ (s : Serving) (M : Machine) (m : List ℕ) (port : s.port < port_count) (held : M.ports s.port ≡ request m) (ok : MachineValid M) (unlocked : M.device.locked ≡ false) (lba : ℕ) where
  abbrev p : ℕ
  p = s.port

  abbrev after : Machine
  after = (serve_on s M).state

  -- the sector that a pending transfer names is on the disk
  long-fits : (dir : Direction) → get_or M.device.command.pending p none ≡ long_transfer dir lba
      → (512 * lba + 512 ≤ length M.disk.sectors) × (2 * lba + 2 ≤ length M.disk.check_area)
  long-fits dir e =
      let low = (valid-clauses M.device ok.device_valid).long dir p lba e in
      let n = ok.device_valid.sizes.1 in
      (omega (arith, low, n, ok.disk_valid.sectors_valid.size), omega (arith, low, n, ok.disk_valid.check_area_valid.size))

  -- Read Long's E1h: this reply; the disk is unchanged, and the stored code is 0000h
  pub read-long : request_of m ≡ data_transfer read 2 → get_or M.device.command.pending p none ≡ read_long lba
      → LongReply M.disk lba (held_bytes (after.ports p)) × (after.disk ≡ M.disk) × (after.device.command.code ≡ 0x0000)
  read-long e pends =
      let w = serves-read-long s M m port held lba e unlocked pends in
      let fits = long-fits read pends in (
        rw w.replied (long-reply M.disk lba fits.0 fits.1 ok.disk_valid.check_area_valid.bytes),
        w.disk_after,
        ap (λ (d : Device). d.command.code) w.device_after,
      )

  -- Write Long's E1h: the sector and its check bytes are the request's; the flag is cleared, and the stored code is 0000h
  pub write-long : request_of m ≡ data_transfer write 2 → get_or M.device.command.pending p none ≡ write_long lba
      → LongWritten m lba M.disk after.disk × (after.device.initialized ≡ false) × (after.device.command.code ≡ 0x0000)
  write-long e pends =
      let w = serves-write-long s M m port held lba e unlocked pends in
      let fits = long-fits write pends in
      let whole : Sized 1040 m = subst PortValid held (ok.ports_valid p) in (
        rw w.disk_after (long-written m lba M.disk whole fits.0 fits.1),
        ap (λ (d : Device). d.initialized) w.device_after,
        ap (λ (d : Device). d.command.code) w.device_after,
      )

-- the data of a long transfer is a sector and its check bytes
data-split : (m : List ℕ) → part m 16 514 ≡ part m 16 512 ++ part m 528 2
data-split m = take-add 512 2 (drop 16 m) ∙ rw (drop-drop 512 16 m)

-- THEOREM: what a Write Long stored, a later Read Long of the same LBA sends back, the same 514 bytes: on any machine that has the disk
-- that the write left, from any port.
pub write-then-read : (s : Serving) (M : Machine) (m : List ℕ) → s.port < port_count → M.ports s.port ≡ request m → MachineValid M
    → M.device.locked ≡ false → request_of m ≡ data_transfer write 2 → (lba : ℕ) → get_or M.device.command.pending s.port none ≡ write_long lba
    → (t : Serving) (N : Machine) (n : List ℕ) → t.port < port_count → N.ports t.port ≡ request n → MachineValid N → N.device.locked ≡ false
    → request_of n ≡ data_transfer read 2 → get_or N.device.command.pending t.port none ≡ read_long lba → N.disk ≡ (serve_on s M).state.disk
    → part (held_bytes ((serve_on t N).state.ports t.port)) 16 514 ≡ part m 16 514
write-then-read s M m port held ok unlocked e lba pends t N n port' held' ok' unlocked' e' pends' same =
    let w = (write-long s M m port held ok unlocked lba e pends).0 in
    let r = (read-long t N n port' held' ok' unlocked' lba e' pends').0 in
    data-split (held_bytes ((serve_on t N).state.ports t.port))
    ∙ ap₂ (λ (x y : List ℕ). x ++ y)
    (r.content ∙ ap (λ (disk : Disk). part disk.sectors (512 * lba) 512) same ∙ w.content)
    (r.check_bytes ∙ ap (λ (disk : Disk). part disk.check_area (2 * lba) 2) same ∙ w.check_bytes)
    ∙ sym (data-split m)

-- ---- which bytes of a request matter

-- an effect depends on the content that is sent, and on the check bytes only for a pending Write Long
same_effect : (t : Transfer) (x y : LongSector) → x.content ≡ y.content → ((lba : ℕ) → t ≡ write_long lba → x.check ≡ y.check)
    → transfer_effect t x ≡ transfer_effect t y
same_effect none x y e k = refl
same_effect table x y e k = refl
same_effect (fill_data first end) x y e k = ap (λ (sector : List ℕ). writing (new_fill first end sector)) e
same_effect (read_long lba) x y e k = refl
same_effect (write_long lba) x y e k = λ i. writing (one_sector lba (record { content = e i; check = k lba refl i }))

module _ (s : Serving) (m n : List ℕ) (d : Device) where
  -- requests whose first k bytes are the same, the registers and a sector among them
  module _ (k : ℕ) (sector : 528 ≤ k) (same : part m 0 k ≡ part n 0 k) where
    same_byte : (i : ℕ) → i < 528 → get_or m i 0 ≡ get_or n i 0
    same_byte i h =
        rw (zero-add i) at (sym (get_or_part m 0 k i (omega arith)) ∙ ap (λ (l : List ℕ). get_or l i 0) same ∙ get_or_part n 0 k i (omega arith))

    same-request : request_of m ≡ request_of n
    same-request = ignored m n (record { named = λ i h. same_byte i (omega arith); is_command = same_byte 11 (omega arith) })

    same-data : data_of m ≡ data_of n
    same-data = sym (part-part m 0 k 16 512 (omega arith)) ∙ ap (λ (l : List ℕ). part l 16 512) same ∙ part-part n 0 k 16 512 (omega arith)

    same-decision : ((lba : ℕ) → pending_for s.port d ≡ write_long lba → get 2 m 528 ≡ get 2 n 528) → decide s m d ≡ decide s n d
    unfolding decide decide_data
    same-decision checks = ap (λ (r : Request). decide_request r s m d) same-request ∙ go (request_of n)
      where
        go : (r : Request) → decide_request r s m d ≡ decide_request r s n d
        go status_read = refl
        go key_sector = ap (λ (k : List ℕ). decide_key s.port k (interrupt d)) same-data
        go (data_transfer dir count) =
            let code = first_failed (data_checks (interrupt d).locked dir count (pending_for s.port d)) in
            ap
            (λ (e : Effect). if_passed code (decision (with_code 0x0000 (interrupt d)) (good 0 0) e) (decision (with_code code (interrupt d)) (refused_with code 0) nothing))
            (same_effect (pending_for s.port d) (long_data_of m) (long_data_of n) same-data checks)
        go (sector_access dir count lba) = ap (λ (k : List ℕ). decide_sector dir count lba k (interrupt d)) same-data
        go other = refl

  -- THEOREM: "bytes behind them are ignored on Write Long": requests with the same first 530 bytes do the same ..
  pub behind-ignored : part m 0 530 ≡ part n 0 530 → decide s m d ≡ decide s n d
  behind-ignored same =
      same-decision 530 (omega arith) same
      (λ lba e. sym (get-part 2 m 0 530 528 (omega arith)) ∙ ap (λ (l : List ℕ). get 2 l 528) same ∙ get-part 2 n 0 530 528 (omega arith))

  -- .. and with no Write Long pending the same first 528, "16 of registers, then a 512-byte sector", are enough
  pub second-ignored : ((lba : ℕ) → pending_for s.port d ≡ write_long lba → ⊥) → part m 0 528 ≡ part n 0 528 → decide s m d ≡ decide s n d
  second-ignored short same = same-decision 528 (omega arith) same (λ lba e. absurd (short lba e))

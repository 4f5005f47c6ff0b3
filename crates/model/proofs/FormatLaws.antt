-- Laws of the formats: what is at each place that document 01 names, and 0 everywhere else.
use mathlib.Core.Path.{◌≡◌, refl, ap, ◌∙◌}
use mathlib.Core.Bool.{true, ◌||◌}
use Prim.Native.Nat.{ℕ, ◌+◌, ◌-◌, ◌/◌, ◌%◌, ◌^◌, ◌≤◌, ◌<◌}
use native.Mathlib.Omega.{arith}
use mathlib.Core.List.{List, [], ◌∷◌, ◌++◌, append-nil, append_assoc}
use lib.ListN.{length, get_or, take, length-append, get_or-append}
use lib.Seq.{take_at, drop_at, get_or-append-add}
use lib.Dec.{ltb}
use borrow.Author.Tests.{le-ltb}
use Rattle.wire.specs.Choice.{bit}
use Rattle.wire.specs.Numbers.{le, get, put}
use Rattle.wire.specs.Parts.{part, zeros, padded}
use Rattle.wire.specs.Layout.{Field, form, Fit, Reads, outside}
use Rattle.wire.specs.Bytes.{Bytes}
use Rattle.wire.proofs.ChoiceLaws.{bit-small, below, below_all}
use Rattle.wire.proofs.NumbersLaws.{get-append-left}
use Rattle.wire.proofs.PartsLaws.{part-append-left, part-append-right, length-padded, length-zeros, get_or-zeros}
use Rattle.wire.proofs.LayoutLaws.{length-form, reads-form, reads-front, form-outside}
use Rattle.wire.proofs.BytesLaws.{bytes-append, bytes-form, bytes-padded}
use Rattle.model.specs.Sizes.{sector_size, native_limit, registers_size, mailbox_size, history_size, data_size}
use Rattle.model.specs.Device.{Fill, idle, running, Device, next_sector}
use Rattle.model.specs.Status.{drive_state, status_fields, status_sector}
use Rattle.model.specs.Temperature.{table_fields, table_head_size, table_bytes}
use Rattle.model.specs.Registers.{Registers, registers_fields, registers_bytes, reply_bytes}
use Rattle.model.specs.Valid.{FillValid, Valid, Sized}

-- ---- status sector

abbrev status_places : List Field
status_places =
    (0, 2, 0)
    ∷ (2, 2, 0)
    ∷ (4, 2, 0)
    ∷ (6, 4, 0)
    ∷ (10, 1, 0)
    ∷ (14, 2, 0)
    ∷ (16, 2, 0)
    ∷ (18, 2, 0)
    ∷ (40, 8, 0)
    ∷ (200, 1, 0)
    ∷ (202, 1, 0)
    ∷ (204, 1, 0)
    ∷ []

-- "format 0002h; version 0001h at 2; spec 0001h at 4; flag bit 0 at 6; state at 10 (0, or 5 with a fill); code 14; action 16;
-- function 18; LBA 40-47 the next sector, 0 with no fill; temperatures at 200 (now), 202 (this power cycle), 204 (life)."
pub record StatusAt (d : Device) (s : List ℕ) : Type 0 where
  pub format : get 2 s 0 ≡ 0x0002
  pub version : get 2 s 2 ≡ 0x0001
  pub specification : get 2 s 4 ≡ 0x0001
  pub flags : get 4 s 6 ≡ bit d.initialized
  pub state : get 1 s 10 ≡ drive_state d.command.fill
  pub code : get 2 s 14 ≡ d.command.code
  pub action : get 2 s 16 ≡ d.command.action
  pub function : get 2 s 18 ≡ d.command.function
  pub lba : get 8 s 40 ≡ next_sector d.command.fill
  pub current : get 1 s 200 ≡ d.thermal.current
  pub cycle : get 1 s 202 ≡ d.thermal.cycle_maximum
  pub life : get 1 s 204 ≡ d.thermal.life_maximum
  -- "All else 0."
  pub rest : (i : ℕ) → outside status_places i ≡ true → get_or s i 0 ≡ 0
  pub size : length s ≡ sector_size

next_fits : (d : Device) (f : Fill) → FillValid d.visible f → d.visible ≤ native_limit → next_sector f < 256 ^ 8
next_fits d idle v h = omega arith
next_fits d (running first next end) v h = omega arith

state-fits : (f : Fill) → drive_state f < 256 ^ 1
state-fits idle = omega arith
state-fits (running first next end) = omega arith

pub status-at : (d : Device) → Valid d → StatusAt d (status_sector d)
unfolding status_sector
status-at d v =
    let c = v.command_valid.words in
    let t = v.thermal_valid.bytes in
    let fit : Fit (status_fields d) = (
      omega arith,
      (
        omega arith,
        (
          omega arith,
          (
            omega (arith, bit-small d.initialized),
            (
              state-fits d.command.fill,
              (
                c.0,
                (
                  c.1,
                  (
                    c.2,
                    (
                      next_fits d d.command.fill v.command_valid.fill_valid (omega (arith, v.sizes.1, v.sizes.2)),
                      (t.0, (t.1, (t.2, tt))),
                    ),
                  ),
                ),
              ),
            ),
          ),
        ),
      ),
    ) in
    let r = reads-form sector_size (status_fields d) refl fit in
    record {
      format = r.0;
      version = r.1.0;
      specification = r.1.1.0;
      flags = r.1.1.1.0;
      state = r.1.1.1.1.0;
      code = r.1.1.1.1.1.0;
      action = r.1.1.1.1.1.1.0;
      function = r.1.1.1.1.1.1.1.0;
      lba = r.1.1.1.1.1.1.1.1.0;
      current = r.1.1.1.1.1.1.1.1.1.0;
      cycle = r.1.1.1.1.1.1.1.1.1.1.0;
      life = r.1.1.1.1.1.1.1.1.1.1.1.0;
      rest = form-outside sector_size (status_fields d);
      size = length-form sector_size (status_fields d);
    }

-- ---- temperature table

-- every field is read back
pub table-reads : (interval index : ℕ) (history : List ℕ) → interval < 256 ^ 2 → index < 256 ^ 2
    → Reads (table_fields interval index) (table_bytes interval index history)
unfolding table_bytes
table-reads interval index history i x =
    let fields = table_fields interval index in
    reads-front fields 0 table_head_size (form table_head_size fields) history refl (rw (length-form table_head_size fields) (omega arith))
    (reads-form table_head_size fields refl (omega arith, (i, (omega arith, (omega arith, (x, tt))))))

-- the fixed numbers at the front; bytes 6-9 one by one
table-front : (interval index : ℕ)
    → let t = form table_head_size (table_fields interval index) in
    (get 2 t 0 ≡ 0x0002) × (get 2 t 2 ≡ 1) × (get 1 t 6 ≡ 0x3C) × (get 1 t 7 ≡ 0x46) × (get 1 t 8 ≡ 0x05) × (get 1 t 9 ≡ 0xF6)
unfolding form put le get
table-front interval index = (refl, refl, refl, refl, refl, refl)

-- bytes 10 to 29 belong to no field
table-gap : (interval index : ℕ) → below 30 (λ i. ltb i 10 || outside (table_fields interval index) i) ≡ true
table-gap interval index = refl

-- "0002h; period 1; interval; bytes 6-9 = 3Ch, 46h, 05h, F6h; zeros; size 478 at 30; index at 32; history from 34"
pub record TableAt (interval index : ℕ) (history s : List ℕ) : Type 0 where
  pub format : get 2 s 0 ≡ 0x0002
  pub period : get 2 s 2 ≡ 1
  pub interval_at : get 2 s 4 ≡ interval
  pub limits : (get 1 s 6 ≡ 0x3C) × (get 1 s 7 ≡ 0x46) × (get 1 s 8 ≡ 0x05) × (get 1 s 9 ≡ 0xF6)
  pub zero : (i : ℕ) → 10 ≤ i → i < 30 → get_or s i 0 ≡ 0
  pub size_at : get 2 s 30 ≡ 478
  pub index_at : get 2 s 32 ≡ index
  pub history_at : part s 34 478 ≡ history
  pub size : length s ≡ sector_size

pub table_at : (interval index : ℕ) (history : List ℕ) → interval < 256 ^ 2 → index < 256 ^ 2 → length history ≡ history_size
    → TableAt interval index history (table_bytes interval index history)
unfolding table_bytes
table_at interval index history i x h =
    let head = form table_head_size (table_fields interval index) in
    let size = length-form table_head_size (table_fields interval index) in
    let front : (k at : ℕ) → at + k ≤ table_head_size → get k (head ++ history) at ≡ get k head at =
    λ k at b. get-append-left k head history at (rw size b) in
    let fixed = table-front interval index in
    let r = table-reads interval index history i x in
    record {
      format = front 2 0 (omega arith) ∙ fixed.0;
      period = front 2 2 (omega arith) ∙ fixed.1;
      interval_at = r.1.0;
      limits = (
        front 1 6 (omega arith) ∙ fixed.2,
        front 1 7 (omega arith) ∙ fixed.3,
        front 1 8 (omega arith) ∙ fixed.4,
        front 1 9 (omega arith) ∙ fixed.5,
      );
      zero = λ j low high.
          get_or-append head history 0 j (rw size (omega arith))
          ∙ form-outside table_head_size (table_fields interval index) j
          (rw (le-ltb j 10 low) at (below_all 30 (λ k. ltb k 10 || outside (table_fields interval index) k) (table-gap interval index) j high));
      size_at = r.1.1.1.0;
      index_at = r.1.1.1.1.0;
      history_at = part-append-right head history table_head_size history_size size h;
      size = rw (length-append, size, h);
    }

pub table-bytes : (interval index : ℕ) (history : List ℕ) → Bytes history → Bytes (table_bytes interval index history)
unfolding table_bytes
table-bytes interval index history b =
    bytes-append (form table_head_size (table_fields interval index)) history (bytes-form table_head_size (table_fields interval index)) b

-- ---- replies

abbrev registers_places : List Field
registers_places = (2, 1, 0) ∷ (4, 1, 0) ∷ (6, 1, 0) ∷ (12, 1, 0) ∷ (13, 1, 0) ∷ []

-- "Sector Count (low) and LBA Low (high)", LBA Mid, "12 Status, 13 Error"; "every byte not named is 0"
pub record ReplyAt (r : Registers) (m : List ℕ) : Type 0 where
  pub count : get 1 m 2 ≡ r.value % 256
  pub low : get 1 m 4 ≡ r.value / 256
  pub mid : get 1 m 6 ≡ r.lba_mid
  pub status : get 1 m 12 ≡ r.status
  pub error : get 1 m 13 ≡ r.error
  pub zero : (i : ℕ) → i < 16 → outside registers_places i ≡ true → get_or m i 0 ≡ 0
  pub size : length m ≡ mailbox_size

-- the registers' values fit their bytes
pub record RegistersFit (r : Registers) : Type 0 where
  pub value : r.value < 256 ^ 2
  pub lba_mid : r.lba_mid < 256
  pub status : r.status < 256
  pub error : r.error < 256

-- a reply is the registers, the data, and zeros
reply-split : (r : Registers) (s : List ℕ)
    → reply_bytes r s ≡ registers_bytes r ++ (s ++ zeros (mailbox_size - length (registers_bytes r ++ s)))
unfolding reply_bytes padded
reply-split r s = append_assoc (registers_bytes r) s (zeros (mailbox_size - length (registers_bytes r ++ s)))

pub length-registers : (r : Registers) → length (registers_bytes r) ≡ registers_size
unfolding registers_bytes
length-registers r = length-form registers_size (registers_fields r)

pub reply-length : (r : Registers) (s : List ℕ) → length s ≤ data_size → length (reply_bytes r s) ≡ mailbox_size
unfolding reply_bytes
reply-length r s h = length-padded mailbox_size (registers_bytes r ++ s) (rw (length-append, length-registers r) (omega arith))

-- a register of a reply, whatever the data
reply-front : (r : Registers) (s : List ℕ) (at : ℕ) → at + 1 ≤ 16 → get 1 (reply_bytes r s) at ≡ get 1 (registers_bytes r) at
reply-front r s at b =
    ap (λ (m : List ℕ). get 1 m at) (reply-split r s)
    ∙ get-append-left 1 (registers_bytes r) (s ++ zeros (mailbox_size - length (registers_bytes r ++ s))) at (rw (length-registers r) b)

registers-read : (r : Registers) → RegistersFit r → Reads (registers_fields r) (registers_bytes r)
unfolding registers_bytes
registers-read r f =
    let fit : Fit (registers_fields r) = (omega arith, (omega (arith, f.value), (f.lba_mid, (f.status, (f.error, tt))))) in
    reads-form registers_size (registers_fields r) refl fit

pub reply-mid : (r : Registers) (s : List ℕ) → RegistersFit r → get 1 (reply_bytes r s) 6 ≡ r.lba_mid
reply-mid r s f = reply-front r s 6 (omega arith) ∙ (registers-read r f).1.1.0

pub reply-at : (r : Registers) (s : List ℕ) → RegistersFit r → length s ≤ data_size → ReplyAt r (reply_bytes r s)
unfolding registers_bytes
reply-at r s f h =
    let reads = registers-read r f in
    record {
      count = reply-front r s 2 (omega arith) ∙ reads.0;
      low = reply-front r s 4 (omega arith) ∙ reads.1.0;
      mid = reply-mid r s f;
      status = reply-front r s 12 (omega arith) ∙ reads.1.1.1.0;
      error = reply-front r s 13 (omega arith) ∙ reads.1.1.1.1.0;
      zero = λ i b o.
          ap (λ (m : List ℕ). get_or m i 0) (reply-split r s)
          ∙ get_or-append (registers_bytes r) (s ++ zeros (mailbox_size - length (registers_bytes r ++ s))) 0 i (rw (length-registers r) b)
          ∙ form-outside registers_size (registers_fields r) i o;
      size = reply-length r s h;
    }

pub reply-registers : (r : Registers) (s : List ℕ) → part (reply_bytes r s) 0 registers_size ≡ registers_bytes r
reply-registers r s =
    ap (λ (m : List ℕ). part m 0 registers_size) (reply-split r s)
    ∙ part-append-left (registers_bytes r) (s ++ zeros (mailbox_size - length (registers_bytes r ++ s))) registers_size (length-registers r)

-- the data returned follows the registers ..
pub reply-data : (r : Registers) (s : List ℕ) (n : ℕ) → length s ≡ n → part (reply_bytes r s) registers_size n ≡ s
reply-data r s n h =
    ap (λ (m : List ℕ). part m registers_size n) (reply-split r s)
    ∙ ap (take n) (drop_at (registers_bytes r) (s ++ zeros (mailbox_size - length (registers_bytes r ++ s))) registers_size (length-registers r))
    ∙ take_at s (zeros (mailbox_size - length (registers_bytes r ++ s))) n h

-- .. with "zeros behind" (W-202) ..
pub reply-behind : (r : Registers) (s : List ℕ) (i : ℕ) → registers_size + length s ≤ i → get_or (reply_bytes r s) i 0 ≡ 0
unfolding reply_bytes padded
reply-behind r s i h =
    let front = registers_bytes r ++ s in
    let behind = zeros (mailbox_size - length front) in
    let size : length front ≡ registers_size + length s = rw (length-append, length-registers r) in
    let place : i ≡ length front + (i - length front) = omega (arith, size) in
    ap (λ (j : ℕ). get_or (front ++ behind) j 0) place
    ∙ get_or-append-add front behind (i - length front) 0
    ∙ get_or-zeros (mailbox_size - length front) (i - length front)

-- .. and "zeros unless data is returned"
pub reply-no-data : (r : Registers) → part (reply_bytes r []) registers_size data_size ≡ zeros data_size
reply-no-data r =
    ap (λ (m : List ℕ). part m registers_size data_size) (reply-split r [])
    ∙ ap (λ (n : ℕ). part (registers_bytes r ++ zeros (mailbox_size - n)) registers_size data_size) (ap length (append-nil (registers_bytes r)) ∙ length-registers r)
    ∙ part-append-right (registers_bytes r) (zeros data_size) registers_size data_size (length-registers r) (length-zeros data_size)

pub reply-sized : (r : Registers) (s : List ℕ) → length s ≤ data_size → Bytes s → Sized mailbox_size (reply_bytes r s)
unfolding reply_bytes registers_bytes
reply-sized r s h b =
    record {
      size = reply-length r s h;
      bytes = bytes-padded mailbox_size (registers_bytes r ++ s) (bytes-append (registers_bytes r) s (bytes-form registers_size (registers_fields r)) b);
    }

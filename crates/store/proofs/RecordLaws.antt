-- The record of valid contents decodes to those contents.
use mathlib.Core.Path.{◌≡◌, refl, sym, ap, ◌∙◌}
use mathlib.Core.Bool.{Bool}
use Prim.Native.Nat.{ℕ, ◌+◌, ◌^◌, ◌≤◌, ◌<◌}
use native.Mathlib.Omega.{arith}
use mathlib.Core.List.{List, [], ◌∷◌, ◌++◌}
use lib.ListN.{length, get_or, length-append}
use Rattle.wire.specs.Choice.{bit}
use Rattle.wire.specs.Numbers.{get}
use Rattle.wire.specs.Parts.{part}
use Rattle.wire.specs.Layout.{Field, form, Fit, Reads}
use Rattle.wire.specs.Bytes.{Bytes}
use Rattle.wire.proofs.ChoiceLaws.{bit-small}
use Rattle.wire.proofs.PartsLaws.{part-part, get-part, part-append-right}
use Rattle.wire.proofs.LayoutLaws.{length-form, reads-form, reads-append, reads-front, fit_append}
use Rattle.wire.proofs.BytesLaws.{bytes-append, bytes-form}
use Rattle.model.specs.Sizes.{sector_size, native_limit, history_size}
use Rattle.model.specs.Device.{Fill, idle, running, Transfer, none, table, fill_data, read_long, write_long, Device, next_sector}
use Rattle.model.specs.Temperature.{table_interval_place, table_index_place, table_head_size, table_bytes, table_fields}
use Rattle.model.specs.Valid.{FillValid, TransferValid, Valid}
use Rattle.model.proofs.FormatLaws.{TableAt, table_at, table-bytes}
use Rattle.model.proofs.EntryLaws.{flag-back, length-table}
use Rattle.model.proofs.ValidRequest.{pending-for}
use Rattle.store.specs.Areas.{record_size, head_size}
use Rattle.store.specs.Record.{Stage, empty, held, answered, Contents, stage_number, fill_kind, fill_first, fill_end, transfer_kind, transfer_first, transfer_end, size_fields, command_fields, settings_fields, thermal_fields, fill_fields, slot_at, slot_fields, slot_of, slots_fields, head_fields, encode, stage_of, fill_of, transfer_of, flag_of, stage_at, transfer_at, decode}

-- The values fit their places: four stages, four transfers, a full history, and every number within its width.
pub record ContentsFit (c : Contents) : Type 0 where
  pub stages : length c.stages ≡ 4
  pub transfers : length c.device.command.pending ≡ 4
  pub history : length c.device.thermal.history ≡ history_size
  pub readings : Bytes c.device.thermal.history
  pub head : Fit (head_fields c)
  pub interval : c.device.settings.log_interval.state < 256 ^ 2
  pub index : c.device.thermal.index < 256 ^ 2

-- The device meets document 01's clauses, and there are four stages.
pub record ContentsValid (c : Contents) : Type 0 where
  pub device : Valid c.device
  pub four : length c.stages ≡ 4

-- ---- every number fits its place

stage-fits : (s : Stage) → stage_number s < 256
stage-fits empty = omega arith
stage-fits held = omega arith
stage-fits answered = omega arith

slot-fits : (visible at : ℕ) (s : Stage) (t : Transfer) → visible ≤ native_limit → TransferValid visible t → Fit (slot_fields at s t)
slot-fits visible at s none h v = (stage-fits s, (omega arith, (omega arith, (omega arith, tt))))
slot-fits visible at s table h v = (stage-fits s, (omega arith, (omega arith, (omega arith, tt))))
slot-fits visible at s (fill_data first end) h v = (stage-fits s, (omega arith, (omega (arith, v.0, v.1), (omega (arith, v.1), tt))))
slot-fits visible at s (read_long lba) h v = (stage-fits s, (omega arith, (omega arith, (omega arith, tt))))
slot-fits visible at s (write_long lba) h v = (stage-fits s, (omega arith, (omega arith, (omega arith, tt))))

fill-fits : (visible : ℕ) (f : Fill) → visible ≤ native_limit → FillValid visible f → (fill_kind f < 256) × Fit (fill_fields f)
fill-fits visible idle h v = (omega arith, (omega arith, (omega arith, (omega arith, tt))))
fill-fits visible (running first next end) h v =
    (omega arith, (omega (arith, v.0, v.1, v.2), (omega (arith, v.1, v.2), (omega (arith, v.2), tt))))

-- slot i's fields, and the groups of the first half, from each group on
abbrev pub slot : Contents → ℕ → List Field
slot c i = slot_of c.stages c.device.command.pending i

abbrev pub slots : Contents → List Field
slots c = slots_fields c.stages c.device.command.pending

abbrev from_fill : Contents → List Field
from_fill c = fill_fields c.device.command.fill ++ slots c

abbrev from_thermal : Contents → List Field
from_thermal c = thermal_fields c.device.thermal ++ from_fill c

abbrev from_settings : Contents → List Field
from_settings c = settings_fields c.device.settings ++ from_thermal c

abbrev from_command : Contents → List Field
from_command c = command_fields c.device.command ++ from_settings c

module _ (c : Contents) (v : Valid c.device) where
  abbrev d : Device
  d = c.device

  limit : d.visible ≤ native_limit
  limit = omega (arith, v.sizes)

  slots-fit : Fit (slots c)
  slots-fit =
      let one : (i : ℕ) → Fit (slot c i) =
      λ i. slot-fits d.visible (slot_at i) (get_or c.stages i empty) (get_or d.command.pending i none) limit
      (pending-for d.visible d.command.pending i v.command_valid.pending_valid) in
      fit_append (slot c 0) (slot c 1 ++ (slot c 2 ++ slot c 3)) (one 0)
      (fit_append (slot c 1) (slot c 2 ++ slot c 3) (one 1) (fit_append (slot c 2) (slot c 3) (one 2) (one 3)))

  head-fits : Fit (head_fields c)
  head-fits =
      let w = v.command_valid.words in
      let s = v.settings_valid in
      let t = v.thermal_valid in
      let f = fill-fits d.visible d.command.fill limit v.command_valid.fill_valid in
      let b : (x : Bool) → bit x < 256 = λ x. omega (arith, bit-small x) in
      fit_append (size_fields d) (from_command c) (omega (arith, v.sizes), (omega (arith, v.sizes), (b d.locked, (b d.initialized, tt))))
      (fit_append (command_fields d.command) (from_settings c) (f.0, (w.0, (w.1, (w.2, tt))))
      (fit_append (settings_fields d.settings) (from_thermal c) (
        s.words.0,
        (
          s.words.1,
          (
            omega (arith, s.cache_valid),
            (
              omega (arith, s.reordering_valid),
              (b d.settings.write_cache.persistent, (b d.settings.reordering.persistent, (b d.settings.log_interval.persistent, tt))),
            ),
          ),
        ),
      )
      (fit_append (thermal_fields d.thermal) (from_fill c)
      (omega (arith, t.minutes_valid, s.interval_valid), (t.bytes.0, (t.bytes.1, (t.bytes.2, tt))))
      (fit_append (fill_fields d.command.fill) (slots c) f.1 slots-fit))))

pub valid-fits : (c : Contents) → ContentsValid c → ContentsFit c
valid-fits c v =
    let t = v.device.thermal_valid in
    record {
      stages = v.four;
      transfers = v.device.command_valid.places;
      history = t.whole;
      readings = t.readings;
      head = head-fits c v.device;
      interval = omega (arith, v.device.settings_valid.interval_valid);
      index = omega (arith, t.index_valid);
    }

-- ---- the record's bytes

-- ---- a record of contents whose history is full

module _ (c : Contents) (whole : length c.device.thermal.history ≡ history_size) where
  abbrev interval : ℕ
  interval = c.device.settings.log_interval.state

  abbrev index : ℕ
  index = c.device.thermal.index

  abbrev history : List ℕ
  history = c.device.thermal.history

  pub encoded-size : length (encode c) ≡ record_size
  unfolding encode
  encoded-size = rw (length-append, length-form head_size (head_fields c), length-table interval index history whole)

  -- the second half is the temperature table ..
  pub encoded-table : part (encode c) head_size sector_size ≡ table_bytes interval index history
  unfolding encode
  encoded-table =
      part-append-right (form head_size (head_fields c)) (table_bytes interval index history) head_size sector_size (length-form head_size (head_fields c))
      (length-table interval index history whole)

  -- .. and the history is at its end
  pub encoded-history : part (encode c) (head_size + table_head_size) history_size ≡ history
  unfolding table_bytes
  encoded-history =
      sym (part-part (encode c) head_size sector_size table_head_size history_size (omega arith))
      ∙ ap (λ (l : List ℕ). part l table_head_size history_size) encoded-table
      ∙ part-append-right (form table_head_size (table_fields interval index)) history table_head_size history_size (length-form table_head_size (table_fields interval index)) whole

module _ (c : Contents) (v : ContentsFit c) where
  abbrev pub e : Device
  e = c.device

  pub table-says : TableAt e.settings.log_interval.state e.thermal.index e.thermal.history
      (table_bytes e.settings.log_interval.state e.thermal.index e.thermal.history)
  table-says =
      table_at e.settings.log_interval.state e.thermal.index e.thermal.history v.interval v.index v.history

  pub length-encode : length (encode c) ≡ record_size
  length-encode = encoded-size c v.history

  pub bytes-encode : Bytes (encode c)
  unfolding encode
  bytes-encode =
      bytes-append (form head_size (head_fields c)) _ (bytes-form head_size (head_fields c))
      (table-bytes e.settings.log_interval.state e.thermal.index e.thermal.history v.readings)

  -- every field of the first half is read back
  head-reads : Reads (head_fields c) (encode c)
  unfolding encode
  head-reads =
      reads-front (head_fields c) 0 head_size (form head_size (head_fields c)) _ refl (rw (length-form head_size (head_fields c)) (omega arith))
      (reads-form head_size (head_fields c) refl v.head)

  -- .. group by group
  abbrev pub Says : List Field → Type 0
  Says fs = Reads fs (encode c)

  pub group_reads : Says (size_fields e) × Says (command_fields e.command) × Says (settings_fields e.settings) × Says (thermal_fields e.thermal) × Says (fill_fields e.command.fill) × Says (slots c)
  group_reads =
      let a = reads-append (size_fields e) (from_command c) (encode c) head-reads in
      let b = reads-append (command_fields e.command) (from_settings c) (encode c) a.1 in
      let s = reads-append (settings_fields e.settings) (from_thermal c) (encode c) b.1 in
      let f = reads-append (thermal_fields e.thermal) (from_fill c) (encode c) s.1 in
      let g = reads-append (fill_fields e.command.fill) (slots c) (encode c) f.1 in
      (a.0, b.0, s.0, f.0, g.0, g.1)

  pub slot-reads : Says (slot c 0) × Says (slot c 1) × Says (slot c 2) × Says (slot c 3)
  slot-reads =
      let a = reads-append (slot c 0) (slot c 1 ++ (slot c 2 ++ slot c 3)) (encode c) group_reads.5 in
      let b = reads-append (slot c 1) (slot c 2 ++ slot c 3) (encode c) a.1 in
      let s = reads-append (slot c 2) (slot c 3) (encode c) b.1 in
      (a.0, b.0, s.0, s.1)

  -- the second half is the table
  pub table-part : part (encode c) head_size sector_size ≡ table_bytes e.settings.log_interval.state e.thermal.index e.thermal.history
  table-part = encoded-table c v.history

  interval-read : get 2 (encode c) (head_size + table_interval_place) ≡ e.settings.log_interval.state
  interval-read =
      sym (get-part 2 (encode c) head_size sector_size table_interval_place (omega arith))
      ∙ ap (λ (l : List ℕ). get 2 l table_interval_place) table-part
      ∙ table-says.interval_at

  index_read : get 2 (encode c) (head_size + table_index_place) ≡ e.thermal.index
  index_read =
      sym (get-part 2 (encode c) head_size sector_size table_index_place (omega arith))
      ∙ ap (λ (l : List ℕ). get 2 l table_index_place) table-part
      ∙ table-says.index_at

  history-read : part (encode c) (head_size + table_head_size) history_size ≡ e.thermal.history
  history-read = encoded-history c v.history

-- ---- cases are read back

stage-back : (s : Stage) → stage_of (stage_number s) ≡ s
stage-back empty = refl
stage-back held = refl
stage-back answered = refl

fill-back : (f : Fill) → fill_of (fill_kind f) (fill_first f) (next_sector f) (fill_end f) ≡ f
fill-back idle = refl
fill-back (running first next end) = refl

transfer-back : (t : Transfer) → transfer_of (transfer_kind t) (transfer_first t) (transfer_end t) ≡ t
transfer-back none = refl
transfer-back table = refl
transfer-back (fill_data first end) = refl
transfer-back (read_long lba) = refl
transfer-back (write_long lba) = refl

-- a list of length four is its four elements
pub four-back : {A : Type 0} (l : List A) (x : A) → length l ≡ 4 → get_or l 0 x ∷ get_or l 1 x ∷ get_or l 2 x ∷ get_or l 3 x ∷ [] ≡ l
four-back [] x e = absurd (omega arith)
four-back (a ∷ []) x e = absurd (omega arith)
four-back (a ∷ b ∷ []) x e = absurd (omega arith)
four-back (a ∷ b ∷ c ∷ []) x e = absurd (omega arith)
four-back (a ∷ b ∷ c ∷ d ∷ []) x e = refl
four-back (a ∷ b ∷ c ∷ d ∷ e ∷ l) x h = absurd (omega arith)

module _ (c : Contents) (v : ContentsFit c) where
  abbrev r : List ℕ
  r = encode c

  abbrev g : Device
  g = c.device

  slot-back : (i : ℕ) → Reads (slot_of c.stages g.command.pending i) r
      → (stage_at r i ≡ get_or c.stages i empty) × (transfer_at r i ≡ get_or g.command.pending i none)
  slot-back i s = (
    ap stage_of s.0 ∙ stage-back (get_or c.stages i empty),
    (λ j. transfer_of (s.1.0 j) (s.1.1.0 j) (s.1.1.1.0 j)) ∙ transfer-back (get_or g.command.pending i none),
  )

  stages-back : stage_at r 0 ∷ stage_at r 1 ∷ stage_at r 2 ∷ stage_at r 3 ∷ [] ≡ c.stages
  stages-back =
      let s = slot-reads c v in
      (λ j. (slot-back 0 s.0).0 j ∷ (slot-back 1 s.1).0 j ∷ (slot-back 2 s.2).0 j ∷ (slot-back 3 s.3).0 j ∷ [])
      ∙ four-back c.stages empty v.stages

  pending-back : transfer_at r 0 ∷ transfer_at r 1 ∷ transfer_at r 2 ∷ transfer_at r 3 ∷ [] ≡ g.command.pending
  pending-back =
      let s = slot-reads c v in
      (λ j. (slot-back 0 s.0).1 j ∷ (slot-back 1 s.1).1 j ∷ (slot-back 2 s.2).1 j ∷ (slot-back 3 s.3).1 j ∷ [])
      ∙ four-back g.command.pending none v.transfers

  -- THE LAW of the record: what is encoded is decoded to the same contents.
  pub decode-encode : decode (encode c) ≡ c
  unfolding decode
  decode-encode =
      let says = group_reads c v in
      let sizes = says.0 in
      let command = says.1 in
      let settings = says.2 in
      let thermal = says.3 in
      let fill = says.4 in
      let fill_is : fill_of (get 1 r 18) (get 8 r 48) (get 8 r 56) (get 8 r 64) ≡ g.command.fill =
      (λ j. fill_of (command.0 j) (fill.0 j) (fill.1.0 j) (fill.1.1.0 j)) ∙ fill-back g.command.fill in
      let locked_is : flag_of (get 1 r 16) ≡ g.locked = ap flag_of sizes.1.1.0 ∙ flag-back g.locked in
      let initialized_is : flag_of (get 1 r 17) ≡ g.initialized = ap flag_of sizes.1.1.1.0 ∙ flag-back g.initialized in
      let cache_is : flag_of (get 1 r 34) ≡ g.settings.write_cache.persistent = ap flag_of settings.1.1.1.1.0 ∙ flag-back g.settings.write_cache.persistent in
      let reordering_is : flag_of (get 1 r 35) ≡ g.settings.reordering.persistent = ap flag_of settings.1.1.1.1.1.0 ∙ flag-back g.settings.reordering.persistent in
      let interval_is : flag_of (get 1 r 36) ≡ g.settings.log_interval.persistent = ap flag_of settings.1.1.1.1.1.1.0 ∙ flag-back g.settings.log_interval.persistent in
      λ j.
      record {
        device =
            record {
              native = sizes.0 j;
              visible = sizes.1.0 j;
              locked = locked_is j;
              initialized = initialized_is j;
              command =
                  record { code = command.1.0 j; action = command.1.1.0 j; function = command.1.1.1.0 j; fill = fill_is j; pending = pending-back j };
              settings =
                  record {
                    read_timer = settings.0 j;
                    write_timer = settings.1.0 j;
                    write_cache = record { state = settings.1.1.0 j; persistent = cache_is j };
                    reordering = record { state = settings.1.1.1.0 j; persistent = reordering_is j };
                    log_interval = record { state = interval-read c v j; persistent = interval_is j };
                  };
              thermal =
                  record {
                    current = thermal.1.0 j;
                    cycle_maximum = thermal.1.1.0 j;
                    life_maximum = thermal.1.1.1.0 j;
                    history = history-read c v j;
                    index = index_read c v j;
                    minutes = thermal.0 j;
                  };
            };
        stages = stages-back j;
      }

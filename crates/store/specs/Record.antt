-- The device record: the device and the four slots' stages as 1,024 bytes, and what such bytes decode to.
use Rattle.std.specs.Prelude.{Bool, ℕ, ◌+◌, ◌*◌, List, [], ◌∷◌, ◌++◌, get_or, eqb, if◌then◌else◌}
use Rattle.wire.specs.Choice.{bit}
use Rattle.wire.specs.Numbers.{get}
use Rattle.wire.specs.Parts.{part}
use Rattle.wire.specs.Layout.{Field, form}
use Rattle.model.specs.Sizes.{history_size}
use Rattle.model.specs.Device.{Fill, idle, running, Transfer, none, table, fill_data, read_long, write_long, Command, Settings, Thermal, Device, next_sector}
use Rattle.model.specs.Temperature.{table_interval_place, table_index_place, table_head_size, table_bytes}
use Rattle.store.specs.Areas.{head_size}
use Rattle.store.specs.Areas.{Record}

-- A slot is empty, held or answered.
pub data Stage : Type 0 where
  empty : Stage
  held : Stage
  answered : Stage

-- what the record holds: the device, and a stage for each slot
pub record Contents : Type 0 where
  pub device : Device
  pub stages : List Stage

-- ---- cases as numbers; a number that the present case does not use is 0

abbrev pub stage_number : Stage → ℕ
stage_number empty = 0
stage_number held = 1
stage_number answered = 2

-- whether a stage is the one that is needed
abbrev pub is_stage : Stage → Stage → Bool
is_stage needed s = eqb (stage_number s) (stage_number needed)

abbrev pub fill_kind : Fill → ℕ
fill_kind idle = 0
fill_kind (running first next end) = 1

abbrev pub fill_first : Fill → ℕ
fill_first idle = 0
fill_first (running first next end) = first

abbrev pub fill_end : Fill → ℕ
fill_end idle = 0
fill_end (running first next end) = end

abbrev pub transfer_kind : Transfer → ℕ
transfer_kind none = 0
transfer_kind table = 1
transfer_kind (fill_data first end) = 2
transfer_kind (read_long lba) = 3
transfer_kind (write_long lba) = 4

-- its first sector, or its one sector
abbrev pub transfer_first : Transfer → ℕ
transfer_first none = 0
transfer_first table = 0
transfer_first (fill_data first end) = first
transfer_first (read_long lba) = lba
transfer_first (write_long lba) = lba

abbrev pub transfer_end : Transfer → ℕ
transfer_end none = 0
transfer_end table = 0
transfer_end (fill_data first end) = end
transfer_end (read_long lba) = 0
transfer_end (write_long lba) = 0

-- ---- the layout of the first half, group by group

abbrev pub size_fields : Device → List Field
size_fields d = (0, 8, d.native) ∷ (8, 8, d.visible) ∷ (16, 1, bit d.locked) ∷ (17, 1, bit d.initialized) ∷ []

abbrev pub command_fields : Command → List Field
command_fields c = (18, 1, fill_kind c.fill) ∷ (20, 2, c.code) ∷ (22, 2, c.action) ∷ (24, 2, c.function) ∷ []

abbrev pub settings_fields : Settings → List Field
settings_fields s =
    (26, 2, s.read_timer)
    ∷ (28, 2, s.write_timer)
    ∷ (30, 2, s.write_cache.state)
    ∷ (32, 2, s.reordering.state)
    ∷ (34, 1, bit s.write_cache.persistent)
    ∷ (35, 1, bit s.reordering.persistent)
    ∷ (36, 1, bit s.log_interval.persistent)
    ∷ []

abbrev pub thermal_fields : Thermal → List Field
thermal_fields t = (38, 2, t.minutes) ∷ (40, 1, t.current) ∷ (41, 1, t.cycle_maximum) ∷ (42, 1, t.life_maximum) ∷ []

abbrev pub fill_fields : Fill → List Field
fill_fields f = (48, 8, fill_first f) ∷ (56, 8, next_sector f) ∷ (64, 8, fill_end f) ∷ []

-- slot i: its stage, the kind of its port's pending transfer, and that transfer's first sector and end
abbrev pub slot_at : ℕ → ℕ
slot_at i = 72 + 24 * i

abbrev pub slot_fields : ℕ → Stage → Transfer → List Field
slot_fields at s t =
    (at, 1, stage_number s) ∷ (at + 1, 1, transfer_kind t) ∷ (at + 8, 8, transfer_first t) ∷ (at + 16, 8, transfer_end t) ∷ []

abbrev pub slot_of : List Stage → List Transfer → ℕ → List Field
slot_of ss ts i = slot_fields (slot_at i) (get_or ss i empty) (get_or ts i none)

abbrev pub slots_fields : List Stage → List Transfer → List Field
slots_fields ss ts = slot_of ss ts 0 ++ (slot_of ss ts 1 ++ (slot_of ss ts 2 ++ slot_of ss ts 3))

abbrev pub head_fields : Contents → List Field
head_fields c =
    let d = c.device in
    size_fields d
    ++ (command_fields d.command
    ++ (settings_fields d.settings
    ++ (thermal_fields d.thermal
    ++ (fill_fields d.command.fill
    ++ slots_fields c.stages d.command.pending))))

-- the two numbers of the second half that change: the temperature table's interval and index
abbrev pub table_numbers : ℕ → ℕ → List Field
table_numbers interval index = (head_size + table_interval_place, 2, interval) ∷ (head_size + table_index_place, 2, index) ∷ []

-- The second half is the temperature table: its interval is feature 3's state, its index and history are the device's.
unfoldable pub encode : Contents → Record
encode c =
    let d = c.device in
    form head_size (head_fields c) ++ table_bytes d.settings.log_interval.state d.thermal.index d.thermal.history

-- ---- what the bytes decode to

abbrev pub stage_of : ℕ → Stage
stage_of n = if eqb n 1 then held else if eqb n 2 then answered else empty

abbrev pub fill_of : ℕ → ℕ → ℕ → ℕ → Fill
fill_of kind first next end = if eqb kind 1 then running first next end else idle

abbrev pub transfer_of : ℕ → ℕ → ℕ → Transfer
transfer_of kind first end =
    if eqb kind 1 then table
    else if eqb kind 2 then fill_data first end
    else if eqb kind 3 then read_long first
    else if eqb kind 4 then write_long first
    else none

abbrev pub flag_of : ℕ → Bool
flag_of n = eqb n 1

abbrev pub stage_at : Record → ℕ → Stage
stage_at r i = stage_of (get 1 r (slot_at i))

abbrev pub transfer_at : Record → ℕ → Transfer
transfer_at r i = transfer_of (get 1 r (slot_at i + 1)) (get 8 r (slot_at i + 8)) (get 8 r (slot_at i + 16))

unfoldable pub decode : Record → Contents
decode r =
    record {
      device =
          record {
            native = get 8 r 0;
            visible = get 8 r 8;
            locked = flag_of (get 1 r 16);
            initialized = flag_of (get 1 r 17);
            command =
                record {
                  code = get 2 r 20;
                  action = get 2 r 22;
                  function = get 2 r 24;
                  fill = fill_of (get 1 r 18) (get 8 r 48) (get 8 r 56) (get 8 r 64);
                  pending = transfer_at r 0 ∷ transfer_at r 1 ∷ transfer_at r 2 ∷ transfer_at r 3 ∷ [];
                };
            settings =
                record {
                  read_timer = get 2 r 26;
                  write_timer = get 2 r 28;
                  write_cache = record { state = get 2 r 30; persistent = flag_of (get 1 r 34) };
                  reordering = record { state = get 2 r 32; persistent = flag_of (get 1 r 35) };
                  log_interval = record { state = get 2 r (head_size + table_interval_place); persistent = flag_of (get 1 r 36) };
                };
            thermal =
                record {
                  current = get 1 r 40;
                  cycle_maximum = get 1 r 41;
                  life_maximum = get 1 r 42;
                  history = part r (head_size + table_head_size) history_size;
                  index = get 2 r (head_size + table_index_place);
                  minutes = get 2 r 38;
                };
          };
      stages = stage_at r 0 ∷ stage_at r 1 ∷ stage_at r 2 ∷ stage_at r 3 ∷ [];
    }

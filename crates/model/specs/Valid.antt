-- The ranges that document 01 gives the machine's values, and the widths of its formats.
use Rattle.std.specs.Prelude.{◌≡◌, ◌⊎◌, ℕ, ◌+◌, ◌*◌, ◌^◌, ◌≤◌, ◌<◌, List, [], ◌∷◌, length}
use Rattle.wire.specs.Bytes.{Bytes}
use Rattle.model.specs.Sizes.{sector_size, check_size, native_limit, port_count, mailbox_size, history_size}
use Rattle.model.specs.Device.{Fill, idle, running, Transfer, none, table, fill_data, read_long, write_long, Feature, Command, Settings, Thermal, Device}
use Rattle.model.specs.Disk.{Disk}
use Rattle.model.specs.Key.{highest_state}
use Rattle.model.specs.Fill.{running_code}
use Rattle.model.specs.Machine.{Port, empty, request, reply, Machine}
use Rattle.model.specs.Step.{OwnerStep, lock, unlock, set_visible, sample, Step, take, serve, give, work, owner, repair, save, power_on}

-- "if a fill runs, first ≤ next < end ≤ V"
abbrev pub FillValid : ℕ → Fill → Type 0
FillValid visible idle = Unit {0}
FillValid visible (running first next end) = (first ≤ next) × (next < end) × (end ≤ visible)

-- "an owed fill has first < end ≤ V"; W-202: "an owed Long transfer has its LBA below V"
abbrev pub TransferValid : ℕ → Transfer → Type 0
TransferValid visible none = Unit {0}
TransferValid visible table = Unit {0}
TransferValid visible (fill_data first end) = (first < end) × (end ≤ visible)
TransferValid visible (read_long lba) = lba < visible
TransferValid visible (write_long lba) = lba < visible

abbrev pub PendingValid : ℕ → List Transfer → Type 0
PendingValid visible [] = Unit {0}
PendingValid visible (t ∷ ts) = TransferValid visible t × PendingValid visible ts

-- how many transfers are pending
abbrev pub pending_count : List Transfer → ℕ
pending_count [] = 0
pending_count (none ∷ ts) = pending_count ts
pending_count (table ∷ ts) = 1 + pending_count ts
pending_count (fill_data first end ∷ ts) = 1 + pending_count ts
pending_count (read_long lba ∷ ts) = 1 + pending_count ts
pending_count (write_long lba ∷ ts) = 1 + pending_count ts

-- "a fill and an owed transfer never coexist", and at most one transfer is pending
abbrev pub pending_limit : Fill → ℕ
pending_limit idle = 1
pending_limit (running first next end) = 0

-- "the stored code is FFFFh exactly while a fill runs"
abbrev pub CodeValid : Fill → ℕ → Type 0
CodeValid idle code = code ≡ running_code → ⊥
CodeValid (running first next end) code = code ≡ running_code

pub record CommandValid (visible : ℕ) (c : Command) : Type 0 where
  pub code_valid : CodeValid c.fill c.code
  pub fill_valid : FillValid visible c.fill
  pub pending_valid : PendingValid visible c.pending
  pub only_one : pending_count c.pending ≤ pending_limit c.fill
  pub places : length c.pending ≡ port_count
  pub words : (c.code < 256 ^ 2) × (c.action < 256 ^ 2) × (c.function < 256 ^ 2)

-- "each timer is 0 or at least 10"
abbrev pub TimerValid : ℕ → Type 0
TimerValid n = (n ≡ 0) ⊎ (10 ≤ n)

-- "Feature states: 1 .. 1 to 3; 2 .. 1 or 2; 3 .. 1 to 65,535"
abbrev pub StateValid : ℕ → Feature → Type 0
StateValid number f = (1 ≤ f.state) × (f.state ≤ highest_state number)

pub record SettingsValid (s : Settings) : Type 0 where
  pub read_valid : TimerValid s.read_timer
  pub write_valid : TimerValid s.write_timer
  pub cache_valid : StateValid 1 s.write_cache
  pub reordering_valid : StateValid 2 s.reordering
  pub interval_valid : StateValid 3 s.log_interval
  pub words : (s.read_timer < 256 ^ 2) × (s.write_timer < 256 ^ 2)

-- "minutes counted are below it, the history index is at most 477"
pub record ThermalValid (interval : ℕ) (t : Thermal) : Type 0 where
  pub minutes_valid : t.minutes < interval
  pub index_valid : t.index < history_size
  pub whole : length t.history ≡ history_size
  pub readings : Bytes t.history
  pub bytes : (t.current < 256) × (t.cycle_maximum < 256) × (t.life_maximum < 256)

pub record Valid (d : Device) : Type 0 where
  -- "1 ≤ V ≤ N ≤ 65,536"; W-207: "Sound records .. take the new limit"
  pub sizes : (1 ≤ d.visible) × (d.visible ≤ d.native) × (d.native ≤ native_limit)
  pub command_valid : CommandValid d.visible d.command
  pub settings_valid : SettingsValid d.settings
  pub thermal_valid : ThermalValid d.settings.log_interval.state d.thermal

-- ---- the machine

pub record Sized (n : ℕ) (l : List ℕ) : Type 0 where
  pub size : length l ≡ n
  pub bytes : Bytes l

-- a disk of N sectors, with their check bytes
pub record DiskValid (native : ℕ) (disk : Disk) : Type 0 where
  pub sectors_valid : Sized (sector_size * native) disk.sectors
  pub check_area_valid : Sized (check_size * native) disk.check_area

-- a fill has its sector, and without a fill there is none
abbrev pub SectorValid : Fill → List ℕ → Type 0
SectorValid idle sector = sector ≡ []
SectorValid (running first next end) sector = Sized sector_size sector

abbrev pub PortValid : Port → Type 0
PortValid empty = Unit {0}
PortValid (request m) = Sized mailbox_size m
PortValid (reply m) = Sized mailbox_size m

pub record MachineValid (M : Machine) : Type 0 where
  pub device_valid : Valid M.device
  pub sector_valid : SectorValid M.device.command.fill M.sector
  pub ports_valid : (p : ℕ) → PortValid (M.ports p)
  pub disk_valid : DiskValid M.device.native M.disk

abbrev pub OwnerFed : OwnerStep → Type 0
OwnerFed lock = Unit {0}
OwnerFed unlock = Unit {0}
OwnerFed (set_visible v) = Unit {0}
OwnerFed (sample reading) = reading < 256

-- What a step is fed must be bytes: the mailbox of a take, a reading, the image of a power-on. The machine keeps nothing of a give's mailbox
-- or a save's image, so nothing is required of them; ports, counts, V, LBAs and used lengths are any numbers.
abbrev pub Fed : Step → Type 0
Fed (take p m) = Bytes m
Fed (serve s) = Unit {0}
Fed (give p m) = Unit {0}
Fed (work n) = Unit {0}
Fed (owner x) = OwnerFed x
Fed (repair lba) = Unit {0}
Fed (save image used) = Unit {0}
Fed (power_on image used) = Bytes image

-- every step of a list
abbrev pub Each : (Step → Type 0) → List Step → Type 0
Each P [] = Unit {0}
Each P (x ∷ xs) = P x × Each P xs

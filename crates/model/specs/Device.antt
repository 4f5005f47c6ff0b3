-- The device: what the model machine holds in addition to the disk and the ports.
use Rattle.std.specs.Prelude.{Bool, ℕ, List}

-- A fill: none, or one that runs, with its first sector, the next to write, and the end (the first sector after it).
-- 01 lists the sector to write among a fill's parts: here the machine holds it, outside the device (Machine.antt).
pub data Fill : Type 0 where
  idle : Fill
  running : ℕ → ℕ → ℕ → Fill

-- the next sector that a fill writes, 0 with no fill
abbrev pub next_sector : Fill → ℕ
next_sector idle = 0
next_sector (running first next end) = next

-- A pending transfer (01: owed): a key announced that data moves at an E1h request.
-- A fill's sector comes from the host, with the fill's first sector and its end; the temperature table goes to the host. W-202: the sector at an
-- LBA goes to the host with its check bytes (Read Long), or comes from it with them (Write Long).
pub data Transfer : Type 0 where
  none : Transfer
  table : Transfer
  fill_data : ℕ → ℕ → Transfer
  read_long : ℕ → Transfer
  write_long : ℕ → Transfer

-- The last SCT command: its extended status code (01: stored code), action and function, and what it left to do.
-- pending has a place for each port; in the base at most one is used.
pub record Command : Type 0 where
  pub code : ℕ
  pub action : ℕ
  pub function : ℕ
  pub fill : Fill
  pub pending : List Transfer

-- A feature's state, and whether it is kept over power (01: its mark).
pub record Feature : Type 0 where
  pub state : ℕ
  pub persistent : Bool

-- Error recovery timers, in 100 ms, and the features: "1 (write cache) ..; 2 (reordering) ..; 3 (log interval)".
pub record Settings : Type 0 where
  pub read_timer : ℕ
  pub write_timer : ℕ
  pub write_cache : Feature
  pub reordering : Feature
  pub log_interval : Feature

-- Temperatures now, the highest of this power cycle and of the device's life; the history, the index of its
-- newest reading, and the minutes counted towards the next one.
pub record Thermal : Type 0 where
  pub current : ℕ
  pub cycle_maximum : ℕ
  pub life_maximum : ℕ
  pub history : List ℕ
  pub index : ℕ
  pub minutes : ℕ

-- native and visible are N and V; initialized is the Segment Initialized flag.
pub record Device : Type 0 where
  pub native : ℕ
  pub visible : ℕ
  pub locked : Bool
  pub initialized : Bool
  pub command : Command
  pub settings : Settings
  pub thermal : Thermal

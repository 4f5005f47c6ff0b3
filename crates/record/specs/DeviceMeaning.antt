-- What the structs mean: the model's device, field by field, and the record's contents. The history comes from the record's bytes.
use Rattle.std.specs.Prelude.{Bool, List, map, ℕ, ◌+◌, if◌then◌else◌}
use Rattle.wire.specs.Parts.{part}
use Rattle.model.specs.Sizes.{history_size}
use Rattle.model.specs.Device.{Fill, idle, running, Transfer, none, table, fill_data, read_long, write_long, Feature, Command, Settings, Thermal, Device}
use Rattle.model.specs.Temperature.{table_head_size, empty_history}
use Rattle.model.specs.Registers.{Direction, read, write}
use Rattle.model.specs.Key.{FeatureName, write_cache, reordering, log_interval}
use Rattle.store.specs.Areas.{head_size}
use Rattle.store.specs.Record.{Stage, empty, held, answered, Contents}
use Rattle.record.specs.declared.device as code
use Rattle.record.specs.declared.device.Stage.TheVariants.{Empty, Held, Answered}
use Rattle.record.specs.declared.device.Transfer.TheVariants.{None, Table, FillData, ReadLong, WriteLong}
use Rattle.record.specs.declared.device.Fill.TheVariants.{Idle, Running}
use Rattle.record.specs.declared.names as names
use Rattle.record.specs.declared.names.Direction.TheVariants.{Read, Write}
use Rattle.record.specs.declared.names.FeatureName.TheVariants.{WriteCache, Reordering, LogInterval}

abbrev pub as_stage : code.Stage.Stage → Stage
as_stage Empty = empty
as_stage Held = held
as_stage Answered = answered

abbrev pub as_transfer : code.Transfer.Transfer → Transfer
as_transfer None = none
as_transfer Table = table
as_transfer (FillData first end) = fill_data first end
as_transfer (ReadLong lba) = read_long lba
as_transfer (WriteLong lba) = write_long lba

abbrev pub as_fill : code.Fill.Fill → Fill
as_fill Idle = idle
as_fill (Running first next end) = running first next end

abbrev pub as_feature : code.Feature.Feature → Feature
as_feature f = record { state = f.state; persistent = f.persistent }

abbrev pub as_settings : code.Settings.Settings → Settings
as_settings s =
    record {
      read_timer = s.read_timer;
      write_timer = s.write_timer;
      write_cache = as_feature s.write_cache;
      reordering = as_feature s.reordering;
      log_interval = as_feature s.log_interval;
    }

abbrev pub as_thermal : code.Thermal.Thermal → List ℕ → Thermal
as_thermal t history =
    record {
      current = t.current;
      cycle_maximum = t.cycle_maximum;
      life_maximum = t.life_maximum;
      history = history;
      index = t.index;
      minutes = t.minutes;
    }

abbrev pub stages_of : List code.Slot.Slot → List Stage
stages_of slots = map (λ s. as_stage s.stage) slots

abbrev pub pending_of : List code.Slot.Slot → List Transfer
pending_of slots = map (λ s. as_transfer s.pending) slots

abbrev pub as_command : code.Command.Command → List code.Slot.Slot → Command
as_command c slots =
    record { code = c.code; action = c.action; function = c.function; fill = as_fill c.fill; pending = pending_of slots }

abbrev pub as_device : code.Device.Device → List ℕ → Device
as_device d history =
    record {
      native = d.native;
      visible = d.visible;
      locked = d.locked;
      initialized = d.initialized;
      command = as_command d.command d.slots;
      settings = as_settings d.settings;
      thermal = as_thermal d.thermal history;
    }

abbrev pub as_contents : code.Device.Device → List ℕ → Contents
as_contents d history = record { device = as_device d history; stages = stages_of d.slots }

-- the history of a record
abbrev pub history_of : List ℕ → List ℕ
history_of r = part r (head_size + table_head_size) history_size

-- .. and after a change that empties it or not: "Any set of feature 3 empties the temperature history."
abbrev pub history_after : Bool → List ℕ → List ℕ
history_after empties h = if empties then empty_history else h

-- ---- what requests and keys name

abbrev pub as_direction : names.Direction.Direction → Direction
as_direction Read = read
as_direction Write = write

abbrev pub as_feature_name : names.FeatureName.FeatureName → FeatureName
as_feature_name WriteCache = write_cache
as_feature_name Reordering = reordering
as_feature_name LogInterval = log_interval

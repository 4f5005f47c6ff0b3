-- What a decision's struct means in the model. It holds only numbers: the slot's bytes m and the record's history are given separately.
use Rattle.std.specs.Prelude.{◌≡◌, false, List, ℕ, length}
use Rattle.model.specs.Device.{Device}
use Rattle.model.specs.Registers.{Registers, data_of, long_data_of}
use Rattle.model.specs.Disk.{checked}
use Rattle.model.specs.Key.{pattern_sector}
use Rattle.model.specs.Decide.{Writing, no_write, one_sector, new_fill, Sending, no_data, temperatures, disk_sector, stored_sector, Effect, Decision, decision}
use Rattle.record.specs.declared.device as device
use Rattle.record.specs.DeviceMeaning.{as_device, history_after, stages_of}
use Rattle.reply.specs.ReplyMeaning.{as_registers}
use Rattle.decision.specs.declared.decision as code
use Rattle.decision.specs.declared.decision.Writing.TheVariants as writes
use Rattle.decision.specs.declared.decision.Sending.TheVariants as sends

abbrev pub as_writing : code.Writing.Writing → List ℕ → Writing
as_writing writes.Nothing m = no_write
as_writing (writes.Sector lba) m = one_sector lba (checked (data_of m))
as_writing (writes.LongSector lba) m = one_sector lba (long_data_of m)
as_writing (writes.PatternFill first end) m = new_fill first end (pattern_sector (data_of m))
as_writing (writes.DataFill first end) m = new_fill first end (data_of m)

abbrev pub as_sending : code.Sending.Sending → Sending
as_sending sends.Nothing = no_data
as_sending sends.Temperatures = temperatures
as_sending (sends.Sector lba) = disk_sector lba
as_sending (sends.StoredSector lba) = stored_sector lba

abbrev pub as_effect : code.Decision.Decision → List ℕ → Effect
as_effect k m = record { writes = as_writing k.writes m; sends = as_sending k.sends }

abbrev pub as_decision : code.Decision.Decision → List ℕ → List ℕ → Decision
as_decision k m h = decision (as_device k.device (history_after k.empties h)) (as_registers k.reply) (as_effect k m)

-- k means this device, these registers and this effect, and does not empty the history
pub record Says (d : device.Device.Device) (q : Registers) (e : List ℕ → Effect) (k : code.Decision.Decision) : Type 0 where
  pub device : k.device ≡ d
  pub registers : as_registers k.reply ≡ q
  pub effect : (m : List ℕ) → as_effect k m ≡ e m
  pub history : k.empties ≡ false

-- k means what a rule decides for the device d, whatever the history; the stages of the slots are unchanged
pub record Decided (m : List ℕ) (rule : Device → Decision) (d : device.Device.Device) (k : code.Decision.Decision) : Type 0 where
  pub same : (h : List ℕ) → as_decision k m h ≡ rule (as_device d h)
  pub stages : stages_of k.device.slots ≡ stages_of d.slots
  pub four : length k.device.slots ≡ length d.slots

-- A struct that means the device of another struct, changed by a rule of the model; the stages of its slots are unchanged.
use Rattle.std.specs.Prelude.{◌≡◌, List, ℕ, length}
use Rattle.model.specs.Device.{Fill, idle, running, Device}
use Rattle.record.specs.DeviceMeaning.{as_device, stages_of}
use Rattle.model.specs.Fill.{interrupted_code}
use Rattle.record.specs.declared.device as code

-- for any history, which the struct does not hold
pub record Changed (rule : Device → Device) (d r : code.Device.Device) : Type 0 where
  pub device : (h : List ℕ) → as_device r h ≡ rule (as_device d h)
  pub stages : stages_of r.slots ≡ stages_of d.slots
  pub four : length r.slots ≡ length d.slots

-- the code after a fill is stopped: 0008h if one was running
abbrev pub stopped_code : Fill → ℕ → ℕ
stopped_code idle code = code
stopped_code (running first next end) code = interrupted_code

-- The device after some sectors of its fill, in one step.
use Rattle.std.specs.Prelude.{ℕ, ◌+◌, false, eqb, if◌then◌else◌}
use Rattle.model.specs.Device.{Fill, idle, running, Device}
use Rattle.model.specs.Update.{with_initialized}
use Rattle.model.specs.Fill.{advanced}

abbrev pub fill_moved : Fill → ℕ → Device → Device
fill_moved idle k d = d
fill_moved (running first next end) k d = advanced first (next + k) end (with_initialized false d)

-- "moves next by k"; with k = 0 nothing changes, not even the flag
abbrev pub moved_on : ℕ → Device → Device
moved_on k d = if eqb k 0 then d else fill_moved d.command.fill k d

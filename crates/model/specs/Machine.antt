-- The machine: the device, the fill's sector, the four ports and the disk.
use Rattle.std.specs.Prelude.{ℕ, [], eqb, if◌then◌else◌}
use Rattle.model.specs.Device.{Fill, idle, running, Device}
use Rattle.model.specs.Disk.{Disk}
use Rattle.model.specs.Buffers.{Mailbox, Sector}

-- "for each port nothing, a request or a reply"
pub data Port : Type 0 where
  empty : Port
  request : Mailbox → Port
  reply : Mailbox → Port

-- "It holds the disk, for each port nothing, a request or a reply, and the device". sector is that of the running fill
-- ("any fill (first, next, end, sector)"), and [] with none.
pub record Machine : Type 0 where
  pub device : Device
  pub sector : Sector
  pub ports : ℕ → Port
  pub disk : Disk

-- a fill's sector is kept as long as the fill runs
abbrev pub while_running : Fill → Sector → Sector
while_running idle sector = []
while_running (running first next end) sector = sector

abbrev pub machine : Device → Sector → (ℕ → Port) → Disk → Machine
machine d sector ports disk = record { device = d; sector = while_running d.command.fill sector; ports = ports; disk = disk }

-- the ports with new content in port p
abbrev pub with_port : ℕ → Port → (ℕ → Port) → ℕ → Port
with_port p x ports i = if eqb i p then x else ports i

-- the bytes that a port holds
abbrev pub held_bytes : Port → Mailbox
held_bytes empty = []
held_bytes (request m) = m
held_bytes (reply m) = m

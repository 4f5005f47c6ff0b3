-- What each step passes on to the next, record, private area and disk with its check area, and the machine that they represent.
use Rattle.std.specs.Prelude.{ℕ, get_or}
use Rattle.wire.specs.Parts.{part}
use Rattle.model.specs.Sizes.{sector_size}
use Rattle.model.specs.Disk.{Disk}
use Rattle.model.specs.Machine.{Port, Machine, machine}
use Rattle.model.specs.Machine.{empty as nothing, request, reply}
use Rattle.store.specs.Areas.{slot_size, slot_place, fill_place}
use Rattle.store.specs.Record.{Stage, empty, held, answered, Contents, decode}
use Rattle.model.specs.Buffers.{Mailbox, Sector}
use Rattle.store.specs.Areas.{Area, Record}

pub record Store : Type 0 where
  pub record_area : Record
  pub private_area : Area
  pub disk : Disk

-- "a slot is empty, held or answered as the machine's port holds nothing, a request or a reply"
abbrev pub port_of : Stage → Mailbox → Port
port_of empty b = nothing
port_of held b = request b
port_of answered b = reply b

-- the bytes of slot p, and of the fill sector
abbrev pub slot_bytes : ℕ → Area → Mailbox
slot_bytes p private = part private (slot_place p) slot_size

abbrev pub fill_sector_of : Area → Sector
fill_sector_of private = part private fill_place sector_size

abbrev pub stage_for : ℕ → Contents → Stage
stage_for p c = get_or c.stages p empty

-- the machine of a record's contents, a private area and a disk: "Our device is read from record and fill sector"
abbrev pub machine_from : Contents → Area → Disk → Machine
machine_from c private disk = machine c.device (fill_sector_of private) (λ p. port_of (stage_for p c) (slot_bytes p private)) disk

unfoldable pub machine_of : Store → Machine
machine_of s = machine_from (decode s.record_area) s.private_area s.disk

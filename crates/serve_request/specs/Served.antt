-- The buffers after a request is carried out, and what that requires.
use Rattle.std.specs.Prelude.{◌≡◌, true, List, ℕ, ◌<◌, length}
use Rattle.model.specs.Sizes.{port_count}
use Rattle.model.specs.Disk.{Disk}
use Rattle.model.specs.Decide.{Decision}
use Rattle.store.specs.Areas.{private_size}
use Rattle.store.specs.Record.{Stage}
use Rattle.store.specs.Sound.{sound}
use Rattle.store.specs.Entries.{ServeAfter, performed}
use Rattle.record_write.specs.Framed.{Framed}
use Rattle.decision.specs.declared.decision as code
use Rattle.effect.specs.Effects.{WritesWithin, SendsWithin}

-- What the store's `performed` gives for a decision: of the record's contents it uses only the stages.
abbrev pub served : ℕ → Decision → List Stage → List ℕ → Disk → ServeAfter
served p k stages a disk = performed p k (record { device = k.device; stages = stages }) a disk

pub record Served (p : ℕ) (k : Decision) (stages : List Stage) (a : List ℕ) (disk : Disk) (new_record new_area : List ℕ) (new_disk : Disk) : Type 0 where
  pub record_bytes : new_record ≡ (served p k stages a disk).record_area
  pub area_bytes : new_area ≡ (served p k stages a disk).private_area
  pub disk_bytes : new_disk ≡ (served p k stages a disk).disk

-- required to perform a decision
pub record Performable (r a : List ℕ) (disk : Disk) (p : ℕ) (k : code.Decision.Decision) : Type 0 where
  pub framed : Framed r
  pub size : length a ≡ private_size
  pub port : p < port_count
  pub four : length k.device.slots ≡ port_count
  pub writes_within : WritesWithin disk k.writes
  pub sends_within : SendsWithin disk k.sends

-- required to serve a slot
pub record Entered (r a : List ℕ) (p : ℕ) : Type 0 where
  pub sound_record : sound r ≡ true
  pub size : length a ≡ private_size
  pub port : p < port_count

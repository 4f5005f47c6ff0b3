-- The statement of document 00's condition 3.
use Rattle.std.specs.Prelude.{◌≡◌, ◌↔◌, ℕ, ◌*◌, ◌≤◌, List, [], ◌∷◌, map, length}
use Rattle.model.specs.Sizes.{sector_size, check_size, native_limit}
use Rattle.model.specs.Disk.{Disk, hidden_part}
use Rattle.model.specs.ImageForm.{ImageForm}
use Rattle.model.specs.Machine.{Machine}
use Rattle.wire.specs.Bytes.{Bytes}
use Rattle.model.specs.Step.{Step, Outcome, powered_on, first_answer, step, trace}
use Rattle.model.specs.Valid.{Fed, Each}
use Rattle.store.specs.Store.{Store, machine_of}
use Rattle.store.specs.Entries.{power_on_bytes}
use Rattle.store.specs.OnStore.{store, on_store}
use Rattle.model.specs.Buffers.{Image}
use Rattle.store.specs.Areas.{Record, Area, record_size, private_size}

-- the outcome of a step on the bytes, read as a machine
abbrev pub as_machine : Outcome Store → Outcome Machine
as_machine o = record { state = machine_of o.state; seen = o.seen }

-- "No sector outside the visible disk of that moment is ever written; all of these keep their bytes.": V is the one before the step.
abbrev pub kept_hidden : Store → Store → Type 0
kept_hidden before after =
    let visible = (machine_of before).device.visible in
    hidden_part visible after.disk ≡ hidden_part visible before.disk

abbrev pub HiddenKept : List Step → Store → Type 0
HiddenKept [] s = Unit {0}
HiddenKept (x ∷ xs) s = kept_hidden s (on_store x s).state × HiddenKept xs (on_store x s).state

-- the bytes after a first power-on, whatever the record and the private area held
abbrev pub started : Record → Area → Disk → Image → ℕ → Store
started r a disk image used =
    let o = power_on_bytes r a disk image used in
    store o.record_area o.private_area disk

-- "as it must wherever our first paper names no refusal": what that paper asks of a power-on
pub record NoRefusal (r : Record) (a : Area) (disk : Disk) (image : Image) (used : ℕ) : Type 0 where
  -- "a lent buffer isn't of its size"
  pub record_sized : length r ≡ record_size
  pub area_sized : length a ≡ private_size
  -- "Disk: a lent run of 1 to 65,536 sectors of 512 bytes (native size N)."; W-207: "Conditions 2 and 3 read the new limit."
  pub native : ℕ
  pub disk_sized : length disk.sectors ≡ sector_size * native
  pub some : 1 ≤ native
  pub most : native ≤ native_limit
  -- W-202: "a lent check area, two bytes a sector"
  pub check_area_sized : length disk.check_area ≡ check_size * native
  -- "an image's used length exceeds its buffer"
  pub used_within : used ≤ length image
  -- "image not readable by the rules below"
  pub form : ImageForm image used
  -- "newest entry's N is not this disk's"
  pub own_disk : (used ≡ 0 → ⊥) → form.newest.native ≡ native

-- "The model machine of our first paper makes the same power-on, from the same image and disk, and runs the same list."
pub record FollowsMachine (r : Record) (a : Area) (disk : Disk) (image : Image) (used : ℕ) (xs : List Step) : Type 0 where
  pub same_answer : first_answer disk image used ≡ 0
  -- "After the power-on and after each step our device and every byte of the disk equal the model machine's. Every answer number,
  -- every count of sectors written, every reply delivered and every saved image is the same too."
  pub after_power_on : machine_of (started r a disk image used) ≡ powered_on disk image used
  pub after_each_step : map as_machine (trace on_store xs (started r a disk image used)) ≡ trace step xs (powered_on disk image used)
  pub hidden : HiddenKept xs (started r a disk image used)

-- "Start with a power-on that answers 0, as it must wherever our first paper names no refusal, on any disk and image. Consider every list of
-- our steps after it: .. refused ones included, in any order, with any inputs".
pub record StartsAndFollows (r : Record) (a : Area) (disk : Disk) (image : Image) (used : ℕ) : Type 0 where
  pub answers_zero : ((power_on_bytes r a disk image used).answer ≡ 0) ↔ NoRefusal r a disk image used
  pub followed : (power_on_bytes r a disk image used).answer ≡ 0 → (xs : List Step) → Each Fed xs → FollowsMachine r a disk image used xs

-- CONDITION 3. Nothing is required of the old record and private area; of disk, image and what is fed, only that bytes are bytes.
abbrev pub Condition3 : Type 0
Condition3 =
    (r : Record) (a : Area) (disk : Disk) (image : Image) (used : ℕ) → Bytes disk.sectors → Bytes disk.check_area → Bytes image → StartsAndFollows r a disk image used

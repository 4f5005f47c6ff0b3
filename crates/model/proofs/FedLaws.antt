-- What is required of what a step is fed: that bytes are bytes, and nothing else.
use Prim.Native.Nat.{ℕ, ◌<◌}
use Rattle.wire.specs.Bytes.{Bytes}
use Rattle.model.specs.Step.{OwnerStep, lock, unlock, set_visible, sample, Step, take, serve, give, work, owner, repair, save, power_on}
use Rattle.model.specs.Valid.{OwnerFed, Fed}
use Rattle.model.proofs.StepLaws.{mailbox_of, image_of}

-- the reading that a step is fed
abbrev pub owner_reading : OwnerStep → ℕ
owner_reading lock = 0
owner_reading unlock = 0
owner_reading (set_visible v) = 0
owner_reading (sample reading) = reading

abbrev pub reading_of : Step → ℕ
reading_of (take p m) = 0
reading_of (serve s) = 0
reading_of (give p m) = 0
reading_of (work n) = 0
reading_of (owner x) = owner_reading x
reading_of (repair lba) = 0
reading_of (save image used) = 0
reading_of (power_on image used) = 0

owner-fed : (x : OwnerStep) → owner_reading x < 256 → OwnerFed x
owner-fed lock r = tt
owner-fed unlock r = tt
owner-fed (set_visible v) r = tt
owner-fed (sample reading) r = r

-- THEOREM: a step whose mailbox, image and reading are bytes is fed valid input.
pub fed : (x : Step) → Bytes (mailbox_of x) → Bytes (image_of x).0 → reading_of x < 256 → Fed x
fed (take p m) b i r = b
fed (serve s) b i r = tt
fed (give p m) b i r = tt
fed (work n) b i r = tt
fed (owner x) b i r = owner-fed x r
fed (repair lba) b i r = tt
fed (save image used) b i r = tt
fed (power_on image used) b i r = i

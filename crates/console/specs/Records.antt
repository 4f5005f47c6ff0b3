-- A run of bytes as records of one size.
use Rattle.std.specs.Prelude.{◌≡◌, ℕ, ◌-◌, ◌*◌, ◌/◌, ◌%◌, ◌<◌, ◌≤◌, min, List, length, take, eqb, ltb, if◌then◌else◌}
use Rattle.std.specs.declared.option.Option.{Option}
use Rattle.std.specs.Io.KnownBytes.{Consumes, IsAtEnd}
use Rattle.console.specs.declared.input.Arrival.{Arrival}
use Rattle.console.specs.declared.input.Arrival.TheVariants.{Whole, Cut, End}

-- how many whole records a run of that many bytes holds
abbrev pub whole_records : ℕ → ℕ → ℕ
whole_records size bytes = bytes / size

-- how many bytes follow the last whole record
abbrev pub stray_bytes : ℕ → ℕ → ℕ
stray_bytes size bytes = bytes % size

-- how many bytes the read of record k returns, from a run of that many bytes: a record, or what is left
abbrev pub brought : ℕ → ℕ → ℕ → ℕ
brought size bytes k = min size (bytes - size * k)

-- what a read is that returned that many bytes of a record
abbrev pub arrival_of : ℕ → ℕ → Arrival
arrival_of size count = if eqb count 0 then End else if ltb count size then Cut else Whole

-- a read that returned that many bytes: they are what the reader had next and stand at the buffer's start; fewer than the buffer holds only where the input ends
pub record Filled (before after : Option (List ℕ)) (buf : List ℕ) (count : ℕ) : Type 0 where
  pub within : count ≤ length buf
  pub bytes : Consumes before after (take count buf)
  pub end : count < length buf → IsAtEnd after

-- a record's read, by what it returned: how many bytes, and what they are
abbrev pub RecordRead : Option (List ℕ) → Option (List ℕ) → List ℕ → Arrival → Type 0
RecordRead before after buf a = (count : ℕ) × (a ≡ arrival_of (length buf) count) × Filled before after buf count

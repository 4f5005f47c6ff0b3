-- What the stores of history.rt change in the history.
use mathlib.Core.Path.{◌≡◌}
use Prim.Native.Nat.{ℕ, ◌+◌, ◌<◌}
use native.Mathlib.Omega.{arith}
use mathlib.Core.List.{List, [], ◌∷◌}
use lib.ListN.{length, set, length-replicate}
use lib.Seq.{sets}
use Rattle.wire.proofs.PartsLaws.{sets-part, part_same}
use Rattle.model.specs.Sizes.{history_size, missing}
use Rattle.model.specs.Temperature.{table_head_size, empty_history}
use Rattle.store.specs.Areas.{record_size, head_size}
use Rattle.record.specs.DeviceMeaning.{history_of}

pub history-logged : (r : List ℕ) (index reading : ℕ) → index < history_size
    → history_of (set r (head_size + table_head_size + index) reading) ≡ set (history_of r) index reading
history-logged r index reading h = sets-part (reading ∷ []) r (head_size + table_head_size) history_size index (omega arith)

pub history-emptied : (r : List ℕ) → length r ≡ record_size → history_of (sets r (head_size + table_head_size) empty_history) ≡ empty_history
history-emptied r size = part_same empty_history r (head_size + table_head_size) history_size (length-replicate history_size missing) (omega arith)

-- The record's history, emptied if asked for.
use mathlib.Core.Path.{◌≡◌, refl}
use mathlib.Core.Bool.{Bool, true, false}
use mathlib.Core.List.{List}
use Prim.Native.Nat.{ℕ, ◌+◌}
use native.Mathlib.Omega.{arith}
use lib.ListN.{length, length-replicate}
use lib.Seq.{sets}
use Rattle.std.specs.Prelude.{if◌then◌else◌}
use Rattle.wire.proofs.PartsLaws.{length_part}
use Rattle.model.specs.Sizes.{history_size, missing}
use Rattle.model.specs.Temperature.{table_head_size, empty_history}
use Rattle.store.specs.Areas.{head_size}
use Rattle.record.specs.DeviceMeaning.{history_of, history_after}
use Rattle.record_write.specs.Framed.{Framed}
use Rattle.record_write.proofs.FramedLaws.{emptied-framed}
use Rattle.record_write.proofs.HistoryLaws.{history-emptied}

module _ (r : List ℕ) (f : Framed r) where
  abbrev emptied : Bool → List ℕ
  emptied asked = if asked then sets r (head_size + table_head_size) empty_history else r

  pub emptied-ready : (asked : Bool) → Framed (emptied asked)
  emptied-ready true = emptied-framed r f
  emptied-ready false = f

  pub emptied-history : (asked : Bool) → history_of (emptied asked) ≡ history_after asked (history_of r)
  emptied-history true = history-emptied r f.size
  emptied-history false = refl

  pub history-whole : (asked : Bool) → length (history_after asked (history_of r)) ≡ history_size
  history-whole true = length-replicate history_size missing
  history-whole false = length_part r (head_size + table_head_size) history_size (omega (arith, f.size))

-- The fields of four slots: those of their list are those of each slot in order.
use mathlib.Core.Path.{◌≡◌, ap, subst}
use Prim.Native.Nat.{ℕ}
use mathlib.Core.List.{List, ◌++◌}
use lib.ListN.{length, get_or}
use Rattle.wire.specs.Layout.{Field, Fit}
use Rattle.wire.proofs.LayoutLaws.{fit_append}
use Rattle.store.specs.Record.{slot_at, slot_fields, slots_fields}
use Rattle.store.proofs.RecordLaws.{four-back}
use Rattle.record.specs.DeviceMeaning.{as_stage, as_transfer, stages_of, pending_of}
use Rattle.record.specs.declared.device as code

-- slot i's fields; x is used for a slot past the end
abbrev pub fields_in : List code.Slot.Slot → code.Slot.Slot → ℕ → List Field
fields_in l x i = slot_fields (slot_at i) (as_stage (get_or l i x).stage) (as_transfer (get_or l i x).pending)

pub slots-fields-four : (l : List code.Slot.Slot) (x : code.Slot.Slot) → length l ≡ 4
    → fields_in l x 0 ++ (fields_in l x 1 ++ (fields_in l x 2 ++ fields_in l x 3)) ≡ slots_fields (stages_of l) (pending_of l)
slots-fields-four l x e = ap (λ (s : List code.Slot.Slot). slots_fields (stages_of s) (pending_of s)) (four-back l x e)

pub slots-fit : (l : List code.Slot.Slot) (x : code.Slot.Slot) → length l ≡ 4 → Fit (fields_in l x 0) → Fit (fields_in l x 1) → Fit (fields_in l x 2) → Fit (fields_in l x 3)
    → Fit (slots_fields (stages_of l) (pending_of l))
slots-fit l x e a b c d =
    subst Fit (slots-fields-four l x e)
    (fit_append (fields_in l x 0) (fields_in l x 1 ++ (fields_in l x 2 ++ fields_in l x 3)) a
    (fit_append (fields_in l x 1) (fields_in l x 2 ++ fields_in l x 3) b (fit_append (fields_in l x 2) (fields_in l x 3) c d)))

-- What `frame` stores is the blank record, whatever was there before. It is framed, and its history is empty.
use mathlib.Core.Path.{◌≡◌, refl, sym, ap, ◌∙◌}
use Prim.Native.Nat.{ℕ, ◌+◌}
use native.Mathlib.Omega.{arith}
use mathlib.Core.List.{List, [], ◌∷◌, ◌++◌, append_assoc}
use lib.ListN.{length}
use lib.Seq.{sets, length-sets, take_all}
use Rattle.wire.specs.Numbers.{le, put, get}
use Rattle.wire.specs.Parts.{zeros}
use Rattle.wire.specs.Layout.{Field, stores, form}
use Rattle.wire.specs.Bytes.{all_zero}
use Rattle.wire.proofs.PartsLaws.{part_same}
use Rattle.wire.proofs.LayoutLaws.{length-form}
use Rattle.wire.proofs.WithinLaws.{sets_then, form-within}
use Rattle.model.specs.Sizes.{history_size}
use Rattle.model.specs.Temperature.{table_versions, table_limits_place, table_limits, table_size_place, table_head_size, table_fields, table_bytes, empty_history}
use Rattle.store.specs.Areas.{record_size, head_size}
use Rattle.store.specs.RecordTests.{table_fixed}
use Rattle.record.specs.DeviceMeaning.{history_of}
use Rattle.record_write.specs.Framed.{Framed}
use Rattle.record_write.specs.Blank.{blank_record}

-- the table's fixed numbers, by their places in the record
abbrev fixed_fields : List Field
fixed_fields = (head_size, 4, table_versions) ∷ (head_size + table_limits_place, 4, table_limits) ∷ (head_size + table_size_place, 2, history_size) ∷ []

-- the record before the history
abbrev front : List ℕ
front = form (head_size + table_head_size) fixed_fields

front-is : front ≡ zeros head_size ++ form table_head_size (table_fields 0 0)
unfolding form put le
front-is = refl

front-blank : front ++ empty_history ≡ blank_record
unfolding blank_record table_bytes
front-blank = ap (λ (l : List ℕ). l ++ empty_history) front-is ∙ append_assoc (zeros head_size) (form table_head_size (table_fields 0 0)) empty_history

-- a run stored over the whole of a run of the same length
stored-whole : (vs r : List ℕ) → length vs ≡ length r → sets r 0 vs ≡ vs
stored-whole vs r e = sym (take_all (length r) (sets r 0 vs) (rw (length-sets r 0 vs) (omega arith))) ∙ part_same vs r 0 (length r) e (omega arith)

pub blank-framed : Framed blank_record
unfolding blank_record table_bytes table_fixed all_zero form put le get
blank-framed = record { size = refl; spare = refl; fixed = refl }

pub blank-history : history_of blank_record ≡ empty_history
unfolding blank_record table_bytes form put le
blank-history = refl

-- THE LAW of an initialised record
pub blank-stored : (r : List ℕ) → length r ≡ record_size
    → sets (stores fixed_fields (sets r 0 (zeros (head_size + table_head_size)))) (head_size + table_head_size) empty_history ≡ blank_record
blank-stored r size =
    ap (λ (l : List ℕ). sets l (head_size + table_head_size) empty_history) (form-within (head_size + table_head_size) fixed_fields r 0 refl)
    ∙ sets_then front empty_history r 0 (head_size + table_head_size) (length-form (head_size + table_head_size) fixed_fields)
    ∙ ap (sets r 0) front-blank
    ∙ stored-whole blank_record r (blank-framed.size ∙ sym size)

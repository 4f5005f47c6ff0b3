-- Which records are framed: the sound ones, the written ones, and those with new readings in their history.
use mathlib.Core.Path.{◌≡◌, refl, ap₂, ◌∙◌}
use mathlib.Core.Bool.{Bool, true, ◌&&◌}
use Prim.Native.Nat.{ℕ, ◌+◌, ◌-◌, ◌≤◌}
use native.Mathlib.Omega.{arith}
use mathlib.Core.List.{List, [], ◌∷◌}
use lib.ListN.{length, set}
use lib.Seq.{sets, length-sets}
use Rattle.wire.specs.Bytes.{Bytes, all_zero}
use Rattle.wire.proofs.NumbersLaws.{get-sets-before}
use Rattle.wire.proofs.PartsLaws.{length_part, part-before}
use Rattle.wire.proofs.BytesLaws.{bytes-part}
use Rattle.model.specs.Sizes.{history_size}
use Rattle.model.specs.Temperature.{table_limits_place, table_zeros_place, table_size_place, table_head_size, empty_history}
use Rattle.store.specs.Areas.{record_size, head_size}
use Rattle.store.specs.Record.{Contents, encode}
use Rattle.store.specs.Sound.{sound}
use Rattle.store.specs.RecordTests.{spare_runs, zero_runs, table_fixed}
use Rattle.store.proofs.RecordLaws.{ContentsFit, length-encode}
use Rattle.store.proofs.RecordTestLaws.{RunsWithin, sound-tests}
use Rattle.store.proofs.WrittenLaws.{encode-spare, encode-fixed}
use Rattle.record.specs.DeviceMeaning.{as_contents, history_of}
use Rattle.record_write.specs.Framed.{Framed}
use Rattle.record_write.specs.Fits.{NumbersFit}
use Rattle.record.specs.declared.device as code
use Rattle.record_write.proofs.FitsLaws.{contents-fit}

pub sound-framed : (r : List ℕ) → Bytes r → sound r ≡ true → Framed r
sound-framed r b e = let t = sound-tests r b e in record { size = t.size; spare = t.spare; fixed = t.fixed }

pub encode-framed : (c : Contents) → ContentsFit c → Framed (encode c)
encode-framed c fit = record { size = length-encode c fit; spare = encode-spare c fit; fixed = encode-fixed c fit }

-- the record after `write`
pub written-framed : (r : List ℕ) (d : code.Device.Device) → Bytes r → length r ≡ record_size → NumbersFit d → Framed (encode (as_contents d (history_of r)))
written-framed r d b size f =
    encode-framed (as_contents d (history_of r))
    (contents-fit d (history_of r) f (length_part r (head_size + table_head_size) history_size (omega arith)) (bytes-part r (head_size + table_head_size) history_size b))

-- ---- stores after the table's head

-- runs before a store
runs-kept : (runs : List (ℕ × ℕ)) (r : List ℕ) (at : ℕ) (vs : List ℕ) → RunsWithin at runs → zero_runs runs (sets r at vs) ≡ zero_runs runs r
runs-kept [] r at vs w = refl
runs-kept (x ∷ xs) r at vs w =
    ap₂ (λ (l : List ℕ) (b : Bool). all_zero l && b) (part-before vs r at x.0 x.1 w.0) (runs-kept xs r at vs w.1)

fixed_kept : (r : List ℕ) (at : ℕ) (vs : List ℕ) → head_size + table_head_size ≤ at → table_fixed (sets r at vs) head_size ≡ table_fixed r head_size
unfolding table_fixed
fixed_kept r at vs h =
    rw (
      get-sets-before 4 r head_size at vs (omega arith),
      get-sets-before 4 r (head_size + table_limits_place) at vs (omega arith),
      part-before vs r at (head_size + table_zeros_place) (table_size_place - table_zeros_place) (omega arith),
      get-sets-before 2 r (head_size + table_size_place) at vs (omega arith),
    )

pub history-stored : (r : List ℕ) (at : ℕ) (vs : List ℕ) → head_size + table_head_size ≤ at → Framed r → Framed (sets r at vs)
history-stored r at vs h f =
    record {
      size = length-sets r at vs ∙ f.size;
      spare = runs-kept spare_runs r at vs (omega arith) ∙ f.spare;
      fixed = fixed_kept r at vs h ∙ f.fixed;
    }

pub logged-framed : (r : List ℕ) (index reading : ℕ) → Framed r → Framed (set r (head_size + table_head_size + index) reading)
logged-framed r index reading f = history-stored r (head_size + table_head_size + index) (reading ∷ []) (omega arith) f

pub emptied-framed : (r : List ℕ) → Framed r → Framed (sets r (head_size + table_head_size) empty_history)
emptied-framed r f = history-stored r (head_size + table_head_size) empty_history (omega arith) f

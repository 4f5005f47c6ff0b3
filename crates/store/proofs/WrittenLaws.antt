-- Storing the fields over a record whose spare and fixed bytes are right gives the record of the new values.
use mathlib.Core.Path.{◌≡◌, refl, sym, ap, ◌∙◌, subst}
use mathlib.Core.Bool.{true}
use Prim.Native.Nat.{ℕ, ◌+◌}
use native.Mathlib.Omega.{arith}
use mathlib.Core.List.{List, ◌++◌}
use lib.ListN.{length, drop, take-append-drop}
use Rattle.wire.specs.Numbers.{le, put}
use Rattle.wire.specs.Parts.{part}
use Rattle.wire.specs.Layout.{stores, form}
use Rattle.wire.specs.Bytes.{Bytes}
use Rattle.wire.proofs.PartsLaws.{length_part, put-after}
use Rattle.wire.proofs.LayoutLaws.{length-form, stores-front}
use Rattle.wire.proofs.FormUnique.{form-stored}
use Rattle.model.specs.Sizes.{history_size}
use Rattle.model.specs.Temperature.{table_interval_place, table_index_place, table_head_size, table_bytes}
use Rattle.store.specs.Areas.{record_size, head_size}
use Rattle.store.specs.Record.{Contents, head_fields, table_numbers, encode, decode}
use Rattle.store.specs.RecordTests.{spare_runs, zero_runs, table_fixed}
use Rattle.store.proofs.RecordLaws.{ContentsFit, bytes-encode, decode-encode}
use Rattle.store.proofs.TableInPlace.{table_is}
use Rattle.store.proofs.RecordTestLaws.{head-rest, table-half, spare-holds, fixed-holds}

-- the first half
head-stored : (r : List ℕ) (c : Contents) → length r ≡ record_size → zero_runs spare_runs r ≡ true → stores (head_fields c) r ≡ form head_size (head_fields c) ++ drop head_size r
head-stored r c size spare =
    let whole : length (part r 0 head_size) ≡ head_size = length_part r 0 head_size (omega arith) in
    ap (stores (head_fields c)) (sym (take-append-drop head_size r))
    ∙ stores-front (head_fields c) 0 head_size (part r 0 head_size) (drop head_size r) refl (omega arith)
    ∙ ap (λ (l : List ℕ). l ++ drop head_size r) (form-stored head_size (head_fields c) (part r 0 head_size) whole refl (head-rest r c size spare))

-- the two numbers in a table
table-stored : (i x interval index : ℕ) (history : List ℕ) → put 2 (put 2 (table_bytes i x history) table_interval_place interval) table_index_place index ≡ table_bytes interval index history
unfolding table_bytes form put le
table-stored i x interval index history = refl

-- .. and after the first half
table-after : (head : List ℕ) (i x interval index : ℕ) (history : List ℕ) → length head ≡ head_size
    → stores (table_numbers interval index) (head ++ table_bytes i x history) ≡ head ++ table_bytes interval index history
table-after head i x interval index history e =
    let t = table_bytes i x history in
    ap (λ (l : List ℕ). put 2 l (head_size + table_index_place) index) (put-after 2 head t head_size table_interval_place interval e)
    ∙ put-after 2 head (put 2 t table_interval_place interval) head_size table_index_place index e
    ∙ ap (λ (l : List ℕ). head ++ l) (table-stored i x interval index history)

-- THE LAW of writing: it is enough to store the fields of the first half and the table's two numbers.
pub written : (r : List ℕ) (c : Contents) → Bytes r → length r ≡ record_size → zero_runs spare_runs r ≡ true → table_fixed r head_size ≡ true
    → c.device.thermal.history ≡ part r (head_size + table_head_size) history_size
    → stores (table_numbers c.device.settings.log_interval.state c.device.thermal.index) (stores (head_fields c) r) ≡ encode c
unfolding encode
written r c b size spare fixed kept =
    let interval = c.device.settings.log_interval.state in
    let index = c.device.thermal.index in
    let head = form head_size (head_fields c) in
    ap (stores (table_numbers interval index)) (head-stored r c size spare ∙ ap (λ (l : List ℕ). head ++ l) (table-half r size ∙ table_is r head_size b (omega arith) fixed))
    ∙ table-after head _ _ interval index (part r (head_size + table_head_size) history_size) (length-form head_size (head_fields c))
    ∙ ap (λ (h : List ℕ). head ++ table_bytes interval index h) (sym kept)

-- ---- which records have the right spare and fixed bytes

module _ (c : Contents) (fit : ContentsFit c) where
  again : encode (decode (encode c)) ≡ encode c
  again = ap encode (decode-encode c fit)

  fit-again : ContentsFit (decode (encode c))
  fit-again = subst ContentsFit (sym (decode-encode c fit)) fit

  pub encode-spare : zero_runs spare_runs (encode c) ≡ true
  encode-spare = spare-holds (encode c) (bytes-encode c fit) again fit-again

  pub encode-fixed : table_fixed (encode c) head_size ≡ true
  encode-fixed = fixed-holds (encode c) (bytes-encode c fit) again fit-again

-- The bytes of a converted image (W-204): only bytes 25 to 29 of its entries change, and over each entry the timers that it holds are stored, in the form
-- asked for.
use mathlib.Core.Path.{◌≡◌, refl, sym, ap, ap₂, ◌∙◌, subst}
use mathlib.Core.Bool.{Bool, true, false}
use mathlib.Core.Logic.{◌⊎◌, inl, inr}
use Prim.Native.Nat.{ℕ, zero, suc, ◌+◌, ◌-◌, ◌*◌, ◌/◌, ◌%◌, ◌≤◌, ◌<◌}
use native.Mathlib.Omega.{arith}
use native.Mathlib.Decide.{dec_lt}
use mathlib.Core.List.{List}
use lib.ListN.{length, get_or}
use lib.Seq.{ext_get_or}
use lib.Dec.{eqb}
use borrow.Author.Tests.{eqb-true, eqb-false}
use Rattle.wire.specs.Numbers.{get}
use Rattle.wire.specs.Parts.{part}
use Rattle.wire.specs.Layout.{Field, stores, placed}
use Rattle.wire.proofs.PartsLaws.{get_or_part, part-agree, get-part}
use Rattle.wire.proofs.LayoutLaws.{length-stores}
use Rattle.wire.proofs.WithinLaws.{part-stores, stores_apart}
use Rattle.model.specs.Image.{SavedTimers, timer_fields, timers_at}
use Rattle.model.specs.Convert.{in_form, converted_entry, converted, entry_timers}
use Rattle.model.proofs.EntryLaws.{timers-agree}

-- ---- the bytes that stay

-- what the entry at a place is given
abbrev given : ℕ → List ℕ → ℕ → List Field
given entry_form image at = timer_fields (in_form entry_form (timers_at image at))

pub length-converted : (entry_form : ℕ) (image : List ℕ) (n : ℕ) → length (converted entry_form image n) ≡ length image
length-converted entry_form image zero = refl
length-converted entry_form image (suc k) =
    let before = converted entry_form image k in
    length-stores (placed (560 * k) (given entry_form before (560 * k))) before ∙ length-converted entry_form image k

-- one entry converted: the bytes before its byte 25 and those from its byte 30 on
entry-elsewhere : (entry_form : ℕ) (image : List ℕ) (k i : ℕ) → (i < 560 * k + 25) ⊎ (560 * k + 30 ≤ i)
    → get_or (converted_entry entry_form (560 * k) image) i 0 ≡ get_or image i 0
entry-elsewhere entry_form image k i h = stores_apart (given entry_form image (560 * k)) 25 30 (560 * k) image i refl h

-- a byte that no conversion of n entries changes: behind them, or not one of bytes 25 to 29 of an entry
abbrev pub Elsewhere : ℕ → ℕ → Type 0
Elsewhere n i = (560 * n ≤ i) ⊎ ((i % 560 < 25) ⊎ (30 ≤ i % 560))

-- THEOREM: "byte 25 is 2 and bytes 26 to 29 hold the read and write timers": a conversion changes no other byte.
pub converted-elsewhere : (entry_form : ℕ) (image : List ℕ) (n i : ℕ) → Elsewhere n i → get_or (converted entry_form image n) i 0 ≡ get_or image i 0
converted-elsewhere entry_form image zero i h = refl
converted-elsewhere entry_form image (suc k) i h =
    entry-elsewhere entry_form (converted entry_form image k) k i (apart (dec_lt i (560 * k + 25)) h) ∙ converted-elsewhere entry_form image k i (fewer h)
  where
    apart : Dec (i < 560 * k + 25) → Elsewhere (suc k) i → (i < 560 * k + 25) ⊎ (560 * k + 30 ≤ i)
    apart (yes p) q = inl p
    apart (no p) (inl q) = inr (omega arith)
    apart (no p) (inr (inl q)) = inr (omega arith)
    apart (no p) (inr (inr q)) = inr (omega arith)

    fewer : Elsewhere (suc k) i → Elsewhere k i
    fewer (inl q) = inl (omega arith)
    fewer (inr q) = inr q

-- ---- an entry's 560 bytes; here entries are counted from 0

abbrev window : List ℕ → ℕ → List ℕ
window image j = part image (560 * j) 560

-- the timers of an entry are read from its bytes
timers-window : (image : List ℕ) (j : ℕ) → timers_at (window image j) 0 ≡ timers_at image (560 * j)
timers-window image j =
    let number : (k i : ℕ) → i + k ≤ 560 → get k (window image j) i ≡ get k image (560 * j + i) = λ k i h. get-part k image (560 * j) 560 i h in
    timers-agree (window image j) image 0 (560 * j) (number 1 25 (omega arith)) (number 2 26 (omega arith)) (number 2 28 (omega arith))

-- an entry behind the converted ones
window-behind : (entry_form : ℕ) (image : List ℕ) (n j : ℕ) → n ≤ j → window (converted entry_form image n) j ≡ window image j
window-behind entry_form image n j h =
    part-agree (converted entry_form image n) image (560 * j) 560 (length-converted entry_form image n)
    (λ i low high. converted-elsewhere entry_form image n i (inl (omega arith)))

-- the entry that is converted last
window-last : (entry_form : ℕ) (image : List ℕ) (k : ℕ)
    → window (converted entry_form image (suc k)) k ≡ stores (given entry_form image (560 * k)) (window image k)
window-last entry_form image k =
    let before = converted entry_form image k in
    let unchanged = window-behind entry_form image k k (omega arith) in
    let timers = sym (timers-window before k) ∙ ap (λ (w : List ℕ). timers_at w 0) unchanged ∙ timers-window image k in
    part-stores (given entry_form before (560 * k)) 25 560 (560 * k) before refl
    ∙ ap₂ (λ (t : SavedTimers) (w : List ℕ). stores (timer_fields (in_form entry_form t)) w) timers unchanged

-- a converted entry: its timers are stored over it
window-converted : (entry_form : ℕ) (image : List ℕ) (n j : ℕ) → j < n
    → window (converted entry_form image n) j ≡ stores (given entry_form image (560 * j)) (window image j)
window-converted entry_form image zero j h = absurd (omega arith)
window-converted entry_form image (suc k) j h = go (eqb j k) refl (window-converted entry_form image k j)
  where
    before : List ℕ
    before = converted entry_form image k

    Stored : ℕ → Type 0
    Stored i = window (converted entry_form image (suc k)) i ≡ stores (given entry_form image (560 * i)) (window image i)

    go : (b : Bool) → eqb j k ≡ b → (j < k → window before j ≡ stores (given entry_form image (560 * j)) (window image j)) → Stored j
    go true e rest = subst Stored (sym (eqb-true j k e)) (window-last entry_form image k)
    go false e rest =
        let other = eqb-false j k e in
        part-agree (converted entry_form image (suc k)) before (560 * j) 560
        (length-converted entry_form image (suc k) ∙ sym (length-converted entry_form image k))
        (λ i low high. entry-elsewhere entry_form before k i (inl (omega arith)))
        ∙ rest (omega arith)

-- .. and so it is with entry k, counted from 1: the timers that it holds, in the form asked for, are stored over its bytes
pub entry-stored : (entry_form : ℕ) (image : List ℕ) (n k : ℕ) → 1 ≤ k → k ≤ n
    → part (converted entry_form image n) (560 * (k - 1)) 560 ≡ stores (timer_fields (in_form entry_form (entry_timers image k))) (part image (560 * (k - 1)) 560)
entry-stored entry_form image n k low high = window-converted entry_form image n (k - 1) (omega arith)

-- ---- whole images

-- two images of the same length that have the same n entries, and the same bytes behind them, are the same
pub images-same : (a b : List ℕ) (n : ℕ) → length a ≡ length b → ((k : ℕ) → 1 ≤ k → k ≤ n → part a (560 * (k - 1)) 560 ≡ part b (560 * (k - 1)) 560)
    → ((i : ℕ) → 560 * n ≤ i → get_or a i 0 ≡ get_or b i 0) → a ≡ b
images-same a b n size same rest = ext_get_or 0 a b size (λ i h. go i (dec_lt i (560 * n)))
  where
    at : (l : List ℕ) (i : ℕ) → get_or l i 0 ≡ get_or (part l (560 * (suc (i / 560) - 1)) 560) (i % 560) 0
    at l i =
        let place : i ≡ 560 * (suc (i / 560) - 1) + i % 560 = omega arith in
        ap (λ (x : ℕ). get_or l x 0) place ∙ sym (get_or_part l (560 * (suc (i / 560) - 1)) 560 (i % 560) (omega arith))

    go : (i : ℕ) → Dec (i < 560 * n) → get_or a i 0 ≡ get_or b i 0
    go i (yes p) = at a i ∙ ap (λ (l : List ℕ). get_or l (i % 560) 0) (same (suc (i / 560)) (omega arith) (omega arith)) ∙ sym (at b i)
    go i (no p) = rest i (omega arith)

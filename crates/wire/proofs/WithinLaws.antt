-- Stores inside a run that was stored before: the same as changing the run first and then storing it. Stores at a place, in the part of a run from there on.
use mathlib.Core.Path.{◌≡◌, refl, sym, ap, ◌∙◌}
use mathlib.Core.Bool.{true}
use mathlib.Core.Logic.{◌⊎◌, inl, inr}
use Prim.Native.Nat.{ℕ, zero, suc, ◌+◌, ◌≤◌, ◌<◌}
use native.Mathlib.Nat.{add-zero, add-suc, suc-add}
use native.Mathlib.Omega.{arith}
use mathlib.Core.List.{List, [], ◌∷◌, ◌++◌}
use lib.ListN.{length, get_or, set, length-set}
use lib.Seq.{sets, set-set, set_comm}
use lib.Dec.{leb}
use Rattle.wire.specs.Numbers.{le, put}
use Rattle.wire.specs.Parts.{part, zeros}
use Rattle.wire.specs.Layout.{Field, stores, placed, form, ordered}
use borrow.Author.Tests.{leb-true}
use Rattle.wire.proofs.ChoiceLaws.{and_left, and_right}
use Rattle.wire.proofs.NumbersLaws.{get_or_sets_before, get_or-sets-after, length-le, length-put}
use Rattle.wire.proofs.PartsLaws.{length-zeros, put-part, sets-append, sets-whole}
use Rattle.wire.proofs.LayoutLaws.{ordered_end, stores-append}

set-sets-before : (xs l : List ℕ) (at i a : ℕ) → i < at → set (sets l at xs) i a ≡ sets (set l i a) at xs
set-sets-before [] l at i a h = refl
set-sets-before (x ∷ xs) l at i a h =
    set-sets-before xs (set l at x) (suc at) i a (omega arith)
    ∙ ap (λ (m : List ℕ). sets m (suc at) xs) (set_comm l at i x a (λ e. omega arith))

-- two runs that do not overlap, in either order
pub sets-apart : (vs ws l : List ℕ) (i j : ℕ) → i + length vs ≤ j → sets (sets l j ws) i vs ≡ sets (sets l i vs) j ws
sets-apart [] ws l i j h = refl
sets-apart (v ∷ vs) ws l i j h =
    ap (λ (m : List ℕ). sets m (suc i) vs) (set-sets-before ws l j i v (omega arith))
    ∙ sets-apart vs ws (set l i v) (suc i) j (omega arith)

set-within : (xs l : List ℕ) (at i a : ℕ) → i < length xs → set (sets l at xs) (at + i) a ≡ sets l at (set xs i a)
set-within [] l at i a h = absurd (omega arith)
set-within (x ∷ xs) l at zero a h =
    rw (add-zero at)
    (set-sets-before xs (set l at x) (suc at) at a (omega arith) ∙ ap (λ (m : List ℕ). sets m (suc at) xs) (set-set l at x a))
set-within (x ∷ xs) l at (suc i) a h = rw (add-suc at i, ← suc-add at i) (set-within xs (set l at x) (suc at) i a (omega arith))

pub sets-within : (vs xs l : List ℕ) (at i : ℕ) → i + length vs ≤ length xs → sets (sets l at xs) (at + i) vs ≡ sets l at (sets xs i vs)
sets-within [] xs l at i h = refl
sets-within (v ∷ vs) xs l at i h =
    rw (set-within xs l at i v (omega arith), ← add-suc at i)
    (sets-within vs (set xs i v) l at (suc i) (rw length-set (omega arith)))

-- one byte, and a run, that a run stored later covers
set-over : (ys l : List ℕ) (at i a : ℕ) → i < length ys → sets (set l (at + i) a) at ys ≡ sets l at ys
set-over [] l at i a h = absurd (omega arith)
set-over (y ∷ ys) l at zero a h = rw (add-zero at) (ap (λ (m : List ℕ). sets m (suc at) ys) (set-set l at a y))
set-over (y ∷ ys) l at (suc i) a h =
    ap (λ (m : List ℕ). sets m (suc at) ys) (set_comm l (at + suc i) at a y (λ e. omega arith))
    ∙ rw (add-suc at i, ← suc-add at i) (set-over ys (set l at y) (suc at) i a (omega arith))

pub sets_over : (xs ys l : List ℕ) (at i : ℕ) → i + length xs ≤ length ys → sets (sets l (at + i) xs) at ys ≡ sets l at ys
sets_over [] ys l at i h = refl
sets_over (x ∷ xs) ys l at i h =
    rw (← add-suc at i) (sets_over xs ys (set l (at + i) x) at (suc i) (omega arith)) ∙ set-over ys l at i x (omega arith)

pub put-within : (k v : ℕ) (xs l : List ℕ) (at i : ℕ) → i + k ≤ length xs → put k (sets l at xs) (at + i) v ≡ sets l at (put k xs i v)
unfolding put
put-within k v xs l at i h = sets-within (le k v) xs l at i (rw (length-le k v) h)

pub stores-within : (fs : List Field) (from n at : ℕ) (l xs : List ℕ) → ordered from n fs ≡ true → n ≤ length xs
    → stores (placed at fs) (sets l at xs) ≡ sets l at (stores fs xs)
stores-within [] from n at l xs o h = refl
stores-within (f ∷ fs) from n at l xs o h =
    let o' = and_right (leb from f.0) (ordered (f.0 + f.1) n fs) o in
    let fits = ordered_end fs (f.0 + f.1) n o' in
    ap (stores (placed at fs)) (put-within f.1 f.2 xs l at f.0 (omega arith))
    ∙ stores-within fs (f.0 + f.1) n at l (put f.1 xs f.0 f.2) o' (rw (length-put f.1 xs f.0 f.2) h)

-- stores at a place change the same bytes in the run and in the part of it from that place ..
pub part-stores : (fs : List Field) (from n at : ℕ) (l : List ℕ) → ordered from n fs ≡ true → part (stores (placed at fs) l) at n ≡ stores fs (part l at n)
part-stores [] from n at l o = refl
part-stores (f ∷ fs) from n at l o =
    let o' = and_right (leb from f.0) (ordered (f.0 + f.1) n fs) o in
    let fits = ordered_end fs (f.0 + f.1) n o' in
    part-stores fs (f.0 + f.1) n at (put f.1 l (at + f.0) f.2) o'
    ∙ ap (stores fs) (put-part f.1 f.2 l at n f.0 (omega arith))

-- .. and no byte before the first field or after the last
pub stores_apart : (fs : List Field) (from n at : ℕ) (l : List ℕ) (i : ℕ) → ordered from n fs ≡ true → (i < at + from) ⊎ (at + n ≤ i)
    → get_or (stores (placed at fs) l) i 0 ≡ get_or l i 0
stores_apart [] from n at l i o h = refl
stores_apart (f ∷ fs) from n at l i o h =
    stores_apart fs (f.0 + f.1) n at (put f.1 l (at + f.0) f.2) i o' (behind h) ∙ first h
  where
    o' : ordered (f.0 + f.1) n fs ≡ true
    o' = and_right (leb from f.0) (ordered (f.0 + f.1) n fs) o

    begins : from ≤ f.0
    begins = leb-true from f.0 (and_left (leb from f.0) (ordered (f.0 + f.1) n fs) o)

    fits : f.0 + f.1 ≤ n
    fits = ordered_end fs (f.0 + f.1) n o'

    behind : (i < at + from) ⊎ (at + n ≤ i) → (i < at + (f.0 + f.1)) ⊎ (at + n ≤ i)
    behind (inl p) = inl (omega (arith, begins))
    behind (inr p) = inr p

    first : (i < at + from) ⊎ (at + n ≤ i) → get_or (put f.1 l (at + f.0) f.2) i 0 ≡ get_or l i 0
    first (inl p) = unfold put in get_or_sets_before (le f.1 f.2) l (at + f.0) i (omega (arith, begins))
    first (inr p) = unfold put in get_or-sets-after (le f.1 f.2) l (at + f.0) i (rw (length-le f.1 f.2) (omega (arith, fits)))

-- a run stored, and another after it
pub sets_then : (xs ys l : List ℕ) (at n : ℕ) → length xs ≡ n → sets (sets l at xs) (at + n) ys ≡ sets l at (xs ++ ys)
sets_then xs ys l at n e = ap (λ (m : ℕ). sets (sets l at xs) (at + m) ys) (sym e) ∙ sym (sets-append xs ys l at)

-- n bytes cleared, and the fields stored there: the form
pub form-within : (n : ℕ) (fs : List Field) (l : List ℕ) (at : ℕ) → ordered 0 n fs ≡ true
    → stores (placed at fs) (sets l at (zeros n)) ≡ sets l at (form n fs)
unfolding form
form-within n fs l at o = stores-within fs 0 n at l (zeros n) o (rw (length-zeros n) (omega arith))

-- ---- one field of a layout stored again

put-again : (k : ℕ) (l : List ℕ) (at v w : ℕ) → put k (put k l at v) at w ≡ put k l at w
unfolding put
put-again k l at v w =
    ap (λ (i : ℕ). sets (sets l at (le k v)) i (le k w)) (sym (add-zero at))
    ∙ sets-within (le k w) (le k v) l at 0 (rw (length-le k w, length-le k v) (omega arith))
    ∙ ap (sets l at) (sets-whole (le k w) (le k v) k (length-le k w) (length-le k v))

-- the fields after a field can be stored before or after it
put-early : (hs : List Field) (from n k at w : ℕ) (l : List ℕ) → ordered from n hs ≡ true → at + k ≤ from
    → put k (stores hs l) at w ≡ stores hs (put k l at w)
put-early [] from n k at w l o h = refl
put-early (f ∷ hs) from n k at w l o h =
    let below = leb-true from f.0 (and_left (leb from f.0) (ordered (f.0 + f.1) n hs) o) in
    put-early hs (f.0 + f.1) n k at w (put f.1 l f.0 f.2) (and_right (leb from f.0) (ordered (f.0 + f.1) n hs) o) (omega arith)
    ∙ ap (stores hs) (apart below)
  where
    apart : from ≤ f.0 → put k (put f.1 l f.0 f.2) at w ≡ put f.1 (put k l at w) f.0 f.2
    apart b = unfold put in (sets-apart (le k w) (le f.1 f.2) l at f.0 (rw (length-le k w) (omega arith)))

-- THE LAW of a field stored again: the result has that field with the new value
pub field-set : (gs hs : List Field) (n k at v w : ℕ) (l : List ℕ) → ordered (at + k) n hs ≡ true
    → put k (stores (gs ++ (at, k, v) ∷ hs) l) at w ≡ stores (gs ++ (at, k, w) ∷ hs) l
field-set gs hs n k at v w l o =
    ap (λ (m : List ℕ). put k m at w) (stores-append gs ((at, k, v) ∷ hs) l)
    ∙ put-early hs (at + k) n k at w (put k (stores gs l) at v) o (omega arith)
    ∙ ap (stores hs) (put-again k (stores gs l) at v w)
    ∙ sym (stores-append gs ((at, k, w) ∷ hs) l)

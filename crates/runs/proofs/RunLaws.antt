-- Laws of runs with one more byte at the end, as a loop over their bytes builds them, and of what `copy_within` leaves.
use mathlib.Core.Path.{◌≡◌, sym, ap, ◌∙◌}
use mathlib.Core.Bool.{◌&&◌, and-true, and_assoc}
use Prim.Native.Nat.{ℕ, suc, ◌+◌, ◌≤◌, ◌<◌}
use native.Mathlib.Numerals.{add-one}
use native.Mathlib.Omega.{arith}
use mathlib.Core.List.{List, [], ◌∷◌, ◌++◌}
use lib.ListN.{length, get_or, set, drop, length-drop, length-replicate, replicate, replicate-append-replicate}
use lib.Seq.{sets, sets-eq, paste, take-suc, get_or-drop}
use lib.Dec.{eqb}
use Rattle.wire.specs.Parts.{part}
use Rattle.wire.specs.Bytes.{same, all_zero}
use Rattle.wire.proofs.PartsLaws.{length_part, sets-append}

part-snoc : (l : List ℕ) (b j : ℕ) → b + j < length l → part l b (suc j) ≡ part l b j ++ (get_or l (b + j) 0 ∷ [])
part-snoc l b j h =
    take-suc (drop b l) j 0 (rw length-drop (omega arith)) ∙ ap (λ (x : ℕ). part l b j ++ (x ∷ [])) (get_or-drop b l j 0)

-- ---- stores

sets-snoc : (d xs : List ℕ) (at n x : ℕ) → length xs ≡ n → set (sets d at xs) (at + n) x ≡ sets d at (xs ++ (x ∷ []))
sets-snoc d xs at n x e = rw (← e) (sym (sets-append xs (x ∷ []) d at))

pub copy_more : (d l : List ℕ) (at b j : ℕ) → b + j < length l → set (sets d at (part l b j)) (at + j) (get_or l (b + j) 0) ≡ sets d at (part l b (suc j))
copy_more d l at b j h =
    sets-snoc d (part l b j) at j (get_or l (b + j) 0) (length_part l b j (omega arith)) ∙ ap (sets d at) (sym (part-snoc l b j h))

pub replicate_more : (d : List ℕ) (at j a : ℕ) → set (sets d at (replicate j a)) (at + j) a ≡ sets d at (replicate (suc j) a)
replicate_more d at j a =
    sets-snoc d (replicate j a) at j a (length-replicate j a)
    ∙ ap (sets d at) (replicate-append-replicate j 1 a ∙ ap (λ (n : ℕ). replicate n a) (add-one j))

-- what `copy_within` leaves
pub pasted : (l : List ℕ) (to from m n : ℕ) → m ≡ n → from + n ≤ length l → to + n ≤ length l → paste l to (drop from l) m ≡ sets l to (part l from n)
pasted l to from m n same h k =
    let e : length (part l from n) ≡ n = length_part l from n h in rw (sets-eq (part l from n) l to (omega (arith, e)), e, same)

-- ---- tests

all_zero-snoc : (l : List ℕ) (x : ℕ) → all_zero (l ++ (x ∷ [])) ≡ (all_zero l && eqb x 0)
unfolding all_zero
all_zero-snoc [] x = and-true (eqb x 0)
all_zero-snoc (a ∷ l) x = rw (all_zero-snoc l x) (sym (and_assoc (eqb a 0) (all_zero l) (eqb x 0)))

same-snoc : (xs ys : List ℕ) (x y : ℕ) → length xs ≡ length ys → same (xs ++ (x ∷ [])) (ys ++ (y ∷ [])) ≡ (same xs ys && eqb x y)
unfolding same
same-snoc [] [] x y e = and-true (eqb x y)
same-snoc [] (b ∷ ys) x y e = absurd (omega arith)
same-snoc (a ∷ xs) [] x y e = absurd (omega arith)
same-snoc (a ∷ xs) (b ∷ ys) x y e = rw (same-snoc xs ys x y (omega arith)) (sym (and_assoc (eqb a b) (same xs ys) (eqb x y)))

pub all_zero-more : (l : List ℕ) (b j : ℕ) → b + j < length l → (all_zero (part l b j) && eqb (get_or l (b + j) 0) 0) ≡ all_zero (part l b (suc j))
all_zero-more l b j h = rw (part-snoc l b j h) (sym (all_zero-snoc (part l b j) (get_or l (b + j) 0)))

pub same_more : (l m : List ℕ) (at b j : ℕ) → at + j < length l → b + j < length m
    → (same (part l at j) (part m b j) && eqb (get_or l (at + j) 0) (get_or m (b + j) 0)) ≡ same (part l at (suc j)) (part m b (suc j))
same_more l m at b j h k =
    let e : length (part l at j) ≡ length (part m b j) = length_part l at j (omega arith) ∙ sym (length_part m b j (omega arith)) in
    rw (part-snoc l at j h, part-snoc m b j k) (sym (same-snoc (part l at j) (part m b j) (get_or l (at + j) 0) (get_or m (b + j) 0) e))

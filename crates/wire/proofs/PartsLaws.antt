-- Laws of parts of runs of bytes.
use mathlib.Core.Path.{◌≡◌, refl, sym, ap, ◌∙◌}
use Prim.Native.Nat.{ℕ, zero, suc, ◌+◌, ◌-◌, ◌*◌, ◌^◌, ◌≤◌, ◌<◌}
use native.Mathlib.Nat.{suc-add, add-suc, zero-add, add-zero, mul_comm, mul-zero}
use native.Mathlib.Omega.{arith}
use mathlib.Core.List.{List, [], ◌∷◌, ◌++◌, append_assoc, append-nil}
use borrow.Rule.Slice.PartMut.{put_mid}
use lib.ListN.{length, get_or, set, take, drop, length-append, length-take, length-drop, length-replicate, length-set, replicate-append-replicate}
use lib.Seq.{take-nil, take_at, drop_at, length-take-le, take_all, drop-set-lt, take-set-le, take-set-lt, drop-set-add, take-take, drop-drop, get_or-take, get_or-drop, ext_get_or, sets, sets-eq, length-sets, take-append-le, drop-append-le, drop-append-add}
use Rattle.wire.specs.Numbers.{le, get, put}
use Rattle.wire.specs.Parts.{part, zeros, padded, repeated}
use Rattle.wire.proofs.NumbersLaws.{get-agree, get-put, length-le}

-- ---- length, and one byte

pub length_part : (l : List ℕ) (b n : ℕ) → b + n ≤ length l → length (part l b n) ≡ n
length_part l b n h = rw (length-take, length-drop) (omega arith)

pub length-zeros : (n : ℕ) → length (zeros n) ≡ n
length-zeros n = length-replicate n 0

pub length-padded : (n : ℕ) (l : List ℕ) → length l ≤ n → length (padded n l) ≡ n
unfolding padded
length-padded n l h = rw (length-append, length-replicate) (omega arith)

pub get_or-zeros : (n i : ℕ) → get_or (zeros n) i 0 ≡ 0
get_or-zeros zero zero = refl
get_or-zeros zero (suc i) = refl
get_or-zeros (suc n) zero = refl
get_or-zeros (suc n) (suc i) = get_or-zeros n i

pub get_or_part : (l : List ℕ) (b n i : ℕ) → i < n → get_or (part l b n) i 0 ≡ get_or l (b + i) 0
get_or_part l b n i h = get_or-take n (drop b l) i 0 h ∙ get_or-drop b l i 0

-- what `copy_from_slice` and `fill` leave of a part of a run
pub copied : (l ys : List ℕ) (at k : ℕ) → length ys ≡ k → at + k ≤ length l → put_mid at k l ys ≡ sets l at ys
copied l ys at k e h = rw (sets-eq ys l at (omega arith), append_assoc, drop-drop, e)

-- the same bytes give the same part
pub part-agree : (s t : List ℕ) (b n : ℕ) → length s ≡ length t → ((i : ℕ) → b ≤ i → i < b + n → get_or s i 0 ≡ get_or t i 0) → part s b n ≡ part t b n
part-agree s t b n e f =
    ext_get_or 0 (part s b n) (part t b n) (rw (length-take n (drop b s), length-drop b s, length-take n (drop b t), length-drop b t, e)) (λ i h.
    let within : i < n = omega (arith, rw (length-take, length-drop) at h) in
    get_or_part s b n i within ∙ f (b + i) (omega arith) (omega arith) ∙ sym (get_or_part t b n i within))

-- ---- a part after a run of stores elsewhere, and in the same place

pub drop-sets-after : (vs l : List ℕ) (i b : ℕ) → i + length vs ≤ b → drop b (sets l i vs) ≡ drop b l
drop-sets-after [] l i b h = refl
drop-sets-after (a ∷ vs) l i b h = drop-sets-after vs (set l i a) (suc i) b (omega arith) ∙ drop-set-lt b l i a (omega arith)

take-sets-before : (vs l : List ℕ) (i n : ℕ) → n ≤ i → take n (sets l i vs) ≡ take n l
take-sets-before [] l i n h = refl
take-sets-before (a ∷ vs) l i n h = take-sets-before vs (set l i a) (suc i) n (omega arith) ∙ take-set-le n l i a h

take-drop : (b n : ℕ) (l : List ℕ) → take n (drop b l) ≡ drop b (take (b + n) l)
take-drop zero n l = rw zero-add
take-drop (suc b) n [] = rw suc-add (take-nil n)
take-drop (suc b) n (x ∷ l) = rw suc-add (take-drop b n l)

pub part-after : (vs l : List ℕ) (i b n : ℕ) → i + length vs ≤ b → part (sets l i vs) b n ≡ part l b n
part-after vs l i b n h = ap (take n) (drop-sets-after vs l i b h)

pub part-before : (vs l : List ℕ) (i b n : ℕ) → b + n ≤ i → part (sets l i vs) b n ≡ part l b n
part-before vs l i b n h = take-drop b n (sets l i vs) ∙ ap (drop b) (take-sets-before vs l i (b + n) h) ∙ sym (take-drop b n l)

pub part_same : (vs l : List ℕ) (i n : ℕ) → length vs ≡ n → i + n ≤ length l → part (sets l i vs) i n ≡ vs
part_same vs l i n e h =
    rw (sets-eq vs l i (rw e h), append_assoc, drop_at (take i l) (vs ++ drop (i + length vs) l) i (length-take-le i l (omega arith)))
    (take_at vs (drop (i + length vs) l) n e)

-- ---- a part as a window: what is read and stored inside it

pub part-part : (l : List ℕ) (b n i m : ℕ) → i + m ≤ n → part (part l b n) i m ≡ part l (b + i) m
part-part l b n i m h =
    take-drop i m (take n (drop b l))
    ∙ ap (drop i) (take-take (i + m) n (drop b l) h)
    ∙ sym (take-drop i m (drop b l))
    ∙ ap (take m) (drop-drop i b l)

pub get-part : (k : ℕ) (l : List ℕ) (b n i : ℕ) → i + k ≤ n → get k (part l b n) i ≡ get k l (b + i)
get-part k l b n i h =
    get-agree k (part l b n) l i (b + i) (λ j q. get_or_part l b n (i + j) (omega arith) ∙ ap (λ (x : ℕ). get_or l x 0) (regroup b i j))
  where
    regroup : (a b c : ℕ) → a + (b + c) ≡ a + b + c
    regroup a b c = omega arith

-- a number read at its place in the run is read from the part
pub number_of : (k : ℕ) (l : List ℕ) (at n i : ℕ) {v : ℕ} → i + k ≤ n → v ≡ get k l (at + i) → get k (part l at n) i ≡ v
number_of k l at n i h e = get-part k l at n i h ∙ sym e

pub number-first : (k : ℕ) (l : List ℕ) (at n : ℕ) {v : ℕ} → k ≤ n → v ≡ get k l at → get k (part l at n) 0 ≡ v
number-first k l at n h e = number_of k l at n 0 (omega arith) (rw (add-zero at) e)

set-part : (l : List ℕ) (b n i a : ℕ) → i < n → part (set l (b + i) a) b n ≡ set (part l b n) i a
set-part l b n i a h = ap (take n) (drop-set-add b l i a) ∙ take-set-lt n (drop b l) i a h

pub sets-part : (vs l : List ℕ) (b n i : ℕ) → i + length vs ≤ n → part (sets l (b + i) vs) b n ≡ sets (part l b n) i vs
sets-part [] l b n i h = refl
sets-part (a ∷ vs) l b n i h =
    rw (← add-suc b i)
    (sets-part vs (set l (b + i) a) b n (suc i) (omega arith) ∙ ap (λ (x : List ℕ). sets x (suc i) vs) (set-part l b n i a (omega arith)))

pub put-part : (k v : ℕ) (l : List ℕ) (b n i : ℕ) → i + k ≤ n → part (put k l (b + i) v) b n ≡ put k (part l b n) i v
unfolding put
put-part k v l b n i h = sets-part (le k v) l b n i (rw (length-le k v) h)

-- ---- two runs, one after the other

pub part-append-left : (xs ys : List ℕ) (n : ℕ) → length xs ≡ n → part (xs ++ ys) 0 n ≡ xs
part-append-left xs ys n e = take_at xs ys n e

pub part-append-right : (xs ys : List ℕ) (n m : ℕ) → length xs ≡ n → length ys ≡ m → part (xs ++ ys) n m ≡ ys
part-append-right xs ys n m e f = rw (drop_at xs ys n e) (take_all m ys (omega arith))

-- stores within the first of two runs, and within the second

set_front : (xs ys : List ℕ) (i a : ℕ) → i < length xs → set (xs ++ ys) i a ≡ set xs i a ++ ys
set_front [] ys i a h = absurd (omega arith)
set_front (x ∷ xs) ys zero a h = refl
set_front (x ∷ xs) ys (suc i) a h = ap (λ (l : List ℕ). x ∷ l) (set_front xs ys i a (omega arith))

-- a part of the first of two runs
pub part-front : (xs ys : List ℕ) (i m : ℕ) → i + m ≤ length xs → part (xs ++ ys) i m ≡ part xs i m
part-front xs ys i m h =
    ap (take m) (drop-append-le i xs ys (omega arith)) ∙ take-append-le m (drop i xs) ys (rw (length-drop i xs) (omega arith))

pub sets-front : (vs xs ys : List ℕ) (i : ℕ) → i + length vs ≤ length xs → sets (xs ++ ys) i vs ≡ sets xs i vs ++ ys
sets-front [] xs ys i h = refl
sets-front (a ∷ vs) xs ys i h =
    ap (λ (l : List ℕ). sets l (suc i) vs) (set_front xs ys i a (omega arith))
    ∙ sets-front vs (set xs i a) ys (suc i) (rw length-set (omega arith))

set-behind : (xs ys : List ℕ) (i a : ℕ) → set (xs ++ ys) (length xs + i) a ≡ xs ++ set ys i a
set-behind [] ys i a = rw (zero-add i)
set-behind (x ∷ xs) ys i a = rw (suc-add (length xs) i) (ap (λ (l : List ℕ). x ∷ l) (set-behind xs ys i a))

pub sets_behind : (vs xs ys : List ℕ) (i : ℕ) → sets (xs ++ ys) (length xs + i) vs ≡ xs ++ sets ys i vs
sets_behind [] xs ys i = refl
sets_behind (a ∷ vs) xs ys i = rw (set-behind xs ys i a, ← add-suc (length xs) i) (sets_behind vs xs (set ys i a) (suc i))

pub put_front : (k : ℕ) (xs ys : List ℕ) (at v : ℕ) → at + k ≤ length xs → put k (xs ++ ys) at v ≡ put k xs at v ++ ys
unfolding put
put_front k xs ys at v h = sets-front (le k v) xs ys at (rw (length-le k v) h)

pub put-after : (k : ℕ) (xs ys : List ℕ) (n at v : ℕ) → length xs ≡ n → put k (xs ++ ys) (n + at) v ≡ xs ++ put k ys at v
unfolding put
put-after k xs ys n at v e = ap (λ (m : ℕ). sets (xs ++ ys) (m + at) (le k v)) (sym e) ∙ sets_behind (le k v) xs ys at

pub sets-append : (xs ys l : List ℕ) (i : ℕ) → sets l i (xs ++ ys) ≡ sets (sets l i xs) (i + length xs) ys
sets-append [] ys l i = rw (add-zero i)
sets-append (x ∷ xs) ys l i = rw (add-suc i (length xs), ← suc-add i (length xs)) (sets-append xs ys (set l i x) (suc i))

-- ---- the same run repeated

pub length-repeated : (n : ℕ) (l : List ℕ) → length (repeated n l) ≡ n * length l
unfolding repeated
length-repeated zero l = omega arith
length-repeated (suc n) l = rw (length-append l (repeated n l), length-repeated n l) (omega arith)

-- one more at the end is one more at the front
pub repeated-snoc : (n : ℕ) (l : List ℕ) → repeated n l ++ l ≡ repeated (suc n) l
unfolding repeated
repeated-snoc zero l = sym (append-nil l)
repeated-snoc (suc n) l = rw (append_assoc, repeated-snoc n l)

-- .. and stored where the earlier ones end
pub repeat-more : (d p : List ℕ) (at size k : ℕ) → length p ≡ size → sets (sets d at (repeated k p)) (at + size * k) p ≡ sets d at (repeated (suc k) p)
repeat-more d p at size k e =
    let far : size * k ≡ length (repeated k p) = rw (length-repeated k p, e) (mul_comm size k) in
    rw far (sym (sets-append (repeated k p) p d at)) ∙ ap (sets d at) (repeated-snoc k p)

-- each of the n runs is l
pub part-repeated : (n : ℕ) (l : List ℕ) (size j : ℕ) → length l ≡ size → j < n → part (repeated n l) (size * j) size ≡ l
unfolding repeated
part-repeated zero l size j e h = absurd (omega arith)
part-repeated (suc n) l size zero e h = rw (mul-zero size) (take_at l (repeated n l) size e)
part-repeated (suc n) l size (suc j) e h =
    ap (λ (b : ℕ). part (l ++ repeated n l) b size) (mul-suc' size j)
    ∙ ap (λ (b : ℕ). part (l ++ repeated n l) (b + size * j) size) (sym e)
    ∙ ap (take size) (drop-append-add l (repeated n l) (size * j))
    ∙ part-repeated n l size j e (omega arith)
  where
    mul-suc' : (a b : ℕ) → a * suc b ≡ a + a * b
    mul-suc' a b = omega arith

-- ---- whole runs

pub part-whole : (l : List ℕ) (n : ℕ) → length l ≡ n → part l 0 n ≡ l
part-whole l n e = ap (λ (m : List ℕ). part m 0 n) (sym (append-nil l)) ∙ part-append-left l [] n e

-- a run stored over all of another
pub sets-whole : (vs l : List ℕ) (n : ℕ) → length vs ≡ n → length l ≡ n → sets l 0 vs ≡ vs
sets-whole vs l n v e =
    sym (part-whole (sets l 0 vs) n (length-sets l 0 vs ∙ e)) ∙ part_same vs l 0 n v (omega (arith, e))

-- ---- zeros, and bytes stored over them

drop-zeros : (k n : ℕ) → k ≤ n → drop k (zeros n) ≡ zeros (n - k)
drop-zeros k n h =
    let whole : n ≡ k + (n - k) = omega arith in
    ap (λ (m : ℕ). drop k (zeros m)) whole
    ∙ ap (drop k) (sym (replicate-append-replicate k (n - k) 0))
    ∙ drop_at (zeros k) (zeros (n - k)) k (length-zeros k)

pub sets-zeros : (s : List ℕ) (n : ℕ) → length s ≤ n → sets (zeros n) 0 s ≡ padded n s
unfolding padded
sets-zeros s n h =
    sets-eq s (zeros n) 0 (rw (length-zeros n, zero-add (length s)) h)
    ∙ ap (λ (k : ℕ). s ++ drop k (zeros n)) (zero-add (length s))
    ∙ ap (λ (l : List ℕ). s ++ l) (drop-zeros (length s) n h)

-- zeros padded with zeros
pub padded-zeros : (k n : ℕ) → k ≤ n → padded n (zeros k) ≡ zeros n
unfolding padded
padded-zeros k n h =
    let whole : k + (n - k) ≡ n = omega arith in
    rw (length-zeros k) (replicate-append-replicate k (n - k) 0 ∙ ap zeros whole)

-- ---- a number by its bytes

get-le : (k v : ℕ) → v < 256 ^ k → get k (le k v) 0 ≡ v
unfolding put
get-le k v h =
    ap (λ (l : List ℕ). get k l 0) (sym (sets-whole (le k v) (zeros k) k (length-le k v) (length-zeros k)))
    ∙ get-put k (zeros k) 0 v (omega (arith, length-zeros k)) h

-- the number whose bytes are in a run
pub part-number : (k : ℕ) (l : List ℕ) (at v : ℕ) → v < 256 ^ k → part l at k ≡ le k v → get k l at ≡ v
part-number k l at v h e = sym (number-first k l at k (omega arith) refl) ∙ ap (λ (p : List ℕ). get k p 0) e ∙ get-le k v h

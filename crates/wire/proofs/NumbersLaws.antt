-- Laws of numbers in runs of bytes: what is stored is read back, and a store does not change the rest.
use mathlib.Core.Path.{◌≡◌, refl, ap, ◌∙◌}
use Prim.Native.Nat.{ℕ, zero, suc, ◌+◌, ◌*◌, ◌/◌, ◌%◌, ◌^◌, ◌≤◌, ◌<◌}
use native.Mathlib.Nat.{suc-add, add-suc, zero-add, add-zero, pow-succ', mul-add, mul_assoc, mod-add-div, mod-lt}
use native.Mathlib.Omega.{arith}
use mathlib.Core.List.{List, [], ◌∷◌, ◌++◌}
use lib.ListN.{length, get_or, set, length-set, get_or-append}
use lib.Seq.{sets, length-sets, get_or-set_same, get_or-set_other, get_or-append-add}
use Rattle.wire.specs.Numbers.{le, get, put}

-- ---- one byte after a run of stores

pub get_or_sets_before : (vs l : List ℕ) (i j : ℕ) → j < i → get_or (sets l i vs) j 0 ≡ get_or l j 0
get_or_sets_before [] l i j h = refl
get_or_sets_before (a ∷ vs) l i j h = get_or_sets_before vs (set l i a) (suc i) j (omega arith) ∙ get_or-set_other l i j a 0 (omega arith)

pub get_or-sets-after : (vs l : List ℕ) (i j : ℕ) → i + length vs ≤ j → get_or (sets l i vs) j 0 ≡ get_or l j 0
get_or-sets-after [] l i j h = refl
get_or-sets-after (a ∷ vs) l i j h = get_or-sets-after vs (set l i a) (suc i) j (omega arith) ∙ get_or-set_other l i j a 0 (omega arith)

pub get_or-sets-in : (vs l : List ℕ) (i j : ℕ) → j < length vs → i + length vs ≤ length l → get_or (sets l i vs) (i + j) 0 ≡ get_or vs j 0
get_or-sets-in [] l i j h k = absurd (omega arith)
get_or-sets-in (a ∷ vs) l i zero h k =
    rw add-zero (get_or_sets_before vs (set l i a) (suc i) i (omega arith) ∙ get_or-set_same l i a 0 (omega arith))
get_or-sets-in (a ∷ vs) l i (suc j) h k =
    rw (add-suc, ← suc-add) (get_or-sets-in vs (set l i a) (suc i) j (omega arith) (rw length-set (omega arith)))

-- ---- numbers

-- a number of j + k bytes is j low bytes and then k high ones
pub get-join : (j k : ℕ) (s : List ℕ) (at : ℕ) → get (j + k) s at ≡ get j s at + 256 ^ j * get k s (at + j)
unfolding get
get-join zero k s at = rw (zero-add k, add-zero at) (omega arith)
get-join (suc j) k s at =
    rw (suc-add, get-join j k s (suc at), suc-add, add-suc, pow-succ', mul-add, mul_assoc) (omega arith)

pub length-le : (k v : ℕ) → length (le k v) ≡ k
unfolding le
length-le zero v = refl
length-le (suc k) v = ap suc (length-le k (v / 256))

pub length-put : (k : ℕ) (l : List ℕ) (at v : ℕ) → length (put k l at v) ≡ length l
unfolding put
length-put k l at v = length-sets l at (le k v)

-- the same bytes give the same number
pub get-agree : (k : ℕ) (s t : List ℕ) (at bt : ℕ) → ((i : ℕ) → i < k → get_or s (at + i) 0 ≡ get_or t (bt + i) 0) → get k s at ≡ get k t bt
unfolding get
get-agree zero s t at bt f = refl
get-agree (suc k) s t at bt f =
    let first : get_or s at 0 ≡ get_or t bt 0 = rw (add-zero at, add-zero bt) at (f 0 (omega arith)) in
    let rest : get k s (suc at) ≡ get k t (suc bt) =
    get-agree k s t (suc at) (suc bt)
    (λ i h. rw (suc-add at i, suc-add bt i, ← add-suc at i, ← add-suc bt i) (f (suc i) (omega arith))) in
    rw (first, rest)

pub get-sets-before : (k : ℕ) (l : List ℕ) (at i : ℕ) (vs : List ℕ) → at + k ≤ i → get k (sets l i vs) at ≡ get k l at
get-sets-before k l at i vs h = get-agree k (sets l i vs) l at at (λ j b. get_or_sets_before vs l i (at + j) (omega arith))

pub get-sets-after : (k : ℕ) (l : List ℕ) (at i : ℕ) (vs : List ℕ) → i + length vs ≤ at → get k (sets l i vs) at ≡ get k l at
get-sets-after k l at i vs h = get-agree k (sets l i vs) l at at (λ j b. get_or-sets-after vs l i (at + j) (omega arith))

-- within the first of two runs, and within the second
pub get-append-left : (k : ℕ) (xs ys : List ℕ) (at : ℕ) → at + k ≤ length xs → get k (xs ++ ys) at ≡ get k xs at
get-append-left k xs ys at h = get-agree k (xs ++ ys) xs at at (λ j b. get_or-append xs ys 0 (at + j) (omega arith))

pub get-append-right : (k : ℕ) (xs ys : List ℕ) (n at : ℕ) → length xs ≡ n → get k (xs ++ ys) (n + at) ≡ get k ys at
get-append-right k xs ys n at e =
    get-agree k (xs ++ ys) ys (n + at) at
    (λ j b. rw (← e) (ap (λ (i : ℕ). get_or (xs ++ ys) i 0) (add-assoc' (length xs) at j) ∙ get_or-append-add xs ys (at + j) 0))
  where
    add-assoc' : (a b c : ℕ) → a + b + c ≡ a + (b + c)
    add-assoc' a b c = omega arith

-- what is stored is read back
pub get-put : (k : ℕ) (l : List ℕ) (at v : ℕ) → at + k ≤ length l → v < 256 ^ k → get k (put k l at v) at ≡ v
unfolding get put le
get-put zero l at v h f = omega arith
get-put (suc k) l at v h f =
    rw (
      get_or_sets_before (le k (v / 256)) (set l at (v % 256)) (suc at) at (omega arith),
      get_or-set_same l at (v % 256) 0 (omega arith),
      get-put k (set l at (v % 256)) (suc at) (v / 256) (rw length-set (omega arith)) (below k v f),
    )
    (omega arith)
  where
    below : (k v : ℕ) → v < 256 ^ suc k → v / 256 < 256 ^ k
    below k v f = let g : v < 256 * 256 ^ k = rw pow-succ' at f in omega arith

-- a number stored as its j low bytes and then its k high ones
put-join : (j k : ℕ) (l : List ℕ) (at low high : ℕ) → low < 256 ^ j → put k (put j l at low) (at + j) high ≡ put (j + k) l at (low + 256 ^ j * high)
unfolding put le
put-join zero k l at low high h =
    let none : low + 256 ^ 0 * high ≡ high = omega arith in
    rw (add-zero at, zero-add k, none)
put-join (suc j) k l at low high h =
    let below : low < 256 * 256 ^ j = rw pow-succ' at h in
    let whole : 256 ^ suc j * high ≡ 256 * (256 ^ j * high) = rw (pow-succ', mul_assoc) in
    let first : (low + 256 ^ suc j * high) % 256 ≡ low % 256 = rw whole (omega arith) in
    let rest : (low + 256 ^ suc j * high) / 256 ≡ low / 256 + 256 ^ j * high = rw whole (omega arith) in
    rw (suc-add j k, first, rest, add-suc at j, ← suc-add at j)
    (put-join j k (set l at (low % 256)) (suc at) (low / 256) high (omega arith))

pub put-halves : (j k : ℕ) (l : List ℕ) (at v : ℕ) → put k (put j l at (v % 256 ^ j)) (at + j) (v / 256 ^ j) ≡ put (j + k) l at v
put-halves j k l at v =
    put-join j k l at (v % 256 ^ j) (v / 256 ^ j) (mod-lt v (power_pos j)) ∙ rw (mod-add-div v (256 ^ j))
  where
    power_pos : (j : ℕ) → 0 < 256 ^ j
    power_pos zero = omega arith
    power_pos (suc j) = rw pow-succ' (omega (arith, power_pos j))

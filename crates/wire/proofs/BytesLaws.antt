-- Laws of runs of bytes: what is stored is a byte, what is read fits its width, and the test for equality.
use mathlib.Core.Path.{◌≡◌, refl, ap₂}
use mathlib.Core.Bool.{true}
use Prim.Native.Nat.{ℕ, zero, suc, ◌-◌, ◌/◌, ◌%◌, ◌^◌, ◌<◌}
use native.Mathlib.Nat.{pow-succ'}
use native.Mathlib.Omega.{arith}
use mathlib.Core.List.{List, [], ◌∷◌, ◌++◌}
use lib.ListN.{length, get_or, set, take, drop, replicate}
use lib.Seq.{sets}
use lib.Dec.{eqb}
use borrow.Author.Tests.{eqb-true, eq-eqb}
use Rattle.wire.specs.Numbers.{le, get, put}
use Rattle.wire.specs.Parts.{part, zeros, padded, repeated}
use Rattle.wire.specs.Layout.{Field, stores, form}
use Rattle.wire.specs.Bytes.{Bytes, same, all_zero}
use Rattle.wire.proofs.ChoiceLaws.{and_left, and_right}

pub bytes-tail : (x : ℕ) (l : List ℕ) → Bytes (x ∷ l) → Bytes l
bytes-tail x l b i = b (suc i)

pub bytes-cons : (x : ℕ) (l : List ℕ) → x < 256 → Bytes l → Bytes (x ∷ l)
bytes-cons x l h b zero = h
bytes-cons x l h b (suc i) = b i

pub bytes-set : (l : List ℕ) (i a : ℕ) → Bytes l → a < 256 → Bytes (set l i a)
bytes-set [] i a b h = b
bytes-set (x ∷ l) zero a b h = bytes-cons a l h (bytes-tail x l b)
bytes-set (x ∷ l) (suc i) a b h = bytes-cons x (set l i a) (b 0) (bytes-set l i a (bytes-tail x l b) h)

pub bytes-sets : (vs l : List ℕ) (i : ℕ) → Bytes l → Bytes vs → Bytes (sets l i vs)
bytes-sets [] l i b v = b
bytes-sets (a ∷ vs) l i b v = bytes-sets vs (set l i a) (suc i) (bytes-set l i a b (v zero)) (bytes-tail a vs v)

pub bytes-append : (xs ys : List ℕ) → Bytes xs → Bytes ys → Bytes (xs ++ ys)
bytes-append [] ys b c = c
bytes-append (x ∷ xs) ys b c = bytes-cons x (xs ++ ys) (b 0) (bytes-append xs ys (bytes-tail x xs b) c)

pub bytes-nil : Bytes []
bytes-nil i = omega arith

pub bytes-replicate : (n a : ℕ) → a < 256 → Bytes (replicate n a)
bytes-replicate zero a h = bytes-nil
bytes-replicate (suc n) a h = bytes-cons a (replicate n a) h (bytes-replicate n a h)

pub bytes_drop : (n : ℕ) (l : List ℕ) → Bytes l → Bytes (drop n l)
bytes_drop zero l b = b
bytes_drop (suc n) [] b = b
bytes_drop (suc n) (x ∷ l) b = bytes_drop n l (bytes-tail x l b)

pub bytes_take : (n : ℕ) (l : List ℕ) → Bytes l → Bytes (take n l)
bytes_take zero l b = bytes-nil
bytes_take (suc n) [] b = b
bytes_take (suc n) (x ∷ l) b = bytes-cons x (take n l) (b 0) (bytes_take n l (bytes-tail x l b))

pub bytes-part : (l : List ℕ) (b n : ℕ) → Bytes l → Bytes (part l b n)
bytes-part l b n h = bytes_take n (drop b l) (bytes_drop b l h)

pub bytes-zeros : (n : ℕ) → Bytes (zeros n)
bytes-zeros n = bytes-replicate n 0 (omega arith)

pub bytes-padded : (n : ℕ) (l : List ℕ) → Bytes l → Bytes (padded n l)
unfolding padded
bytes-padded n l b = bytes-append l (zeros (n - length l)) b (bytes-zeros (n - length l))

pub bytes-repeated : (n : ℕ) (l : List ℕ) → Bytes l → Bytes (repeated n l)
unfolding repeated
bytes-repeated zero l b = bytes-nil
bytes-repeated (suc n) l b = bytes-append l (repeated n l) b (bytes-repeated n l b)

pub bytes_le : (k v : ℕ) → Bytes (le k v)
unfolding le
bytes_le zero v = bytes-nil
bytes_le (suc k) v = bytes-cons (v % 256) (le k (v / 256)) (omega arith) (bytes_le k (v / 256))

pub bytes-stores : (fs : List Field) (l : List ℕ) → Bytes l → Bytes (stores fs l)
unfolding put
bytes-stores [] l b = b
bytes-stores (f ∷ fs) l b = bytes-stores fs (put f.1 l f.0 f.2) (bytes-sets (le f.1 f.2) l f.0 b (bytes_le f.1 f.2))

pub bytes-form : (n : ℕ) (fs : List Field) → Bytes (form n fs)
unfolding form
bytes-form n fs = bytes-stores fs (zeros n) (bytes-zeros n)

pub get-fits : (k : ℕ) (l : List ℕ) (at : ℕ) → Bytes l → get k l at < 256 ^ k
unfolding get
get-fits zero l at b = omega arith
get-fits (suc k) l at b = rw pow-succ' (omega (arith, b at, get-fits k l (suc at) b))

-- ---- equality

pub same_refl : (l : List ℕ) → same l l ≡ true
unfolding same
same_refl [] = refl
same_refl (x ∷ l) = rw (eq-eqb x x refl, same_refl l)

pub same_true : (a b : List ℕ) → same a b ≡ true → a ≡ b
unfolding same
same_true [] [] h = refl
same_true [] (b ∷ ys) h = cc
same_true (a ∷ xs) [] h = cc
same_true (a ∷ xs) (b ∷ ys) h =
    ap₂ (λ (x : ℕ) (l : List ℕ). x ∷ l)
    (eqb-true a b (and_left (eqb a b) (same xs ys) h))
    (same_true xs ys (and_right (eqb a b) (same xs ys) h))

-- ---- zeros

-- every byte of a run of zeros is 0 ..
pub all-zero-true : (l : List ℕ) → all_zero l ≡ true → (i : ℕ) → get_or l i 0 ≡ 0
unfolding all_zero
all-zero-true [] h i = refl
all-zero-true (x ∷ l) h zero = eqb-true x 0 (and_left (eqb x 0) (all_zero l) h)
all-zero-true (x ∷ l) h (suc i) = all-zero-true l (and_right (eqb x 0) (all_zero l) h) i

-- .. and a run in which every byte is 0 is a run of zeros
pub zero-all-true : (l : List ℕ) → ((i : ℕ) → i < length l → get_or l i 0 ≡ 0) → all_zero l ≡ true
unfolding all_zero
zero-all-true [] h = refl
zero-all-true (x ∷ l) h = rw (eq-eqb x 0 (h 0 (omega arith)), zero-all-true l (λ i b. h (suc i) (omega arith)))

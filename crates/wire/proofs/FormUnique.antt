-- A run of bytes is the form of the fields that are read from it, if every other byte of it is 0.
use mathlib.Core.Path.{◌≡◌, refl, sym, ap, ◌∙◌}
use mathlib.Core.Bool.{true}
use Prim.Native.Nat.{ℕ, zero, suc, ◌+◌, ◌-◌, ◌*◌, ◌/◌, ◌%◌, ◌≤◌, ◌<◌}
use native.Mathlib.Nat.{add-zero}
use native.Mathlib.Omega.{arith}
use native.Mathlib.Decide.{dec_lt}
use mathlib.Core.List.{List, [], ◌∷◌}
use lib.ListN.{length, get_or}
use lib.Seq.{sets, ext_get_or}
use lib.Dec.{leb}
use borrow.Author.Tests.{lt-ltb, le-ltb, le-leb}
use Rattle.wire.specs.Numbers.{le, get, put}
use Rattle.wire.specs.Parts.{part, zeros}
use Rattle.wire.specs.Layout.{Field, stores, form, ordered, Reads, outside}
use Rattle.wire.specs.Bytes.{Bytes}
use Rattle.wire.proofs.ChoiceLaws.{and_right}
use Rattle.wire.proofs.NumbersLaws.{get_or_sets_before, get_or-sets-after, get_or-sets-in, length-le, length-put}
use Rattle.wire.proofs.PartsLaws.{length_part, length-zeros, get_or-zeros, get_or_part}
use Rattle.wire.proofs.LayoutLaws.{length-form, ordered_end}

-- the bytes of a number that is read are the bytes at its place
pub le-get : (k : ℕ) (s : List ℕ) (at j : ℕ) → Bytes s → j < k → get_or (le k (get k s at)) j 0 ≡ get_or s (at + j) 0
unfolding le get
le-get zero s at j b h = absurd (omega arith)
le-get (suc k) s at zero b h = rw (add-zero at) (low (get_or s at 0) (get k s (suc at)) (b at))
  where
    low : (a x : ℕ) → a < 256 → (a + 256 * x) % 256 ≡ a
    low a x h = omega arith
le-get (suc k) s at (suc j) b h =
    rw (high (get_or s at 0) (get k s (suc at)) (b at), le-get k s (suc at) j b (omega arith)) (ap (λ (i : ℕ). get_or s i 0) (shift at j))
  where
    high : (a x : ℕ) → a < 256 → (a + 256 * x) / 256 ≡ x
    high a x h = omega arith

    shift : (a j : ℕ) → suc a + j ≡ a + suc j
    shift a j = omega arith

-- a number's bytes are the bytes that it was read from
pub le-part : (k : ℕ) (l : List ℕ) (at : ℕ) → Bytes l → at + k ≤ length l → le k (get k l at) ≡ part l at k
le-part k l at b h =
    ext_get_or 0 (le k (get k l at)) (part l at k) (length-le k (get k l at) ∙ sym (length_part l at k h)) (λ j q.
    let below : j < k = rw (length-le k (get k l at)) at q in
    le-get k l at j b below ∙ sym (get_or_part l at k j below))

-- one byte of a number that is stored
put_in : (w : ℕ) (z : List ℕ) (at v i : ℕ) → at + w ≤ length z → at ≤ i → i < at + w → get_or (put w z at v) i 0 ≡ get_or (le w v) (i - at) 0
unfolding put
put_in w z at v i fits low high =
    let place : at + (i - at) ≡ i = omega arith in
    ap (λ (j : ℕ). get_or (sets z at (le w v)) j 0) (sym place)
    ∙ get_or-sets-in (le w v) z at (i - at) (rw (length-le w v) (omega arith)) (rw (length-le w v) fits)

-- .. and if the number is the one read from s at that place
put-read : (w : ℕ) (s z : List ℕ) (at v i : ℕ) → Bytes s → get w s at ≡ v → at + w ≤ length z → at ≤ i → i < at + w
    → get_or (put w z at v) i 0 ≡ get_or s i 0
put-read w s z at v i b e fits low high =
    let place : at + (i - at) ≡ i = omega arith in
    put_in w z at v i fits low high
    ∙ ap (λ (x : ℕ). get_or (le w x) (i - at) 0) (sym e)
    ∙ le-get w s at (i - at) b (omega arith)
    ∙ ap (λ (j : ℕ). get_or s j 0) place

put-before : (w : ℕ) (z : List ℕ) (at v i : ℕ) → i < at → get_or (put w z at v) i 0 ≡ get_or z i 0
unfolding put
put-before w z at v i h = get_or_sets_before (le w v) z at i h

put-after : (w : ℕ) (z : List ℕ) (at v i : ℕ) → at + w ≤ i → get_or (put w z at v) i 0 ≡ get_or z i 0
unfolding put
put-after w z at v i h = get_or-sets-after (le w v) z at i (rw (length-le w v) h)

-- field by field: if the fields are read from s, and s has the run's bytes elsewhere, then s is the run with the fields stored
stores-read : (fs : List Field) (from n : ℕ) (s z : List ℕ) → Bytes s → ordered from n fs ≡ true → n ≤ length z → Reads fs s
    → ((i : ℕ) → outside fs i ≡ true → get_or s i 0 ≡ get_or z i 0) → (i : ℕ) → get_or s i 0 ≡ get_or (stores fs z) i 0
stores-read [] from n s z b o h r rest i = rest i refl
stores-read (f ∷ fs) from n s z b o h r rest i =
    stores-read fs (f.0 + f.1) n s (put f.1 z f.0 f.2) b o' (rw (length-put f.1 z f.0 f.2) h) r.1 next i
  where
    o' : ordered (f.0 + f.1) n fs ≡ true
    o' = and_right (leb from f.0) (ordered (f.0 + f.1) n fs) o

    fits : f.0 + f.1 ≤ n
    fits = ordered_end fs (f.0 + f.1) n o'

    next : (i : ℕ) → outside fs i ≡ true → get_or s i 0 ≡ get_or (put f.1 z f.0 f.2) i 0
    next i out = go (dec_lt i f.0) (dec_lt i (f.0 + f.1))
      where
        go : Dec (i < f.0) → Dec (i < f.0 + f.1) → get_or s i 0 ≡ get_or (put f.1 z f.0 f.2) i 0
        go (yes p) q = rest i (rw (lt-ltb i f.0 p) out) ∙ sym (put-before f.1 z f.0 f.2 i p)
        go (no p) (yes q) = sym (put-read f.1 s z f.0 f.2 i b r.0 (omega (arith, fits)) (omega arith) q)
        go (no p) (no q) =
            rest i (rw (le-ltb i f.0 (omega arith), le-leb (f.0 + f.1) i (omega arith)) out)
            ∙ sym (put-after f.1 z f.0 f.2 i (omega arith))

pub form-unique : (n : ℕ) (fs : List Field) (s : List ℕ) → Bytes s → length s ≡ n → ordered 0 n fs ≡ true → Reads fs s
    → ((i : ℕ) → outside fs i ≡ true → get_or s i 0 ≡ 0) → s ≡ form n fs
unfolding form
form-unique n fs s b size o r rest =
    ext_get_or 0 s (stores fs (zeros n)) (size ∙ sym (length-form n fs))
    (λ i h. stores-read fs 0 n s (zeros n) b o (rw (length-zeros n) (omega arith)) r (λ j out. rest j out ∙ sym (get_or-zeros n j)) i)

-- the same fields stored over two runs that agree at every other place
pub stores_same : (fs : List Field) (from n : ℕ) (s t : List ℕ) → ordered from n fs ≡ true → n ≤ length s → length s ≡ length t
    → ((i : ℕ) → outside fs i ≡ true → get_or s i 0 ≡ get_or t i 0) → stores fs s ≡ stores fs t
stores_same [] from n s t o h e rest = ext_get_or 0 s t e (λ i q. rest i refl)
stores_same (f ∷ fs) from n s t o h e rest =
    stores_same fs (f.0 + f.1) n (put f.1 s f.0 f.2) (put f.1 t f.0 f.2) o' (rw (length-put f.1 s f.0 f.2) h)
    (length-put f.1 s f.0 f.2 ∙ e ∙ sym (length-put f.1 t f.0 f.2)) next
  where
    o' : ordered (f.0 + f.1) n fs ≡ true
    o' = and_right (leb from f.0) (ordered (f.0 + f.1) n fs) o

    fits : f.0 + f.1 ≤ n
    fits = ordered_end fs (f.0 + f.1) n o'

    next : (i : ℕ) → outside fs i ≡ true → get_or (put f.1 s f.0 f.2) i 0 ≡ get_or (put f.1 t f.0 f.2) i 0
    next i out = go (dec_lt i f.0) (dec_lt i (f.0 + f.1))
      where
        go : Dec (i < f.0) → Dec (i < f.0 + f.1) → get_or (put f.1 s f.0 f.2) i 0 ≡ get_or (put f.1 t f.0 f.2) i 0
        go (yes p) q =
            put-before f.1 s f.0 f.2 i p
            ∙ rest i (rw (lt-ltb i f.0 p) out)
            ∙ sym (put-before f.1 t f.0 f.2 i p)
        go (no p) (yes q) =
            put_in f.1 s f.0 f.2 i (omega (arith, fits)) (omega arith) q
            ∙ sym (put_in f.1 t f.0 f.2 i (omega (arith, fits, e)) (omega arith) q)
        go (no p) (no q) =
            put-after f.1 s f.0 f.2 i (omega arith)
            ∙ rest i (rw (le-ltb i f.0 (omega arith), le-leb (f.0 + f.1) i (omega arith)) out)
            ∙ sym (put-after f.1 t f.0 f.2 i (omega arith))

-- the fields stored over a run that is 0 at every other place give the form
pub form-stored : (n : ℕ) (fs : List Field) (s : List ℕ) → length s ≡ n → ordered 0 n fs ≡ true
    → ((i : ℕ) → outside fs i ≡ true → get_or s i 0 ≡ 0) → stores fs s ≡ form n fs
unfolding form
form-stored n fs s size o rest =
    stores_same fs 0 n s (zeros n) o (omega arith) (size ∙ sym (length-zeros n)) (λ i out. rest i out ∙ sym (get_or-zeros n i))

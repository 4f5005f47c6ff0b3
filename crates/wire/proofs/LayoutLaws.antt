-- THE LAW of layouts: what is stored is read back, and every other byte is unchanged.
use mathlib.Core.Path.{◌≡◌, refl, ap, ◌∙◌}
use mathlib.Core.Bool.{Bool, true, false, ◌||◌}
use Prim.Native.Nat.{ℕ, ◌+◌, ◌≤◌}
use native.Mathlib.Omega.{arith}
use mathlib.Core.List.{List, [], ◌∷◌, ◌++◌}
use lib.ListN.{length, get_or}
use lib.Dec.{leb, ltb}
use borrow.Author.Tests.{leb-true, ltb-true}
use Rattle.wire.specs.Numbers.{le, get, put}
use Rattle.wire.specs.Parts.{zeros}
use Rattle.wire.specs.Layout.{Field, stores, form, ordered, Fit, Reads, outside}
use Rattle.wire.proofs.ChoiceLaws.{and_left, and_right}
use Rattle.wire.proofs.NumbersLaws.{get-put, get-append-left, get-sets-before, get_or_sets_before, get_or-sets-after, length-le, length-put}
use Rattle.wire.proofs.PartsLaws.{length-zeros, get_or-zeros, put_front}

pub length-stores : (fs : List Field) (s : List ℕ) → length (stores fs s) ≡ length s
length-stores [] s = refl
length-stores (f ∷ fs) s = length-stores fs (put f.1 s f.0 f.2) ∙ length-put f.1 s f.0 f.2

pub length-form : (n : ℕ) (fs : List Field) → length (form n fs) ≡ n
unfolding form
length-form n fs = length-stores fs (zeros n) ∙ length-zeros n

-- the fields are ordered from a place within the n bytes
pub ordered_end : (fs : List Field) (from n : ℕ) → ordered from n fs ≡ true → from ≤ n
ordered_end [] from n h = leb-true from n h
ordered_end (f ∷ fs) from n h =
    omega (
      arith,
      leb-true from f.0 (and_left (leb from f.0) _ h),
      ordered_end fs (f.0 + f.1) n (and_right (leb from f.0) (ordered (f.0 + f.1) n fs) h),
    )

-- stores from a place on do not change the numbers before it
get-stores : (fs : List Field) (from n : ℕ) (s : List ℕ) (k at : ℕ) → ordered from n fs ≡ true → at + k ≤ from → get k (stores fs s) at ≡ get k s at
unfolding put
get-stores [] from n s k at o h = refl
get-stores (f ∷ fs) from n s k at o h =
    let begins = leb-true from f.0 (and_left (leb from f.0) (ordered (f.0 + f.1) n fs) o) in
    get-stores fs (f.0 + f.1) n (put f.1 s f.0 f.2) k at (and_right (leb from f.0) (ordered (f.0 + f.1) n fs) o) (omega arith)
    ∙ get-sets-before k s at f.0 (le f.1 f.2) (omega arith)

pub reads-stores : (fs : List Field) (from n : ℕ) (s : List ℕ) → ordered from n fs ≡ true → n ≤ length s → Fit fs → Reads fs (stores fs s)
reads-stores [] from n s o h f = tt
reads-stores (f ∷ fs) from n s o h fit =
    let o' = and_right (leb from f.0) (ordered (f.0 + f.1) n fs) o in
    let s' = put f.1 s f.0 f.2 in
    let fits = ordered_end fs (f.0 + f.1) n o' in (
      get-stores fs (f.0 + f.1) n s' f.1 f.0 o' (omega arith) ∙ get-put f.1 s f.0 f.2 (omega arith) fit.0,
      reads-stores fs (f.0 + f.1) n s' o' (rw (length-put f.1 s f.0 f.2) h) fit.1,
    )

-- every field of a form is read back
pub reads-form : (n : ℕ) (fs : List Field) → ordered 0 n fs ≡ true → Fit fs → Reads fs (form n fs)
unfolding form
reads-form n fs o f = reads-stores fs 0 n (zeros n) o (rw (length-zeros n) (omega arith)) f

-- every other byte is unchanged
pub stores-outside : (fs : List Field) (s : List ℕ) (i : ℕ) → outside fs i ≡ true → get_or (stores fs s) i 0 ≡ get_or s i 0
unfolding put
stores-outside [] s i h = refl
stores-outside (f ∷ fs) s i h =
    stores-outside fs (put f.1 s f.0 f.2) i (and_right (ltb i f.0 || leb (f.0 + f.1) i) (outside fs i) h)
    ∙ go (ltb i f.0) (leb (f.0 + f.1) i) refl refl (and_left (ltb i f.0 || leb (f.0 + f.1) i) (outside fs i) h)
  where
    go : (a b : Bool) → ltb i f.0 ≡ a → leb (f.0 + f.1) i ≡ b → (a || b) ≡ true → get_or (put f.1 s f.0 f.2) i 0 ≡ get_or s i 0
    go true b p q e = get_or_sets_before (le f.1 f.2) s f.0 i (ltb-true i f.0 p)
    go false true p q e =
        get_or-sets-after (le f.1 f.2) s f.0 i (rw (length-le f.1 f.2) (leb-true (f.0 + f.1) i q))
    go false false p q e = absurd (let z : ◌≡◌ {A = ℕ} 0 1 = cc in omega arith)

-- .. and in a form it is 0
pub form-outside : (n : ℕ) (fs : List Field) (i : ℕ) → outside fs i ≡ true → get_or (form n fs) i 0 ≡ 0
unfolding form
form-outside n fs i h = stores-outside fs (zeros n) i h ∙ get_or-zeros n i

-- ---- groups of fields

pub fit_append : (fs gs : List Field) → Fit fs → Fit gs → Fit (fs ++ gs)
fit_append [] gs f g = g
fit_append (x ∷ fs) gs f g = (f.0, fit_append fs gs f.1 g)

pub stores-append : (fs gs : List Field) (s : List ℕ) → stores (fs ++ gs) s ≡ stores gs (stores fs s)
stores-append [] gs s = refl
stores-append (f ∷ fs) gs s = stores-append fs gs (put f.1 s f.0 f.2)

-- stores within the first of two runs
pub stores-front : (fs : List Field) (from n : ℕ) (xs ys : List ℕ) → ordered from n fs ≡ true → n ≤ length xs → stores fs (xs ++ ys) ≡ stores fs xs ++ ys
stores-front [] from n xs ys o h = refl
stores-front (f ∷ fs) from n xs ys o h =
    let o' = and_right (leb from f.0) (ordered (f.0 + f.1) n fs) o in
    let fits = ordered_end fs (f.0 + f.1) n o' in
    ap (stores fs) (put_front f.1 xs ys f.0 f.2 (omega arith))
    ∙ stores-front fs (f.0 + f.1) n (put f.1 xs f.0 f.2) ys o' (rw (length-put f.1 xs f.0 f.2) h)

pub reads-append : (fs gs : List Field) (s : List ℕ) → Reads (fs ++ gs) s → Reads fs s × Reads gs s
reads-append [] gs s r = (tt, r)
reads-append (x ∷ fs) gs s r = let w = reads-append fs gs s r.1 in ((r.0, w.0), w.1)

pub reads_both : (fs gs : List Field) (s : List ℕ) → Reads fs s → Reads gs s → Reads (fs ++ gs) s
reads_both [] gs s f g = g
reads_both (x ∷ fs) gs s f g = (f.0, reads_both fs gs s f.1 g)

-- what is read from the first of two runs is read from both
pub reads-front : (fs : List Field) (from n : ℕ) (xs ys : List ℕ) → ordered from n fs ≡ true → n ≤ length xs → Reads fs xs → Reads fs (xs ++ ys)
reads-front [] from n xs ys o h r = tt
reads-front (f ∷ fs) from n xs ys o h r =
    let o' = and_right (leb from f.0) (ordered (f.0 + f.1) n fs) o in
    let fits = ordered_end fs (f.0 + f.1) n o' in
    (get-append-left f.1 xs ys f.0 (omega arith) ∙ r.0, reads-front fs (f.0 + f.1) n xs ys o' h r.1)

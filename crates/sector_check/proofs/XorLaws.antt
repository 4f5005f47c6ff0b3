-- Laws of the exclusive or, of two numbers and of several.
use mathlib.Core.Path.{◌≡◌, refl, sym, ap, ap₂, ◌∙◌}
use Prim.Native.Nat.{ℕ, zero, suc, ◌+◌, ◌*◌, ◌/◌, ◌%◌, ◌^◌, ◌<◌}
use native.Mathlib.Nat.{mod-lt, add-zero, add-suc, mul-zero, mul-suc, zero-lt-suc}
use native.Mathlib.Omega.{arith}
use lib.Arith.{bin_ind}
use lib.Pow.{pow_pos}
use lib.Bits.{bit_xor, differ, xor_step, xor_shr, xor_mod, xor_comm, xor_self, xor_zero_r, xor_lt}
use Rattle.sector_check.specs.Xor.{xor_to}

-- ---- of two numbers

differ-assoc : (a b c : ℕ) → a < 2 → b < 2 → c < 2 → differ (differ a b) c ≡ differ a (differ b c)
differ-assoc zero b c p q r = refl
differ-assoc (suc zero) zero c p q r = refl
differ-assoc (suc zero) (suc zero) zero p q r = refl
differ-assoc (suc zero) (suc zero) (suc zero) p q r = refl
differ-assoc (suc zero) (suc zero) (suc (suc c)) p q r = absurd (omega arith)
differ-assoc (suc zero) (suc (suc b)) c p q r = absurd (omega arith)
differ-assoc (suc (suc a)) b c p q r = absurd (omega arith)

xor-half : (a b : ℕ) → bit_xor a b / 2 ≡ bit_xor (a / 2) (b / 2)
xor-half a b = xor_shr a b 1

-- of two digits the exclusive or says whether they differ
xor-differ : (a b : ℕ) → a < 2 → b < 2 → bit_xor a b ≡ differ a b
xor-differ zero b p q = refl
xor-differ (suc zero) zero p q = refl
xor-differ (suc zero) (suc zero) p q = refl
xor-differ (suc zero) (suc (suc b)) p q = absurd (omega arith)
xor-differ (suc (suc a)) b p q = absurd (omega arith)

xor-odd : (a b : ℕ) → bit_xor a b % 2 ≡ differ (a % 2) (b % 2)
xor-odd a b = xor_mod a b 1 ∙ xor-differ (a % 2) (b % 2) (mod-lt a (zero-lt-suc 1)) (mod-lt b (zero-lt-suc 1))

pub xor_assoc : (a b c : ℕ) → bit_xor (bit_xor a b) c ≡ bit_xor a (bit_xor b c)
xor_assoc =
    bin_ind (λ (n : ℕ). (b c : ℕ) → bit_xor (bit_xor n b) c ≡ bit_xor n (bit_xor b c)) (λ b c. refl) (λ n ih b c.
    xor_step (bit_xor n b) c
    ∙ ap₂ (λ (x y : ℕ). bit_xor x (c / 2) * 2 + differ y (c % 2)) (xor-half n b) (xor-odd n b)
    ∙ ap₂ (λ (x y : ℕ). x * 2 + y) (ih (b / 2) (c / 2))
    (differ-assoc (n % 2) (b % 2) (c % 2) (mod-lt n (zero-lt-suc 1)) (mod-lt b (zero-lt-suc 1)) (mod-lt c (zero-lt-suc 1)))
    ∙ sym (ap₂ (λ (x y : ℕ). bit_xor (n / 2) x * 2 + differ (n % 2) y) (xor-half b c) (xor-odd b c))
    ∙ sym (xor_step n (bit_xor b c)))

-- a second time takes the first away
pub xor-again : (a b : ℕ) → bit_xor (bit_xor a b) b ≡ a
xor-again a b = xor_assoc a b b ∙ ap (bit_xor a) (xor_self b) ∙ xor_zero_r a

pub xor-back : (a b : ℕ) → bit_xor a (bit_xor a b) ≡ b
xor-back a b = sym (xor_assoc a a b) ∙ ap (λ (x : ℕ). bit_xor x b) (xor_self a)

pub xor-zero-eq : (a b : ℕ) → bit_xor a b ≡ 0 → a ≡ b
xor-zero-eq a b e = sym (xor-again a b) ∙ ap (λ (x : ℕ). bit_xor x b) e

-- four numbers, two and two
pub xor-pairs : (a b c d : ℕ) → bit_xor (bit_xor a b) (bit_xor c d) ≡ bit_xor (bit_xor a c) (bit_xor b d)
xor-pairs a b c d =
    xor_assoc a b (bit_xor c d)
    ∙ ap (bit_xor a) (sym (xor_assoc b c d) ∙ ap (λ (x : ℕ). bit_xor x d) (xor_comm b c) ∙ xor_assoc c b d)
    ∙ sym (xor_assoc a c (bit_xor b d))

-- ---- of several

pub xor_to-more : (n : ℕ) (f : ℕ → ℕ) → bit_xor (xor_to n f) (f n) ≡ xor_to (suc n) f
unfolding xor_to
xor_to-more n f = refl

-- a function that passes through the exclusive or of two numbers passes through that of several
pub xor_to-through : (L : ℕ → ℕ) → L 0 ≡ 0 → ((a b : ℕ) → L (bit_xor a b) ≡ bit_xor (L a) (L b)) → (n : ℕ) (f : ℕ → ℕ)
    → L (xor_to n f) ≡ xor_to n (λ i. L (f i))
unfolding xor_to
xor_to-through L z l zero f = z
xor_to-through L z l (suc n) f = l (xor_to n f) (f n) ∙ ap (λ (x : ℕ). bit_xor x (L (f n))) (xor_to-through L z l n f)

pub xor_to-same : (n : ℕ) (f g : ℕ → ℕ) → ((i : ℕ) → i < n → f i ≡ g i) → xor_to n f ≡ xor_to n g
unfolding xor_to
xor_to-same zero f g h = refl
xor_to-same (suc n) f g h = ap₂ bit_xor (xor_to-same n f g (λ i p. h i (omega arith))) (h n (omega arith))

pub xor_to-both : (n : ℕ) (f g : ℕ → ℕ) → xor_to n (λ i. bit_xor (f i) (g i)) ≡ bit_xor (xor_to n f) (xor_to n g)
unfolding xor_to
xor_to-both zero f g = refl
xor_to-both (suc n) f g =
    ap (λ (x : ℕ). bit_xor x (bit_xor (f n) (g n))) (xor_to-both n f g) ∙ xor-pairs (xor_to n f) (xor_to n g) (f n) (g n)

pub xor_to-zeros : (n : ℕ) → xor_to n (λ i. 0) ≡ 0
unfolding xor_to
xor_to-zeros zero = refl
xor_to-zeros (suc n) = ap (λ (x : ℕ). bit_xor x 0) (xor_to-zeros n)

-- by rows or by columns
pub xor_to-swap : (m n : ℕ) (f : ℕ → ℕ → ℕ) → xor_to m (λ j. xor_to n (f j)) ≡ xor_to n (λ i. xor_to m (λ j. f j i))
unfolding xor_to
xor_to-swap zero n f = sym (xor_to-zeros n)
xor_to-swap (suc m) n f = rw (xor_to-swap m n f) (sym (xor_to-both n (λ i. xor_to m (λ j. f j i)) (f m)))

xor_to-add : (m n : ℕ) (f : ℕ → ℕ) → xor_to (m + n) f ≡ bit_xor (xor_to m f) (xor_to n (λ i. f (m + i)))
unfolding xor_to
xor_to-add m zero f = ap (λ (k : ℕ). xor_to k f) (add-zero m) ∙ sym (xor_zero_r (xor_to m f))
xor_to-add m (suc n) f =
    ap (λ (k : ℕ). xor_to k f) (add-suc m n)
    ∙ ap (λ (x : ℕ). bit_xor x (f (m + n))) (xor_to-add m n f)
    ∙ xor_assoc (xor_to m f) (xor_to n (λ i. f (m + i))) (f (m + n))

-- in m groups of n
pub xor_to-groups : (m n : ℕ) (f : ℕ → ℕ) → xor_to (n * m) f ≡ xor_to m (λ j. xor_to n (λ i. f (n * j + i)))
unfolding xor_to
xor_to-groups zero n f = ap (λ (k : ℕ). xor_to k f) (mul-zero n)
xor_to-groups (suc m) n f =
    ap (λ (k : ℕ). xor_to k f) (mul-suc n m)
    ∙ xor_to-add (n * m) n f
    ∙ ap (λ (x : ℕ). bit_xor x (xor_to n (λ i. f (n * m + i)))) (xor_to-groups m n f)

pub xor_to-lt : (k n : ℕ) (f : ℕ → ℕ) → ((i : ℕ) → i < n → f i < 2 ^ k) → xor_to n f < 2 ^ k
unfolding xor_to
xor_to-lt k zero f h = pow_pos k
xor_to-lt k (suc n) f h = xor_lt k (xor_to n f) (f n) (xor_to-lt k n f (λ i p. h i (omega arith))) (h n (omega arith))

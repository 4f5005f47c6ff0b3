-- Laws of numbers as text: how many digits there are, what they are, and what number they mean.
use mathlib.Core.Path.{◌≡◌, refl, sym, ap, ◌∙◌}
use mathlib.Core.Bool.{Bool, true, false}
use Prim.Native.Nat.{ℕ, zero, suc, ◌+◌, ◌-◌, ◌*◌, ◌/◌, ◌%◌, ◌^◌, ◌≤◌, ◌<◌}
use native.Mathlib.Nat.{add-zero, add-suc, pow-succ', mul_assoc, div-one, div-div-eq-div-mul, mod-add-div, mod-eq_of_lt}
use native.Mathlib.Omega.{arith}
use mathlib.Core.List.{List, [], ◌∷◌, ◌++◌, append_assoc, append-nil}
use lib.ListN.{length, length-append}
use lib.Dec.{ltb}
use borrow.Author.Tests.{lt-ltb, le-ltb, ltb-true, ltb-false}
use Rattle.std.specs.Prelude.{if◌then◌else◌}
use Rattle.console.specs.Text.{hex_digit, hex_digits, decimal_up_to, decimal_digits}

-- ---- hexadecimal

pub length-hex : (k v : ℕ) → length (hex_digits k v) ≡ k
unfolding hex_digits
length-hex zero v = refl
length-hex (suc k) v = length-append (hex_digits k (v / 16)) (hex_digit (v % 16) ∷ []) ∙ rw (length-hex k (v / 16)) (omega arith)

-- the digits of v / 16, and then the last one
pub hex-more : (k v : ℕ) → 0 < k → hex_digits (k - 1) (v / 16) ++ hex_digit (v % 16) ∷ [] ≡ hex_digits k v
unfolding hex_digits
hex-more zero v some = absurd (omega arith)
hex-more (suc k) v some = let e : suc k - 1 ≡ k = omega arith in rw e

-- the high j digits and then the low k ones
hex-join : (j k v : ℕ) → hex_digits j (v / 16 ^ k) ++ hex_digits k v ≡ hex_digits (j + k) v
unfolding hex_digits
hex-join j zero v = rw (add-zero j, div-one v) (append-nil (hex_digits j v))
hex-join j (suc k) v =
    rw (add-suc j k, pow-succ', ← div-div-eq-div-mul v 16 (16 ^ k), ← append_assoc, hex-join j k (v / 16))

-- the k low digits are those of the remainder modulo 16 ^ k
hex-low : (k low high : ℕ) → hex_digits k (low + 16 ^ k * high) ≡ hex_digits k low
unfolding hex_digits
hex-low zero low high = refl
hex-low (suc k) low high =
    let whole : 16 ^ suc k * high ≡ 16 * (16 ^ k * high) = rw (pow-succ', mul_assoc) in
    let last : (low + 16 ^ suc k * high) % 16 ≡ low % 16 = rw whole (omega arith) in
    let rest : (low + 16 ^ suc k * high) / 16 ≡ low / 16 + 16 ^ k * high = rw whole (omega arith) in
    rw (last, rest, hex-low k (low / 16) high)

pub hex-halves : (j k v : ℕ) → hex_digits j (v / 16 ^ k) ++ hex_digits k (v % 16 ^ k) ≡ hex_digits (j + k) v
hex-halves j k v =
    let low : hex_digits k v ≡ hex_digits k (v % 16 ^ k) =
    ap (hex_digits k) (sym (mod-add-div v (16 ^ k))) ∙ hex-low k (v % 16 ^ k) (v / 16 ^ k) in
    rw (← low) (hex-join j k v)

pub hex-two : (v : ℕ) → v < 256 → hex_digit (v / 16) ∷ hex_digit (v % 16) ∷ [] ≡ hex_digits 2 v
unfolding hex_digits
hex-two v h = let high : v / 16 % 16 ≡ v / 16 = mod-eq_of_lt (omega arith) in rw high

-- ---- decimal

-- a higher limit on the number of digits changes nothing
decimal-room : (f g v : ℕ) → v < f → v < g → decimal_up_to f v ≡ decimal_up_to g v
unfolding decimal_up_to
decimal-room zero g v p q = absurd (omega arith)
decimal-room (suc f) zero v p q = absurd (omega arith)
decimal-room (suc f) (suc g) v p q =
    go (ltb v 10) refl (λ (h : 10 ≤ v). decimal-room f g (v / 10) (omega arith) (omega arith))
  where
    go : (b : Bool) → ltb v 10 ≡ b → (10 ≤ v → decimal_up_to f (v / 10) ≡ decimal_up_to g (v / 10))
        → (if b then (48 + v) ∷ [] else decimal_up_to f (v / 10) ++ (48 + v % 10) ∷ [])
        ≡ (if b then (48 + v) ∷ [] else decimal_up_to g (v / 10) ++ (48 + v % 10) ∷ [])
    go true e rest = refl
    go false e rest = ap (λ (l : List ℕ). l ++ (48 + v % 10) ∷ []) (rest (ltb-false v 10 e))

pub decimal-small : (v : ℕ) → v < 10 → decimal_digits v ≡ (48 + v) ∷ []
unfolding decimal_digits decimal_up_to
decimal-small v h = rw (lt-ltb v 10 h)

pub decimal-more : (v : ℕ) → 10 ≤ v → decimal_digits v ≡ decimal_digits (v / 10) ++ (48 + v % 10) ∷ []
unfolding decimal_digits decimal_up_to
decimal-more v h = rw (le-ltb v 10 h) (ap (λ (l : List ℕ). l ++ (48 + v % 10) ∷ []) (decimal-room v (suc (v / 10)) (v / 10) (omega arith) (omega arith)))

-- a number below 10 ^ (k + 1) has at most k + 1 digits
pub decimal-most : (k v : ℕ) → v < 10 ^ suc k → length (decimal_digits v) ≤ suc k
decimal-most zero v h = rw (decimal-small v h) (omega arith)
decimal-most (suc k) v h =
    let g : v < 10 * 10 ^ suc k = rw pow-succ' at h in
    go (ltb v 10) refl (decimal-most k (v / 10) (omega arith))
  where
    go : (b : Bool) → ltb v 10 ≡ b → length (decimal_digits (v / 10)) ≤ suc k → length (decimal_digits v) ≤ suc (suc k)
    go true e rest = rw (decimal-small v (ltb-true v 10 e)) (omega arith)
    go false e rest = rw (decimal-more v (ltb-false v 10 e), length-append) (omega arith)

-- so a number of 64 bits, after a text, has at most 20
pub decimal-room-after : (text : List ℕ) (v : ℕ) → v < 2 ^ 64 → length (text ++ decimal_digits v) ≤ length text + 20
decimal-room-after text v h = rw length-append (omega (arith, decimal-most 19 v (omega arith)))

-- ---- what decimal digits mean

-- the number that decimal digits mean, after digits that mean n
unfoldable pub read_on : ℕ → List ℕ → ℕ
read_on n [] = n
read_on n (d ∷ l) = read_on (10 * n + (d - 48)) l

read-snoc : (l : List ℕ) (n d : ℕ) → read_on n (l ++ d ∷ []) ≡ 10 * read_on n l + (d - 48)
unfolding read_on
read-snoc [] n d = refl
read-snoc (x ∷ l) n d = read-snoc l (10 * n + (x - 48)) d

read-up-to : (f v : ℕ) → v < f → read_on 0 (decimal_up_to f v) ≡ v
unfolding read_on decimal_up_to
read-up-to zero v h = absurd (omega arith)
read-up-to (suc f) v h = go (ltb v 10) refl (λ (m : 10 ≤ v). read-up-to f (v / 10) (omega arith))
  where
    go : (b : Bool) → ltb v 10 ≡ b → (10 ≤ v → read_on 0 (decimal_up_to f (v / 10)) ≡ v / 10)
        → read_on 0 (if b then (48 + v) ∷ [] else decimal_up_to f (v / 10) ++ (48 + v % 10) ∷ []) ≡ v
    go true e rest = omega arith
    go false e rest = rw (read-snoc (decimal_up_to f (v / 10)) 0 (48 + v % 10), rest (ltb-false v 10 e)) (omega arith)

pub decimal-read : (v : ℕ) → read_on 0 (decimal_digits v) ≡ v
unfolding decimal_digits
decimal-read v = read-up-to (suc v) v (omega arith)

-- ---- examples in plain digits

0AF9 : hex_digits 4 0x0AF9 ≡ 48 ∷ 65 ∷ 70 ∷ 57 ∷ []
unfolding hex_digits
0AF9 = refl

decimal-0 : decimal_digits 0 ≡ 48 ∷ []
unfolding decimal_digits decimal_up_to
decimal-0 = refl

decimal-1907 : decimal_digits 1907 ≡ 49 ∷ 57 ∷ 48 ∷ 55 ∷ []
unfolding decimal_digits decimal_up_to
decimal-1907 = refl

-- Which row of the key table decides (W-206), and which codes and words there are.
use mathlib.Core.Path.{◌≡◌, refl, sym, ap, ◌∙◌}
use mathlib.Core.Bool.{Bool, true, false, ◌&&◌, ◌||◌}
use mathlib.Core.Logic.{◌↔◌}
use Prim.Native.Nat.{ℕ, ◌≤◌}
use native.Mathlib.Omega.{arith}
use mathlib.Core.List.{List, [], ◌∷◌, ◌++◌, map}
use lib.Dec.{eqb}
use borrow.Author.Tests.{eqb-true}
use Rattle.std.specs.Prelude.{if◌then◌else◌}
use Rattle.wire.specs.Numbers.{le, get, put}
use Rattle.wire.specs.Layout.{Field, form}
use Rattle.model.specs.Sizes.{sector_size}
use Rattle.model.specs.Device.{Device}
use Rattle.model.specs.Key.{word, KeyCheck, long_checks, fill_checks, timer_checks, feature_checks, table_checks, key_checks, Action, action_of, accepted, rejected, judged, judge_key}
use Rattle.model.specs.Fill.{interrupt}
use Rattle.model.specs.Owner.{set_lock}
use Rattle.model.specs.Image.{power_on}
use Rattle.model.specs.Examples.{fill_key, words_key, fresh}

-- every test holds
abbrev pub RowsPass : List KeyCheck → Type 0
RowsPass [] = Unit {0}
RowsPass (c ∷ cs) = (c.0 ≡ true) × RowsPass cs

-- the first row that fails has this code and this word
pub record FirstFails (cs : List KeyCheck) (code named : ℕ) : Type 0 where
  pub before : List KeyCheck
  pub behind : List KeyCheck
  pub rows : cs ≡ before ++ (false, code, named) ∷ behind
  pub pass : RowsPass before

row-decides : (before : List KeyCheck) (code named : ℕ) (behind : List KeyCheck) (a : Action) → RowsPass before
    → judged (before ++ (false, code, named) ∷ behind) a ≡ rejected code named
row-decides [] code named behind a p = refl
row-decides (c ∷ cs) code named behind a p = rw p.0 (row-decides cs code named behind a p.1)

first-failed : (cs : List KeyCheck) (a : Action) (code named : ℕ) → judged cs a ≡ rejected code named → FirstFails cs code named
first-failed [] a code named e = absurd (let z : ◌≡◌ {A = ℕ} 0 1 = cc in omega arith)
first-failed (c ∷ cs) a code named e = go c.0 refl e (first-failed cs a code named)
  where
    go : (b : Bool) → c.0 ≡ b → (if b then judged cs a else rejected c.1 c.2) ≡ rejected code named
        → (judged cs a ≡ rejected code named → FirstFails cs code named) → FirstFails (c ∷ cs) code named
    go true q e rest =
        let f = rest e in
        record { before = c ∷ f.before; behind = f.behind; rows = ap (λ (l : List KeyCheck). c ∷ l) f.rows; pass = (q, f.pass) }
    go false q e rest =
        let its-code : c.1 ≡ code = cc in
        let its-word : c.2 ≡ named = cc in
        record { before = []; behind = cs; rows = λ i. (q i, its-code i, its-word i) ∷ cs; pass = tt }

-- THE LAW of a refused key. "Checks, in order": code and word are those of the first row that fails, and no other.
pub key-rejected : (d : Device) (k : List ℕ) (code named : ℕ) → (judge_key d k ≡ rejected code named) ↔ FirstFails (key_checks d k) code named
unfolding judge_key
key-rejected d k code named = (
  first-failed (key_checks d k) (action_of d.visible k) code named,
  λ f.
      ap (λ (cs : List KeyCheck). judged cs (action_of d.visible k)) f.rows
      ∙ row-decides f.before code named f.behind (action_of d.visible k) f.pass,
)

-- an accepted key passes every row, and asks for what its words encode
all_pass : (cs : List KeyCheck) (a b : Action) → judged cs a ≡ accepted b → RowsPass cs × (b ≡ a)
all_pass [] a b e = (tt, cc)
all_pass (c ∷ cs) a b e = go c.0 refl e (all_pass cs a b)
  where
    go : (t : Bool) → c.0 ≡ t → (if t then judged cs a else rejected c.1 c.2) ≡ accepted b
        → (judged cs a ≡ accepted b → RowsPass cs × (b ≡ a)) → RowsPass (c ∷ cs) × (b ≡ a)
    go true q e rest = let r = rest e in ((q, r.0), r.1)
    go false q e rest = absurd (let z : ◌≡◌ {A = ℕ} 0 1 = cc in omega arith)

pub key-accepted : (d : Device) (k : List ℕ) (a : Action) → judge_key d k ≡ accepted a → RowsPass (key_checks d k) × (a ≡ action_of d.visible k)
unfolding judge_key
key-accepted d k a e = all_pass (key_checks d k) (action_of d.visible k) a e

-- ---- the refusals that there are

-- by code and word: the table of docs/refused-keys.md
abbrev pub refusals : List (ℕ × ℕ)
refusals =
    (0x0001, 1)
    ∷ (0x0002, 2)
    ∷ (0x0002, 6)
    ∷ (0x0004, 1)
    ∷ (0x0005, 2)
    ∷ (0x0006, 3)
    ∷ (0x0007, 3)
    ∷ (0x000A, 1)
    ∷ (0x000C, 1)
    ∷ (0x000D, 2)
    ∷ (0x000E, 3)
    ∷ (0x000F, 4)
    ∷ (0x0010, 0)
    ∷ (0x0011, 2)
    ∷ (0x0012, 255)
    ∷ []

abbrev pub listed : List (ℕ × ℕ) → ℕ → ℕ → Bool
listed [] code named = false
listed (r ∷ rs) code named = (eqb code r.0 && eqb named r.1) || listed rs code named

-- every row of these gives a listed refusal
abbrev Listed : List KeyCheck → Type 0
Listed [] = Unit {0}
Listed (c ∷ cs) = (listed refusals c.1 c.2 ≡ true) × Listed cs

judged-listed : (cs : List KeyCheck) (a : Action) (code named : ℕ) → Listed cs → judged cs a ≡ rejected code named → listed refusals code named ≡ true
judged-listed [] a code named l e = absurd (let z : ◌≡◌ {A = ℕ} 0 1 = cc in omega arith)
judged-listed (c ∷ cs) a code named l e = go c.0 e (judged-listed cs a code named l.1)
  where
    go : (b : Bool) → (if b then judged cs a else rejected c.1 c.2) ≡ rejected code named
        → (judged cs a ≡ rejected code named → listed refusals code named ≡ true) → listed refusals code named ≡ true
    go true e rest = rest e
    go false e rest =
        let its-code : c.1 ≡ code = cc in
        let its-word : c.2 ≡ named = cc in
        (λ i. listed refusals (sym its-code i) (sym its-word i)) ∙ l.0

rows-listed : (d : Device) (k : List ℕ) → Listed (key_checks d k)
unfolding key_checks
rows-listed d k = (refl, (refl, go (eqb (word k 0) 1) (eqb (word k 0) 2) (eqb (word k 0) 3) (eqb (word k 0) 4)))
  where
    timer-row : (b : Bool) → listed refusals (if b then 0x0006 else 0x0007) 3 ≡ true
    timer-row true = refl
    timer-row false = refl

    go : (a b c e : Bool)
        → Listed
        (if a then long_checks d.visible k
        else if b
        then fill_checks d.visible k
        else if c
        then timer_checks k
        else if e
        then feature_checks k
        else table_checks k)
    go true b c e = (refl, (refl, tt))
    go false true c e = (refl, (refl, (refl, tt)))
    go false false true e = (refl, (refl, (timer-row (eqb (word k 2) 1), tt)))
    go false false false true = (refl, (refl, (refl, (refl, tt))))
    go false false false false = (refl, (refl, tt))

-- a key is refused with one of these 15, and with no other ..
pub refusal-listed : (d : Device) (k : List ℕ) (code named : ℕ) → judge_key d k ≡ rejected code named → listed refusals code named ≡ true
unfolding judge_key
refusal-listed d k code named e = judged-listed (key_checks d k) (action_of d.visible k) code named (rows-listed d k) e

-- .. and each of them occurs: keys on a disk with V = 64, the last of them locked
abbrev refused_keys : List (Device × List Field)
refused_keys =
    (fresh, words_key 2 3 0 0 0)
    ∷ (fresh, fill_key 64 0)
    ∷ (fresh, fill_key 0 65)
    ∷ (fresh, words_key 3 3 1 10 0)
    ∷ (fresh, words_key 3 1 3 10 0)
    ∷ (fresh, words_key 3 1 1 9 0)
    ∷ (fresh, words_key 3 1 2 9 0)
    ∷ (fresh, words_key 1 3 0 0 0)
    ∷ (fresh, words_key 4 4 1 1 0)
    ∷ (fresh, words_key 4 1 4 1 0)
    ∷ (fresh, words_key 4 1 1 4 0)
    ∷ (fresh, words_key 4 1 1 1 2)
    ∷ (fresh, words_key 6 1 0 0 0)
    ∷ (fresh, words_key 5 1 1 0 0)
    ∷ (set_lock true fresh, words_key 5 1 2 0 0)
    ∷ []

pub refusals-occur : map (λ (x : Device × List Field). judge_key x.0 (form sector_size x.1)) refused_keys ≡ map (λ (r : ℕ × ℕ). rejected r.0 r.1) refusals
unfolding le get put form key_checks action_of judge_key interrupt set_lock power_on
refusals-occur = refl

abbrev AllSmall : List (ℕ × ℕ) → Type 0
AllSmall [] = Unit {0}
AllSmall (r ∷ rs) = (r.0 ≤ 0x12) × (r.1 ≤ 255) × AllSmall rs

listed_small : (rs : List (ℕ × ℕ)) (code named : ℕ) → AllSmall rs → listed rs code named ≡ true → (code ≤ 0x12) × (named ≤ 255)
listed_small [] code named s e = absurd (let z : ◌≡◌ {A = ℕ} 0 1 = cc in omega arith)
listed_small (r ∷ rs) code named s e = go (eqb code r.0) (eqb named r.1) refl refl e (listed_small rs code named s.2)
  where
    go : (a b : Bool) → eqb code r.0 ≡ a → eqb named r.1 ≡ b → ((a && b) || listed rs code named) ≡ true
        → (listed rs code named ≡ true → (code ≤ 0x12) × (named ≤ 255)) → (code ≤ 0x12) × (named ≤ 255)
    go true true p q e rest =
        let its-code = eqb-true code r.0 p in
        let its-word = eqb-true named r.1 q in
        let small = s.0 in
        let fits = s.1 in
        (omega arith, omega arith)
    go true false p q e rest = rest e
    go false b p q e rest = rest e

-- so the code is at most 12h, and the word fits a byte
pub refusal-small : (d : Device) (k : List ℕ) (code named : ℕ) → judge_key d k ≡ rejected code named → (code ≤ 0x12) × (named ≤ 255)
refusal-small d k code named e = listed_small refusals code named (omega arith) (refusal-listed d k code named e)

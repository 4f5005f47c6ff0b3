-- The last command with the transfers of four ports: one of them by its numbers; a requirement on their list is a requirement on each.
use mathlib.Core.Path.{◌≡◌, refl, sym, ap, ap₂, subst}
use mathlib.Core.Bool.{Bool, true, false, not, ◌&&◌, ◌||◌, and-true}
use Prim.Native.Nat.{ℕ, ◌+◌, ◌≤◌}
use native.Mathlib.Omega.{arith}
use mathlib.Core.List.{List, [], ◌∷◌}
use lib.Dec.{eqb, leb, ltb}
use borrow.Author.Tests.{eqb-true, eqb-false, ne_eqb, leb-true}
use Rattle.wire.specs.Choice.{bit}
use Rattle.model.specs.Device.{Transfer, none, table, fill_data, read_long, write_long, Command}
use Rattle.model.specs.Valid.{pending_count, pending_limit}
use Rattle.store.specs.Record.{transfer_of}
use Rattle.store.specs.Sound.{fill_sound, transfer_sound, pending_sound, command_sound}

-- ---- a transfer by its numbers

-- a kind is one of the four, or none is pending
either-kind : (P : ℕ → Type 0) (kind : ℕ) → P 1 → P 2 → P 3 → P 4 → ((kind ≡ 1 → ⊥) → (kind ≡ 2 → ⊥) → (kind ≡ 3 → ⊥) → (kind ≡ 4 → ⊥) → P kind) → P kind
either-kind P kind one two three four other = go (eqb kind 1) (eqb kind 2) (eqb kind 3) (eqb kind 4) refl refl refl refl
  where
    go : (a b c d : Bool) → eqb kind 1 ≡ a → eqb kind 2 ≡ b → eqb kind 3 ≡ c → eqb kind 4 ≡ d → P kind
    go true b c d e f g h = subst P (sym (eqb-true kind 1 e)) one
    go false true c d e f g h = subst P (sym (eqb-true kind 2 f)) two
    go false false true d e f g h = subst P (sym (eqb-true kind 3 g)) three
    go false false false true e f g h = subst P (sym (eqb-true kind 4 h)) four
    go false false false false e f g h = other (eqb-false kind 1 e) (eqb-false kind 2 f) (eqb-false kind 3 g) (eqb-false kind 4 h)

pub numbers-sound : (v kind first end : ℕ)
    → ((not (eqb kind 2) || (ltb first end && leb end v)) && ((not (eqb kind 3) && not (eqb kind 4)) || ltb first v)) ≡ transfer_sound v (transfer_of kind first end)
numbers-sound v kind first end =
    either-kind
    (λ k. ((not (eqb k 2) || (ltb first end && leb end v)) && ((not (eqb k 3) && not (eqb k 4)) || ltb first v)) ≡ transfer_sound v (transfer_of k first end))
    kind refl (and-true (ltb first end && leb end v)) refl refl
    (λ a b c d. rw (ne_eqb kind 1 a, ne_eqb kind 2 b, ne_eqb kind 3 c, ne_eqb kind 4 d))

pub number_counts : (kind first end : ℕ) → bit (leb 1 kind && leb kind 4) ≡ pending_count (transfer_of kind first end ∷ [])
number_counts kind first end =
    either-kind (λ k. bit (leb 1 k && leb k 4) ≡ pending_count (transfer_of k first end ∷ [])) kind refl refl refl refl
    (λ a b c d. rw (ne_eqb kind 1 a, ne_eqb kind 2 b, ne_eqb kind 3 c, ne_eqb kind 4 d) (outside (leb 1 kind) (leb kind 4) refl refl a b c d))
  where
    outside : (x y : Bool) → leb 1 kind ≡ x → leb kind 4 ≡ y → (kind ≡ 1 → ⊥) → (kind ≡ 2 → ⊥) → (kind ≡ 3 → ⊥) → (kind ≡ 4 → ⊥) → bit (x && y) ≡ 0
    outside true true e f a b c d = absurd (between (leb-true 1 kind e) (leb-true kind 4 f) a b c d)
      where
        between : 1 ≤ kind → kind ≤ 4 → (kind ≡ 1 → ⊥) → (kind ≡ 2 → ⊥) → (kind ≡ 3 → ⊥) → (kind ≡ 4 → ⊥) → ⊥
        between h k a b c d = omega arith
    outside true false e f a b c d = refl
    outside false y e f a b c d = refl

-- ---- four ports

-- one more transfer adds its own count
count-more : (t : Transfer) (ts : List Transfer) → pending_count (t ∷ ts) ≡ pending_count (t ∷ []) + pending_count ts
count-more none ts = omega arith
count-more table ts = omega arith
count-more (fill_data first end) ts = omega arith
count-more (read_long lba) ts = omega arith
count-more (write_long lba) ts = omega arith

module _ (v : ℕ) (a b c d : Transfer) where
  sound-four : (transfer_sound v a && (transfer_sound v b && (transfer_sound v c && transfer_sound v d))) ≡ pending_sound v (a ∷ b ∷ c ∷ d ∷ [])
  sound-four = ap (λ (x : Bool). transfer_sound v a && (transfer_sound v b && (transfer_sound v c && x))) (sym (and-true (transfer_sound v d)))

  count-four : pending_count (a ∷ []) + pending_count (b ∷ []) + pending_count (c ∷ []) + pending_count (d ∷ []) ≡ pending_count (a ∷ b ∷ c ∷ d ∷ [])
  count-four = omega (arith, count-more a (b ∷ c ∷ d ∷ []), count-more b (c ∷ d ∷ []), count-more c (d ∷ []))

  pub pending-four : (limit : ℕ)
      → ((transfer_sound v a && (transfer_sound v b && (transfer_sound v c && transfer_sound v d)))
      && leb (pending_count (a ∷ []) + pending_count (b ∷ []) + pending_count (c ∷ []) + pending_count (d ∷ [])) limit)
      ≡ (pending_sound v (a ∷ b ∷ c ∷ d ∷ []) && leb (pending_count (a ∷ b ∷ c ∷ d ∷ [])) limit)
  pending-four limit = ap₂ (λ (x : Bool) (n : ℕ). x && leb n limit) sound-four count-four

-- the fill, and what is pending at the same time
pub command-tests : (v : ℕ) (c : Command)
    → (fill_sound v c.code c.fill && (pending_sound v c.pending && leb (pending_count c.pending) (pending_limit c.fill))) ≡ command_sound v c
unfolding command_sound
command-tests v c = go (fill_sound v c.code c.fill) (pending_sound v c.pending) (leb (pending_count c.pending) (pending_limit c.fill))
  where
    go : (x y z : Bool) → (x && (y && z)) ≡ (x && y && z)
    go true y z = refl
    go false y z = refl

-- A byte read at its place in the slot is a byte of the request; the LBA is computed from its bytes.
use mathlib.Core.Path.{◌≡◌, sym, ◌∙◌}
use Prim.Native.Nat.{ℕ, ◌+◌, ◌*◌, ◌<◌}
use native.Mathlib.Nat.{add-zero}
use native.Mathlib.Omega.{arith}
use mathlib.Core.List.{List}
use lib.ListN.{get_or}
use Rattle.wire.specs.Numbers.{get}
use Rattle.wire.specs.Parts.{part}
use Rattle.wire.proofs.PartsLaws.{get_or_part}
use Rattle.model.specs.Registers.{lba48}
use Rattle.model.proofs.RegisterLaws.{lba-bits}
use Rattle.model.specs.Sizes.{mailbox_size}

one_byte : (l : List ℕ) (i : ℕ) → get 1 l i ≡ get_or l i 0
unfolding get
one_byte l i = omega arith

pub byte_of : (l : List ℕ) (at i : ℕ) {v : ℕ} → i < mailbox_size → v ≡ get 1 l (at + i) → get_or (part l at mailbox_size) i 0 ≡ v
byte_of l at i h e = get_or_part l at mailbox_size i h ∙ sym (one_byte l (at + i)) ∙ sym e

pub byte-first : (l : List ℕ) (at : ℕ) {v : ℕ} → v ≡ get 1 l at → get_or (part l at mailbox_size) 0 0 ≡ v
byte-first l at e = byte_of l at 0 (omega arith) (rw (add-zero at) e)

-- "previous bytes giving bits 24 to 47": the LBA from the number of its current bytes and that of its previous ones
pub lba-of : (m : List ℕ) (current previous : ℕ)
    → current ≡ get_or m 4 0 + 256 * get_or m 6 0 + 65536 * get_or m 8 0
    → previous ≡ get_or m 5 0 + 256 * get_or m 7 0 + 65536 * get_or m 9 0
    → current + 16777216 * previous ≡ lba48 m
lba-of m current previous c p = rw (lba-bits m) (omega arith)

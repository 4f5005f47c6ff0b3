-- Laws of a reply in its slot: the registers, and the data after them.
use mathlib.Core.Path.{◌≡◌, sym, ap, ◌∙◌}
use mathlib.Core.Bool.{true}
use Prim.Native.Nat.{ℕ, ◌+◌, ◌-◌, ◌≤◌}
use native.Mathlib.Nat.{add-zero}
use native.Mathlib.Omega.{arith}
use mathlib.Core.List.{List, [], ◌++◌, append_assoc}
use lib.ListN.{length, length-append}
use lib.Seq.{sets}
use Rattle.wire.specs.Parts.{zeros, padded}
use Rattle.wire.specs.Layout.{Field, stores, form, ordered, placed}
use Rattle.wire.proofs.PartsLaws.{length-zeros, sets-zeros, padded-zeros}
use Rattle.wire.proofs.LayoutLaws.{length-form}
use Rattle.wire.proofs.WithinLaws.{sets-within, sets_then, form-within}
use Rattle.model.specs.Sizes.{sector_size, data_size, registers_size, mailbox_size}
use Rattle.model.specs.Registers.{Registers, registers_bytes, reply_bytes}
use Rattle.model.proofs.FormatLaws.{length-registers}

-- a reply is its registers, then the data padded with zeros
reply-parts : (r : Registers) (s : List ℕ) → length s ≤ data_size → registers_bytes r ++ padded data_size s ≡ reply_bytes r s
unfolding reply_bytes padded
reply-parts r s h =
    let left : data_size - length s ≡ mailbox_size - length (registers_bytes r ++ s) = rw (length-append, length-registers r) (omega arith) in
    ap (λ (n : ℕ). registers_bytes r ++ (s ++ zeros n)) left ∙ sym (append_assoc (registers_bytes r) s (zeros (mailbox_size - length (registers_bytes r ++ s))))

-- THE LAW of a reply without data: the registers are stored, and then zeros after them
pub reply-cleared : (l : List ℕ) (at : ℕ) (r : Registers) → sets (sets l at (registers_bytes r)) (at + registers_size) (zeros data_size) ≡ sets l at (reply_bytes r [])
reply-cleared l at r =
    sets_then (registers_bytes r) (zeros data_size) l at registers_size (length-registers r)
    ∙ ap (λ (s : List ℕ). sets l at (registers_bytes r ++ s)) (sym (padded-zeros 0 data_size (omega arith)))
    ∙ ap (sets l at) (reply-parts r [] (omega arith))

-- .. and with data: they are stored over the zeros
pub reply-data : (l : List ℕ) (at : ℕ) (r : Registers) (s : List ℕ) → length s ≤ data_size
    → sets (sets l at (reply_bytes r [])) (at + registers_size) s ≡ sets l at (reply_bytes r s)
reply-data l at r s h =
    let b = sets l at (registers_bytes r) in
    ap (λ (m : List ℕ). sets m (at + registers_size) s) (sym (reply-cleared l at r))
    ∙ ap (λ (i : ℕ). sets (sets b (at + registers_size) (zeros data_size)) i s) (sym (add-zero (at + registers_size)))
    ∙ sets-within s (zeros data_size) b (at + registers_size) 0 (rw (length-zeros data_size) (omega (arith, h)))
    ∙ ap (sets b (at + registers_size)) (sets-zeros s data_size h)
    ∙ sets_then (registers_bytes r) (padded data_size s) l at registers_size (length-registers r)
    ∙ ap (sets l at) (reply-parts r s h)

-- .. and more data behind them
pub reply-more : (l : List ℕ) (at : ℕ) (r : Registers) (s t : List ℕ) (n : ℕ) → length s ≡ n → n + length t ≤ data_size
    → sets (sets l at (reply_bytes r s)) (at + registers_size + n) t ≡ sets l at (reply_bytes r (s ++ t))
reply-more l at r s t n e h =
    ap (λ (m : List ℕ). sets m (at + registers_size + n) t) (sym (reply-data l at r s (omega (arith, e, h))))
    ∙ sets_then s t (sets l at (reply_bytes r [])) (at + registers_size) n e
    ∙ reply-data l at r (s ++ t) (rw (length-append, e) h)

-- .. or fields, one after the other: the reply with their form
pub reply-form : (l : List ℕ) (at : ℕ) (r : Registers) (fs : List Field) → ordered 0 sector_size fs ≡ true
    → stores (placed (at + registers_size) fs) (sets l at (reply_bytes r [])) ≡ sets l at (reply_bytes r (form sector_size fs))
reply-form l at r fs o =
    ap (λ (m : List ℕ). stores (placed (at + registers_size) fs) (sets l at m)) zero-sector
    ∙ ap (stores (placed (at + registers_size) fs)) (sym (reply-data l at r (zeros sector_size) (omega (arith, length-zeros sector_size))))
    ∙ form-within sector_size fs (sets l at (reply_bytes r [])) (at + registers_size) o
    ∙ reply-data l at r (form sector_size fs) (omega (arith, length-form sector_size fs))
  where
    -- a reply without data has a sector of zeros
    zero-sector : reply_bytes r [] ≡ reply_bytes r (zeros sector_size)
    zero-sector =
        sym (reply-parts r [] (omega arith))
        ∙ ap (λ (s : List ℕ). registers_bytes r ++ s) (padded-zeros 0 data_size (omega arith) ∙ sym (padded-zeros sector_size data_size (omega arith)))
        ∙ reply-parts r (zeros sector_size) (omega (arith, length-zeros sector_size))

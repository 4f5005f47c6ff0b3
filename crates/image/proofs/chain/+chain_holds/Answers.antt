-- Each exit is one case of a chain.
use mathlib.Core.Path.{◌≡◌, sym, ap, ◌∙◌}
use mathlib.Core.List.{List, []}
use Prim.Native.Nat.{ℕ, ◌+◌, ◌-◌, ◌*◌, ◌≤◌}
use native.Mathlib.Omega.{arith}
use lib.ListN.{get_or}
use Rattle.std.specs.Simd.{first_chunks}
use Rattle.wire.specs.Numbers.{get}
use Rattle.wire.specs.Parts.{part}
use Rattle.wire.proofs.PartsLaws.{get-part}
use Rattle.model.specs.Sizes.{body_size, entry_size}
use Rattle.model.specs.Image.{link_place, chain_holds}
use Rattle.image.proofs.ChainLaws.{chain-none, chain-astray, chain-broken, chain-on, chunk-at}
use Rattle.image.proofs.chain.+chain_holds.Goals as goal

-- entry k of the chunks, as an entry of the image
entry : (n k : ℕ) (entries : List (List ℕ)) (image : List ℕ) → 1 ≤ k → k ≤ n → entries ≡ first_chunks entry_size n image
    → get_or entries (k - 1) [] ≡ part image (entry_size * (k - 1)) entry_size
entry n k entries image some h e = ap (λ (l : List (List ℕ)). get_or l (k - 1) []) e ∙ chunk-at n (k - 1) image [] (omega arith)

pub returns-then-number-eq0 : goal.returns-then-number-eq0
returns-then-number-eq0 t c s image like cut = chain-none s image _ _ c.if-number-eq0.true

pub returns-then-at-number : goal.returns-then-at-number
returns-then-at-number t c s image like cut = chain-astray s image _ _ (omega arith) c.if-at-number.true

pub returns-then-not-entry_holds : goal.returns-then-not-entry_holds
returns-then-not-entry_holds t c s image like cut =
    let holds = c.entry_holds.ensures s image like (entry _ c.args.number _ image (omega arith) (omega arith) cut) in
    chain-broken s image _ _ (omega arith) c.if-at-number.false (sym holds ∙ c.if-not-entry_holds.true)

pub returns : goal.returns
returns t c s image like cut =
    let k = c.args.number in
    let there = entry _ k _ image (omega arith) (omega arith) cut in
    let holds = c.entry_holds.ensures s image like there in
    let link : c.get-before.result ≡ get 4 image (c.args.at + link_place) =
    c.get-before.ensures
    ∙ ap (λ (l : List ℕ). get 4 l (body_size + link_place)) there
    ∙ get-part 4 image (entry_size * (k - 1)) entry_size (body_size + link_place) (omega arith)
    ∙ ap (get 4 image) (omega arith) in
    c.chain_holds.ensures s image like cut
    ∙ ap (chain_holds s image (k - 1)) link
    ∙ chain-on s image k _ (omega arith) c.if-at-number.false (sym holds ∙ c.if-not-entry_holds.false)

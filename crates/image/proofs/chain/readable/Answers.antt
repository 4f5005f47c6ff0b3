use mathlib.Core.Path.{◌≡◌, sym, ap, ◌∙◌}
use mathlib.Core.Bool.{Bool, true}
use mathlib.Core.List.{List}
use Prim.Native.Nat.{ℕ, ◌-◌}
use native.Mathlib.Omega.{arith}
use lib.ListN.{length}
use lib.Dec.{eqb}
use borrow.Author.Tests.{eqb-true, eqb-false}
use Rattle.std.specs.Simd.{first_chunks}
use Rattle.model.specs.Sizes.{trailer_size, entry_size}
use Rattle.model.specs.Image.{form_of, Saved, saved_at, chain_holds}
use Rattle.image.proofs.ChainLaws.{readable-uneven, readable-long, readable-empty, readable-chain, last-saved}
use Rattle.image.proofs.chain.readable.Goals as goal

pub returns-then-not-is_empty : goal.returns-then-not-is_empty
returns-then-not-is_empty c =
    readable-uneven _ _ (λ e. eqb-false _ _ (sym c.is_empty.ensures ∙ c.if-not-is_empty.true) (c.as_chunks.ensures.back_len ∙ e))

-- no rest: the length is a multiple
even : (t : Bool) (n : ℕ) (rest : List ℕ) → t ≡ eqb (length rest) 0 → length rest ≡ n → t ≡ true → n ≡ 0
even t n rest e long empty = sym long ∙ eqb-true (length rest) 0 (sym e ∙ empty)

pub returns-then-chain-gt-IMAGE_LIMIT : goal.returns-then-chain-gt-IMAGE_LIMIT
returns-then-chain-gt-IMAGE_LIMIT c =
    let whole = even _ _ _ c.is_empty.ensures c.as_chunks.ensures.back_len c.if-not-is_empty.false in
    readable-long _ _ whole (omega (arith, c.as_chunks.ensures.front_len))

pub returns-in-None : goal.returns-in-None
returns-in-None c =
    let whole = even _ _ _ c.is_empty.ensures c.as_chunks.ensures.back_len c.if-not-is_empty.false in
    readable-empty _ _ (omega (arith, whole, c.in-None.ensures.cases))

pub returns-in-Some : goal.returns-in-Some
returns-in-Some c =
    let chain = c.args.chain.now in
    let count = c.as_chunks.ensures.front_len in
    let whole = even _ _ _ c.is_empty.ensures c.as_chunks.ensures.back_len c.if-not-is_empty.false in
    let some = c.in-Some.ensures.cases.0 in
    let saved = ap (λ (l : List ℕ). saved_at l 0) c.in-Some.ensures.cases.1.same ∙ last-saved chain _ in
    readable-chain chain (length chain) whole (omega (arith, count)) (omega (arith, some)) c.chain_holds.result
    (λ newest e.
    c.chain_holds.ensures newest chain
    (e.0 ∙ ap (λ (s : Saved). s.native) (sym saved) ∙ c.common_of.ensures.0, e.1 ∙ ap (λ (s : Saved). form_of s.timers) (sym saved) ∙ c.common_of.ensures.1)
    (c.as_chunks.ensures.front ∙ ap (λ (n : ℕ). first_chunks entry_size n chain) (sym count))
    ∙ ap (λ (n : ℕ). chain_holds newest chain n (length chain - trailer_size)) count)

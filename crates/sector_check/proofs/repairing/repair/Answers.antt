-- Each exit is one outcome.
use mathlib.Core.Path.{◌≡◌, sym, ap, ◌∙◌}
use Prim.Native.Nat.{ℕ, ◌/◌, ◌%◌}
use native.Mathlib.Omega.{arith}
use lib.Seq.{sets}
use lib.Bits.{bit_xor}
use Rattle.wire.specs.Parts.{part}
use Rattle.sector_check.specs.Check.{flip}
use Rattle.sector_check.specs.Repair.{difference}
use Rattle.sector_check.proofs.FlipLaws.{sets-own}
use Rattle.sector_check.proofs.RepairLaws.{outcome-0, outcome-1, outcome-2}
use Rattle.sector_check.proofs.repairing.repair.Goals as goal
use Rattle.sector_check.proofs.repairing.repair.Goals.{After-check_of}

-- what the code compares is the difference
found : (c : After-check_of)
    → bit_xor c.args.stored c.check_of.result
    ≡ difference c.args.stored (part c.args.s.now c.args.at 512)
unfolding difference
found c = ap (bit_xor c.args.stored) c.check_of.ensures

pub returns-then-difference-eq0 : goal.returns-then-difference-eq0
returns-then-difference-eq0 c =
    let a = c.args in
    let sector = part a.s.now a.at 512 in
    let t = outcome-0 a.stored sector (sym (found (goal.at.returns-then-difference-eq0 c).After-check_of) ∙ c.if-difference-eq0.true) in
    record {
      value = sym t.0;
      s_after = sym (ap (sets a.s.now a.at) t.1 ∙ sets-own a.s.now a.at 512 (omega arith));
    }

pub returns-then-difference-ne1 : goal.returns-then-difference-ne1
returns-then-difference-ne1 c =
    let a = c.args in
    let sector = part a.s.now a.at 512 in
    let e = found (goal.at.returns-then-difference-ne1 c).After-check_of in
    let t = outcome-2 a.stored sector (λ d. c.if-difference-eq0.false (e ∙ d)) (λ d. c.if-difference-ne1.true (ap (λ (x : ℕ). x / 4096) e ∙ d)) in
    record {
      value = sym t.0;
      s_after = sym (ap (sets a.s.now a.at) t.1 ∙ sets-own a.s.now a.at 512 (omega arith));
    }

pub returns : goal.returns
returns c =
    let a = c.args in
    let sector = part a.s.now a.at 512 in
    let e = found (goal.at.returns c).After-check_of in
    let t = outcome-1 a.stored sector (ap (λ (x : ℕ). x / 4096) (sym e) ∙ c.if-difference-ne1.false) in record {
      value = sym t.0;
      s_after = c.flip_bit.ensures ∙ ap (sets a.s.now a.at) (ap (λ (x : ℕ). flip sector (x % 4096)) e ∙ sym t.1);
    }

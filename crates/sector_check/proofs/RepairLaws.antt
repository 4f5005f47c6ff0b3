-- The three outcomes of a repair, from where the stored check and the computed one differ.
use mathlib.Core.Path.{◌≡◌, refl, ap, ◌∙◌}
use mathlib.Core.Bool.{Bool, true, false}
use Prim.Native.Nat.{ℕ, ◌/◌, ◌%◌}
use native.Mathlib.Omega.{arith}
use mathlib.Core.List.{List}
use lib.Bits.{bit_xor, xor_comm, xor_self}
use lib.Dec.{eqb}
use borrow.Author.Tests.{eqb-true, eq-eqb, ne_eqb}
use Rattle.std.specs.Prelude.{if◌then◌else◌}
use Rattle.sector_check.specs.Check.{check_of, flip}
use denote.Enum.Declared.{tag_of}
use Rattle.sector_check.specs.contracts.repairing.Report.{the_type}
use Rattle.sector_check.specs.declared.repairing.Report.{Report}
use Rattle.sector_check.specs.declared.repairing.Report.TheVariants.{Equal, Flipped, Uncorrectable}
use Rattle.sector_check.specs.Repair.{difference, report_of, repaired_sector}
use Rattle.sector_check.specs.Reports.{report_number}
use Rattle.sector_check.proofs.XorLaws.{xor-back, xor-zero-eq}

-- the number that `as` gives
pub numbered : (r : Report) → tag_of the_type r ≡ report_number r
numbered Equal = refl
numbered Flipped = refl
numbered Uncorrectable = refl

-- a report, and the sector that is left
abbrev pub Outcome : ℕ → List ℕ → ℕ → List ℕ → Type 0
Outcome stored s n t = (report_of stored s ≡ n) × (repaired_sector stored s ≡ t)

module _ (stored : ℕ) (s : List ℕ) where
  -- "only 1 alters a sector"
  pub kept : (report_of stored s ≡ 1 → ⊥) → repaired_sector stored s ≡ s
  unfolding repaired_sector
  kept n = rw (ne_eqb (report_of stored s) 1 n)

  -- "it flips the data bit at the differing position"
  pub flipped : report_of stored s ≡ 1 → repaired_sector stored s ≡ flip s (difference stored s % 4096)
  unfolding repaired_sector
  flipped e = rw e

  -- ---- from the difference to the report

  report-0 : difference stored s ≡ 0 → report_of stored s ≡ 0
  unfolding report_of difference
  report-0 d = rw (eq-eqb stored (check_of s) (xor-zero-eq stored (check_of s) d))

  unequal : (difference stored s ≡ 0 → ⊥) → eqb stored (check_of s) ≡ false
  unfolding difference
  unequal n = ne_eqb stored (check_of s) (λ e. n (ap (λ (x : ℕ). bit_xor x (check_of s)) e ∙ xor_self (check_of s)))

  report-1 : difference stored s / 4096 ≡ 1 → report_of stored s ≡ 1
  unfolding report_of
  report-1 h = rw (unequal (λ e. omega arith), eq-eqb (difference stored s / 4096) 1 h)

  report-2 : (difference stored s ≡ 0 → ⊥) → (difference stored s / 4096 ≡ 1 → ⊥) → report_of stored s ≡ 2
  unfolding report_of
  report-2 n h = rw (unequal n, ne_eqb (difference stored s / 4096) 1 h)

  other : {n : ℕ} → report_of stored s ≡ n → (n ≡ 1 → ⊥) → repaired_sector stored s ≡ s
  other e n = kept (λ one. n (rw e at one))

  pub outcome-0 : difference stored s ≡ 0 → Outcome stored s 0 s
  outcome-0 d = (report-0 d, other (report-0 d) (λ e. omega arith))

  pub outcome-1 : difference stored s / 4096 ≡ 1 → Outcome stored s 1 (flip s (difference stored s % 4096))
  outcome-1 h = (report-1 h, flipped (report-1 h))

  pub outcome-2 : (difference stored s ≡ 0 → ⊥) → (difference stored s / 4096 ≡ 1 → ⊥) → Outcome stored s 2 s
  outcome-2 n h = (report-2 n h, other (report-2 n h) (λ e. omega arith))

  -- ---- and back

  pub report-1-back : report_of stored s ≡ 1 → difference stored s / 4096 ≡ 1
  unfolding report_of
  report-1-back r = go (eqb stored (check_of s)) (eqb (difference stored s / 4096) 1) refl r
    where
      go : (a b : Bool) → eqb (difference stored s / 4096) 1 ≡ b → ◌≡◌ {A = ℕ} (if a then 0 else if b then 1 else 2) 1 → difference stored s / 4096 ≡ 1
      go true b t r = absurd (omega arith)
      go false true t r = eqb-true (difference stored s / 4096) 1 t
      go false false t r = absurd (omega arith)

  pub difference-back : bit_xor (check_of s) (difference stored s) ≡ stored
  unfolding difference
  difference-back = ap (bit_xor (check_of s)) (xor_comm stored (check_of s)) ∙ xor-back (check_of s) stored

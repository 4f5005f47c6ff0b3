-- What is printed of a run in two parts, of no bytes, and of an incomplete record.
use mathlib.Core.Path.{◌≡◌, refl, sym, ap, ◌∙◌}
use Prim.Native.Nat.{ℕ, zero, suc, ◌+◌, ◌*◌, ◌/◌, ◌%◌, ◌≤◌}
use native.Mathlib.Nat.{add-zero, add-suc}
use native.Mathlib.Omega.{arith}
use mathlib.Core.List.{List, [], ◌++◌, append_assoc, append-nil}
use lib.ListN.{length, take, length-append}
use lib.Seq.{drop-append-add}
use borrow.Author.Tests.{ne_eqb}
use Rattle.wire.proofs.PartsLaws.{part-front}
use Rattle.console.specs.Text.{ascii}
use Rattle.console.specs.Records.{stray_bytes}
use Rattle.timing.specs.declared.drive.Drive.{Drive}
use Rattle.timing.specs.Command.{record_size, command_at}
use Rattle.timing.specs.Trace.{after, outcomes}
use Rattle.timing.proofs.TraceLaws.{outcomes-parts}
use Rattle.trace_lines.specs.Lines.{commands, all_commands, lines_of, printed}
use Rattle.trace_lines.proofs.LinesLaws.{command-part, lines-parts}

module _ (a b : List ℕ) where
  command-front : (at : ℕ) → at + 7 ≤ length a → command_at (a ++ b) at ≡ command_at a at
  command-front at h = sym (command-part (a ++ b) at) ∙ ap (λ (p : List ℕ). command_at p 0) (part-front a b at 7 h) ∙ command-part a at

  command-behind : (at : ℕ) → command_at (a ++ b) (length a + at) ≡ command_at b at
  command-behind at = sym (command-part (a ++ b) (length a + at)) ∙ ap (λ (p : List ℕ). command_at (take 7 p) 0) (drop-append-add a b at) ∙ command-part b at

  commands-front : (k : ℕ) → 7 * k ≤ length a → commands k (a ++ b) ≡ commands k a
  unfolding commands
  commands-front zero h = refl
  commands-front (suc k) h = rw (commands-front k (omega arith), command-front (7 * k) (omega arith))

  commands-parts : (k j : ℕ) → length a ≡ 7 * k → commands (k + j) (a ++ b) ≡ commands k a ++ commands j b
  unfolding commands
  commands-parts k zero e = rw (add-zero k, append-nil) (commands-front k (omega (arith, e)))
  commands-parts k (suc j) e =
      let place : 7 * (k + j) ≡ length a + 7 * j = omega (arith, e) in
      rw (add-suc k j, commands-parts k j e, place, command-behind (7 * j), append_assoc)

  -- of whole records: `trace` may print in blocks
  pub printed-parts : (d : Drive) → stray_bytes record_size (length a) ≡ 0 → printed d (a ++ b) ≡ printed d a ++ printed (after d (all_commands a)) b
  unfolding printed
  printed-parts d whole =
      let records : length (a ++ b) / 7 ≡ length a / 7 + length b / 7 = rw length-append (omega (arith, whole)) in
      let stray : length (a ++ b) % 7 ≡ length b % 7 = rw length-append (omega (arith, whole)) in
      let all = commands-parts (length a / 7) (length b / 7) (omega (arith, whole)) in
      rw (records, stray, whole, all, outcomes-parts d (all_commands a) (all_commands b), lines-parts (outcomes d (all_commands a)) (outcomes (after d (all_commands a)) (all_commands b)), append-nil, append_assoc)

-- nothing for no input
pub printed-nothing : (d : Drive) → printed d [] ≡ []
unfolding printed commands outcomes lines_of
printed-nothing d = refl

-- 1 to 6 bytes
pub printed-cut : (d : Drive) (s : List ℕ) → 1 ≤ length s → length s ≤ 6 → printed d s ≡ ascii "cut\n"
unfolding printed commands outcomes lines_of
printed-cut d s some few =
    let none : length s / 7 ≡ 0 = omega arith in
    rw (none, ne_eqb (length s % 7) 0 (λ e. omega (arith, e)))

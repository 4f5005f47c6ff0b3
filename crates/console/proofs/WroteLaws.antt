-- Laws of writing into a line, one piece after the other.
use mathlib.Core.Path.{◌≡◌, sym, ap, ◌∙◌}
use Prim.Native.Nat.{ℕ, ◌+◌, ◌≤◌}
use native.Mathlib.Nat.{add_assoc}
use native.Mathlib.Omega.{arith}
use mathlib.Core.List.{List, ◌++◌}
use lib.ListN.{length, take, drop, length-append}
use lib.Seq.{sets, sets-eq, length-sets, take_at, length-take-le}
use Rattle.wire.proofs.PartsLaws.{sets-append}
use Rattle.console.specs.Text.{Wrote, Begins}

pub wrote_then : {before : List ℕ} {at : ℕ} {first : List ℕ} {middle : ℕ} {between second : List ℕ} {next : ℕ} {after : List ℕ}
    → Wrote before at first middle between → Wrote between middle second next after → Wrote before at (first ++ second) next after
wrote_then {before} {at} {first} {middle} {between} {second} {next} {after} u w = record {
  place = w.place
      ∙ ap (λ (k : ℕ). k + length second) u.place
      ∙ add_assoc at (length first) (length second)
      ∙ ap (λ (k : ℕ). at + k) (sym (length-append first second));
  line = w.line
      ∙ ap (λ (l : List ℕ). sets l middle second) u.line
      ∙ ap (λ (k : ℕ). sets (sets before at first) k second) u.place
      ∙ sym (sets-append first second before at);
}

-- the same piece as an equal list
pub wrote_as : {before : List ℕ} {at : ℕ} {text other : List ℕ} {next : ℕ} {after : List ℕ}
    → text ≡ other → Wrote before at text next after → Wrote before at other next after
wrote_as e w = rw e at w

-- the start of a line after a piece is written
pub wrote-begin : {before : List ℕ} {at : ℕ} {text : List ℕ} {next : ℕ} {after : List ℕ}
    → Wrote before at text next after → next ≤ length before → take next after ≡ take at before ++ text
wrote-begin {before} {at} {text} {next} {after} w h =
    let e : next ≡ at + length text = w.place in
    let whole : length (take at before ++ text) ≡ next = rw (length-append, length-take-le at before (omega arith)) (sym e) in
    rw (w.line, sets-eq text before at (omega arith))
    (take_at (take at before ++ text) (drop (at + length text) before) next whole)

-- the written part is within the line
pub wrote-begins : {before : List ℕ} {at : ℕ} {text : List ℕ} {next : ℕ} {after : List ℕ}
    → Wrote before at text next after → next ≤ length before → Begins next after
wrote-begins {before} {at} {text} {next} {after} w h =
    let same : length after ≡ length before = rw w.line (length-sets before at text) in
    let within : next ≤ length after = rw same h in
    (within, sym (length-take-le next after within))

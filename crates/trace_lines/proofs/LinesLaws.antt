-- The lines of records, one record after the other.
use mathlib.Core.Path.{◌≡◌, refl, sym, ap, ◌∙◌}
use Prim.Native.Nat.{ℕ, ◌+◌, zero, suc, ◌*◌, ◌/◌, ◌%◌, ◌≤◌, ◌<◌, zero-le}
use native.Mathlib.Numerals.{add-one}
use native.Mathlib.Omega.{arith}
use mathlib.Core.List.{List, [], ◌∷◌, ◌++◌, append_assoc, append-nil}
use lib.ListN.{length, get_or, take, drop}
use lib.Seq.{drop-drop, length-sets}
use Rattle.std.specs.Simd.{first_chunks}
use Rattle.wire.specs.Parts.{part}
use Rattle.wire.proofs.PartsLaws.{get_or_part, get-part}
use native.Mathlib.Nat.{add-zero}
use Rattle.console.specs.Text.{Wrote}
use Rattle.console.proofs.WroteLaws.{wrote_then, wrote_as}
use Rattle.timing.specs.declared.command.Command.{Command}
use Rattle.timing.specs.declared.drive.Outcome.{Outcome}
use Rattle.timing.specs.declared.drive.Outcome.TheVariants.{Done, Aborted, Continued, Deferred}
use Rattle.timing.specs.declared.drive.Drive.{Drive}
use Rattle.timing.specs.declared.drive.Traced.{Traced}
use Rattle.timing.specs.Command.{record_size, command_at}
use Rattle.timing.specs.Drive.{traced}
use Rattle.timing.specs.Trace.{after, outcomes}
use Rattle.timing.proofs.TraceLaws.{after-parts, outcomes-parts}
use Rattle.trace_lines.specs.Lines.{commands, line_of, lines_of, cut_line, printed}

-- record k of the whole records
chunk-at : (n k : ℕ) (s : List ℕ) → k < n → get_or (first_chunks 7 n s) k [] ≡ part s (7 * k) 7
chunk-at zero k s h = absurd (omega arith)
chunk-at (suc n) zero s h = refl
chunk-at (suc n) (suc k) s h =
    let place : 7 + 7 * k ≡ 7 * suc k = omega arith in
    chunk-at n k (drop 7 s) (omega arith) ∙ ap (take 7) (drop-drop (7 * k) 7 s ∙ ap (λ (i : ℕ). drop i s) place)

-- a command is read from its seven bytes
pub command-part : (s : List ℕ) (at : ℕ) → command_at (part s at 7) 0 ≡ command_at s at
unfolding command_at
command-part s at = λ i. record {
  code = (get_or_part s at 7 0 (omega arith) ∙ ap (λ (k : ℕ). get_or s k 0) (add-zero at)) i;
  feature = get_or_part s at 7 1 (omega arith) i;
  count = get_or_part s at 7 2 (omega arith) i;
  duration = get-part 4 s at 7 3 (omega arith) i;
}

pub record-command : (n k : ℕ) (s : List ℕ) → k < n → command_at (get_or (first_chunks 7 n s) k []) 0 ≡ command_at s (record_size * k)
record-command n k s h = ap (λ (l : List ℕ). command_at l 0) (chunk-at n k s h) ∙ command-part s (7 * k)

-- a line has at most 10 bytes
line-most : (o : Outcome) → length (line_of o) ≤ 10
line-most Done = omega arith
line-most Aborted = omega arith
line-most Continued = omega arith
line-most Deferred = omega arith

pub lines-parts : (os ps : List Outcome) → lines_of (os ++ ps) ≡ lines_of os ++ lines_of ps
unfolding lines_of
lines-parts [] ps = refl
lines-parts (o ∷ os) ps = ap (λ (l : List ℕ). line_of o ++ l) (lines-parts os ps) ∙ sym (append_assoc (line_of o) (lines_of os) (lines_of ps))

module _ (d : Drive) (s : List ℕ) where
  after_more : (k : ℕ) → (traced (after d (commands k s)) (command_at s (record_size * k))).drive ≡ after d (commands (k + 1) s)
  unfolding commands after
  after_more k = rw add-one (sym (after-parts d (commands k s) (command_at s (record_size * k) ∷ [])))

  lines_more : (k : ℕ) → lines_of (outcomes d (commands k s)) ++ line_of (traced (after d (commands k s)) (command_at s (record_size * k))).outcome
      ≡ lines_of (outcomes d (commands (k + 1) s))
  unfolding commands outcomes lines_of
  lines_more k =
      let last = command_at s (record_size * k) ∷ [] in
      rw (add-one, outcomes-parts d (commands k s) last, lines-parts (outcomes d (commands k s)) (outcomes (after d (commands k s)) last), append-nil)

  -- The first k records are printed: `state` is the drive after them, and their lines are `text` up to `end`, which was `before`.
  pub record PrintedFirst (before : List ℕ) (k : ℕ) (state : Drive) (end : ℕ) (text : List ℕ) : Type 0 where
    pub drive : state ≡ after d (commands k s)
    pub room : end ≤ 10 * k
    pub lines : Wrote before 0 (lines_of (outcomes d (commands k s))) end text

  pub none-printed : (before : List ℕ) → PrintedFirst before 0 d 0 before
  unfolding commands after outcomes lines_of
  none-printed before = record { drive = refl; room = zero-le; lines = record { place = refl; line = refl } }

  -- one record more
  pub one-more-printed : {before : List ℕ} {k : ℕ} {state : Drive} {end : ℕ} {text : List ℕ} {next : ℕ} {after_text : List ℕ}
      → PrintedFirst before k state end text → (c : Command) → c ≡ command_at s (record_size * k) → (t : Traced) → t ≡ traced state c → Wrote text end (line_of t.outcome) next after_text
      → PrintedFirst before (k + 1) t.drive next after_text
  one-more-printed {k = k} p c r t e w =
      let step : t ≡ traced (after d (commands k s)) (command_at s (record_size * k)) = rw (← p.drive, ← r) e in
      record {
        drive = ap (λ (x : Traced). x.drive) step ∙ after_more k;
        room = omega (arith, p.room, w.place, line-most t.outcome);
        lines = wrote_as (lines_more k) (wrote_then p.lines (wrote_as (ap (λ (x : Traced). line_of x.outcome) step) w));
      }

  pub length-printed : {before : List ℕ} {k : ℕ} {state : Drive} {end : ℕ} {text : List ℕ} → PrintedFirst before k state end text → length text ≡ length before
  length-printed {before} {k} p = rw p.lines.line (length-sets before 0 (lines_of (outcomes d (commands k s))))

  -- all are printed, and what is left of an input
  pub all-printed : {before : List ℕ} {k : ℕ} {state : Drive} {end : ℕ} {text : List ℕ} {next : ℕ} {after_text : List ℕ}
      → PrintedFirst before k state end text → k ≡ length s / 7 → Wrote text end (cut_line (length s % 7)) next after_text
      → Wrote before 0 (printed d s) next after_text
  unfolding printed
  all-printed p whole w = wrote_then (rw (← whole) p.lines) w

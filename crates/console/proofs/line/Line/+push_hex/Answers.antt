-- The digits of v / 16, and then the last one.
use mathlib.Core.Path.{sym, ap}
use mathlib.Core.List.{List, ◌++◌, append-nil, append_assoc}
use Prim.Native.Nat.{ℕ}
use native.Mathlib.Omega.{arith}
use Rattle.console.specs.Text.{hex_digits}
use Rattle.console.proofs.DigitsLaws.{hex-more}
use Rattle.console.proofs.line.Line.+push_hex.Goals as goal

pub returns-then-digits-eq0-clause-text : goal.returns-then-digits-eq0-clause-text
unfolding hex_digits
returns-then-digits-eq0-clause-text g t c = rw c.if-digits-eq0.true (sym (append-nil c.args.self.now))

pub returns-clause-text : goal.returns-clause-text
returns-clause-text g t c =
    let a = c.args in
    rw (c.push.ensures.text, c.push_hex.ensures.text, c.hex_digit.ensures, append_assoc)
    (ap (λ (l : List ℕ). a.self.now ++ l) (hex-more a.digits a.v (omega arith)))

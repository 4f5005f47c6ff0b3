-- Laws of the answers: no refusal answers 0, and a `?` passes it on.
use mathlib.Core.Path.{◌≡◌, ap, ◌∙◌}
use native.Mathlib.Omega.{arith}
use Rattle.layout.specs.declared.answer.Refusal.{Refusal}
use Rattle.layout.specs.declared.answer.Refusal.TheVariants.{BadPort, BadLength, BadStage, BadRecord, BadValue, BadImage, OtherDisk, ImageFull, OtherTimers}
use Rattle.std.specs.Prelude.{Result, Err}
use Rattle.std.specs.Result.{IsErrAnd}
use Rattle.std.proofs.lemmas.Result.{err_from_is_err_and}
use Rattle.layout.specs.Answer.{number_of}

pub refused-not-done : (r : Refusal) → number_of r ≡ 0 → ⊥
refused-not-done BadPort e = omega arith
refused-not-done BadLength e = omega arith
refused-not-done BadStage e = omega arith
refused-not-done BadRecord e = omega arith
refused-not-done BadValue e = omega arith
refused-not-done BadImage e = omega arith
refused-not-done OtherDisk e = omega arith
refused-not-done ImageFull e = omega arith
refused-not-done OtherTimers e = omega arith

-- what a function returns at a `?` is the refusal that it met
pub passed_on : {A : Type 0} (r : Result A Refusal) (refusal : Refusal) → IsErrAnd r (λ met. met ≡ refusal) → r ≡ Err refusal
passed_on r refusal h = let p = err_from_is_err_and r h in p.1 ∙ ap Err p.2

use mathlib.Core.Path.{refl, ap, ◌∙◌}
use Prim.Native.Nat.{ℕ, ◌/◌}
use Rattle.layout.proofs.AnswerLaws.{refused-not-done, passed_on}
use Rattle.layout.specs.Answer.{number_of}
use Rattle.wire.proofs.ChoiceLaws.{attempt-refused, attempt-done}
use Rattle.model.specs.Sizes.{entry_size}
use Rattle.model.specs.Convert.{converted}
use Rattle.store.specs.Entries.{convert_entry, convert_bytes}
use Rattle.convert.proofs.converting.convert.Goals as goal

pub returns-in_err-form : goal.returns-in_err-form
unfolding convert_bytes
returns-in_err-form c =
    let a = c.args in
    rw (passed_on c.from_residual.result c.in_err-form.field-0.0 c.from_residual.ensures.1, attempt-refused (convert_entry a.image.now a.used a.form) (number_of c.in_err-form.field-0.0) c.in_err-form.ensures.answer (refused-not-done c.in_err-form.field-0.0)) record {
      value = refl;
      image = refl;
    }

pub returns : goal.returns
unfolding convert_bytes
returns c =
    let a = c.args in
    rw (attempt-done (convert_entry a.image.now a.used a.form) 0 c.in_ok-form.ensures.answer refl)
    record {
      value = refl;
      image = c.convert_entries.ensures ∙ ap (λ (form : ℕ). converted form a.image.now (a.used / entry_size)) c.in_ok-form.ensures.form;
    }

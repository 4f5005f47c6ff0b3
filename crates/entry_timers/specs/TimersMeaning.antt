-- What an entry's timers and its form mean in the model.
use Rattle.std.specs.Prelude.{◌≡◌, ℕ, false, Option, None, Some, Result, MatchResult}
use Rattle.wire.specs.Choice.{between}
use Rattle.model.specs.Image.{SavedTimers, left_out, stored}
use Rattle.entry_timers.specs.declared.timers.Timers.{Timers}
use Rattle.entry_timers.specs.declared.timers.Form.{Form}
use Rattle.entry_timers.specs.declared.timers.Form.TheVariants.{One, Two}
use Rattle.entry_timers.specs.declared.timers.UnknownForm.{UnknownForm}

abbrev pub as_timers : Option Timers → SavedTimers
as_timers None = left_out
as_timers (Some t) = stored t.read t.write

abbrev pub form_number : Form → ℕ
form_number One = 1
form_number Two = 2

-- the form of this number, or an error where there is none
abbrev pub IsForm : ℕ → Result Form UnknownForm → Type 0
IsForm number r = MatchResult r (λ form. form_number form ≡ number) (λ e. (e.0 ≡ number) × (between 1 number 2 ≡ false))

-- What the code's verdict on a key means in the model.
use Rattle.std.specs.Prelude.{ℕ, List}
use Rattle.model.specs.Key.{Action, access_long, fill_pattern, fill_sector, set_timer, return_timer, set_feature, return_state, return_option, send_table, Verdict, accepted, rejected}
use Rattle.record.specs.DeviceMeaning.{as_direction, as_feature_name}
use Rattle.key.specs.declared.key as key
use Rattle.key.specs.declared.refusal as refusal
use Rattle.key.specs.declared.key.Action.TheVariants.{AccessLong, FillPattern, FillSector, SetTimer, ReturnTimer, SetFeature, ReturnState, ReturnOption, SendTable}
use Rattle.key.specs.declared.key.Verdict.TheVariants.{Accepted, Rejected}

-- The sector of a pattern fill is not part of the code's action: it is repeated from the key's bytes when the fill begins.
abbrev pub as_action : key.Action.Action → List ℕ → Action
as_action (AccessLong dir lba) sector = access_long (as_direction dir) lba
as_action (FillPattern first end) sector = fill_pattern first end sector
as_action (FillSector first end) sector = fill_sector first end
as_action (SetTimer dir n) sector = set_timer (as_direction dir) n
as_action (ReturnTimer dir) sector = return_timer (as_direction dir)
as_action (SetFeature f n keep) sector = set_feature (as_feature_name f) n keep
as_action (ReturnState f) sector = return_state (as_feature_name f)
as_action (ReturnOption f) sector = return_option (as_feature_name f)
as_action SendTable sector = send_table

abbrev pub as_verdict : key.Verdict.Verdict → List ℕ → Verdict
as_verdict (Accepted a) sector = accepted (as_action a sector)
as_verdict (Rejected r) sector = rejected r.code r.word

-- why a key is refused; for an accepted one, of which nobody asks it, zeros
abbrev pub refusal_of : key.Verdict.Verdict → refusal.Refusal.Refusal
refusal_of (Accepted a) = record { code = 0; word = 0 }
refusal_of (Rejected r) = r

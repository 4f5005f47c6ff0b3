-- An initialised record, before its fields are written.
use Rattle.std.specs.Prelude.{ℕ, List, ◌++◌}
use Rattle.wire.specs.Parts.{zeros}
use Rattle.model.specs.Temperature.{empty_history, table_bytes}
use Rattle.store.specs.Areas.{head_size}

-- no field is set, and the temperature table has an empty history
unfoldable pub blank_record : List ℕ
blank_record = zeros head_size ++ table_bytes 0 0 empty_history

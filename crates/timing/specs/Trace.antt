-- A trace: a list of records, one after the other.
use Rattle.std.specs.Prelude.{List, [], ◌∷◌}
use Rattle.timing.specs.declared.command.Command.{Command}
use Rattle.timing.specs.declared.drive.Outcome.{Outcome}
use Rattle.timing.specs.declared.drive.Drive.{Drive}
use Rattle.timing.specs.Drive.{traced}

-- the drive after the records
unfoldable pub after : Drive → List Command → Drive
after d [] = d
after d (c ∷ cs) = after (traced d c).drive cs

-- what becomes of each
unfoldable pub outcomes : Drive → List Command → List Outcome
outcomes d [] = []
outcomes d (c ∷ cs) = (traced d c).outcome ∷ outcomes (traced d c).drive cs

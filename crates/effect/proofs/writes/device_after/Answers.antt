use mathlib.Core.Path.{refl}
use Rattle.effect.proofs.writes.device_after.Goals as goal

pub returns-in-Nothing : goal.returns-in-Nothing
returns-in-Nothing c = λ m. rw c.in-Nothing.is (record { device = λ h. refl; stages = refl; four = refl })

pub returns-in-Sector : goal.returns-in-Sector
returns-in-Sector c = λ m. rw c.in-Sector.is c.with_flag_cleared.ensures

pub returns-in-LongSector : goal.returns-in-LongSector
returns-in-LongSector c = λ m. rw c.in-LongSector.is c.with_flag_cleared-in-LongSector.ensures

pub returns-in-PatternFill : goal.returns-in-PatternFill
returns-in-PatternFill c = λ m. rw c.in-PatternFill.is c.start_fill.ensures

pub returns-in-DataFill : goal.returns-in-DataFill
returns-in-DataFill c = λ m. rw c.in-DataFill.is c.start_fill-in-DataFill.ensures

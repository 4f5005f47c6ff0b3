-- A trace in two parts: the second goes on from the drive that the first leaves.
use mathlib.Core.Path.{◌≡◌, refl, ap}
use Prim.Native.Nat.{suc}
use mathlib.Core.List.{List, [], ◌∷◌, ◌++◌}
use lib.ListN.{length}
use Rattle.timing.specs.declared.command.Command.{Command}
use Rattle.timing.specs.declared.drive.Outcome.{Outcome}
use Rattle.timing.specs.declared.drive.Drive.{Drive}
use Rattle.timing.specs.Drive.{traced}
use Rattle.timing.specs.Trace.{after, outcomes}

pub after-parts : (d : Drive) (xs ys : List Command) → after d (xs ++ ys) ≡ after (after d xs) ys
unfolding after
after-parts d [] ys = refl
after-parts d (x ∷ xs) ys = after-parts (traced d x).drive xs ys

pub outcomes-parts : (d : Drive) (xs ys : List Command) → outcomes d (xs ++ ys) ≡ outcomes d xs ++ outcomes (after d xs) ys
unfolding after outcomes
outcomes-parts d [] ys = refl
outcomes-parts d (x ∷ xs) ys = ap (λ (os : List Outcome). (traced d x).outcome ∷ os) (outcomes-parts (traced d x).drive xs ys)

-- a word for each record
pub an-outcome-each : (d : Drive) (cs : List Command) → length (outcomes d cs) ≡ length cs
unfolding outcomes
an-outcome-each d [] = refl
an-outcome-each d (c ∷ cs) = ap suc (an-outcome-each (traced d c).drive cs)

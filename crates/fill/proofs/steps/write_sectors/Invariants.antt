-- What holds at each turn.
use mathlib.Core.Path.{◌≡◌}
use Prim.Native.Nat.{◌*◌}
use lib.ListN.{length}
use lib.Seq.{sets}
use Rattle.wire.specs.Parts.{repeated}
use Rattle.model.specs.Sizes.{sector_size}
use Rattle.store.specs.Store.{fill_sector_of}
use Rattle.fill.proofs.steps.write_sectors.Given as goal

abbrev pub invariant-loop-j : goal.invariant-loop-j
invariant-loop-j l = (length l.disk ≡ length l.initial.disk) × (l.disk ≡ sets l.initial.disk (sector_size * l.next) (repeated l.j (fill_sector_of l.area)))

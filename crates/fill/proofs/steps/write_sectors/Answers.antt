use native.Mathlib.Numerals.{add-one}
use mathlib.Core.Path.{refl}
use Prim.Native.Nat.{◌*◌}
use native.Mathlib.Omega.{arith}
use lib.Seq.{length-sets}
use Rattle.wire.specs.Parts.{repeated}
use Rattle.wire.proofs.PartsLaws.{length_part, repeat-more}
use Rattle.model.specs.Sizes.{sector_size}
use Rattle.store.specs.Store.{fill_sector_of}
use Rattle.store.specs.Areas.{fill_place}
use Rattle.fill.proofs.steps.write_sectors.Goals as goal

pub loop-j-init : goal.loop-j-init
unfolding repeated
loop-j-init c = (refl, refl)

pub loop-j-preserved : goal.loop-j-preserved
loop-j-preserved c =
    let a = c.args in (
      rw (c.copy_part.ensures, length-sets) c.loop-j.invariant.0,
      rw (c.copy_part.ensures, c.loop-j.invariant.1, add-one) (repeat-more a.disk.now (fill_sector_of a.area.now) (sector_size * a.next) sector_size c.loop-j.j (length_part a.area.now fill_place sector_size (omega (arith, c.requires)))),
    )

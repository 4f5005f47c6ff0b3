use mathlib.Core.Path.{◌≡◌, sym}
use native.Mathlib.Omega.{arith}
use lib.Bits.{bit_xor}
use Rattle.wire.specs.Parts.{part}
use Rattle.sector_check.specs.Check.{check_of}
use Rattle.sector_check.proofs.RowLaws.{check-rows}
use Rattle.sector_check.proofs.SectorLaws.{check-lt}
use Rattle.sector_check.proofs.sector.check_of.Goals as goal
use Rattle.sector_check.proofs.sector.check_of.Goals.{After-places_of}

-- what is found is the check of the sector
found : (c : After-places_of)
    → bit_xor c.rows_of-rows.result.odd (bit_xor c.column_of-column.result c.places_of.result)
    ≡ check_of (part c.args.s.now c.args.at 512)
found c =
    let e = c.rows_of-rows.ensures in
    let a = c.args in
    rw (c.places_of.ensures, c.column_of-column.ensures, e.are_all, e.are-ones, e.are-twos, e.are-fours, e.are-odd)
    (sym (check-rows a.s.now a.at (λ i. omega (arith, c.type_inv.s i))))

pub overflow_cast-result : goal.overflow_cast-result
overflow_cast-result c =
    let a = c.args in
    omega (arith, found (goal.at.overflow_cast-result c).After-places_of, check-lt (part a.s.now a.at 512))

pub returns : goal.returns
returns c = found (goal.at.returns c).After-places_of

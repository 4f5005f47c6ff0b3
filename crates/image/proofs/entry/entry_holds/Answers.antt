use native.Mathlib.Omega.{arith}
use Rattle.image.proofs.EntryInPlace.{entry-alone}
use Rattle.image.proofs.entry.entry_holds.Goals as goal

pub returns : goal.returns
returns c s image like is =
    let e = c.args.entry.now in
    rw (c.body_holds-body.ensures, c.alike-same.ensures s like, c.trailer_holds-trailer.ensures)
    (entry-alone s image e c.args.number (λ i. omega (arith, c.fits-entry i)) (omega arith) (omega arith) (omega arith) is)

use borrow.Author.Rules.{rules}
use Rattle.sector_check.proofs.PlacesLaws.{places-halved}
use Rattle.sector_check.proofs.word.places_of.Goals as goal

pub returns : goal.returns
returns c =
    rw (c.weighed-4.ensures, c.weighed-5.ensures, c.weighed-6.ensures, c.weighed.ensures, c.weighed-2.ensures, c.weighed-3.ensures)
    (places-halved c.args.v (search rules) c.fold-a.result c.fold-b.result c.fold-c.result c.fold-d.result c.fold-e.result
    c.fold-a.ensures c.fold-b.ensures c.fold-c.ensures c.fold-d.ensures c.fold-e.ensures)

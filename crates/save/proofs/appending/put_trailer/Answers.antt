use Rattle.save.proofs.AppendLaws.{trailer-stored}
use Rattle.save.proofs.appending.put_trailer.Goals as goal

pub returns : goal.returns
returns c =
    let a = c.args in
    rw (c.copy_part.ensures, c.put-3.ensures, c.put-2.ensures, c.previous_place.ensures, c.put.ensures, c.zero_part.ensures)
    (trailer-stored a.image.now a.at a.number)

use mathlib.Core.Path.{refl}
use Rattle.wire.proofs.PartsLaws.{part-whole}
use lib.ListN.{length}
use Rattle.console.proofs.line.put_text.Goals as goal

pub returns : goal.returns
returns c =
    let text = c.args.text.now in
    record { place = refl; line = rw (c.copy_part.ensures, part-whole text (length text) refl) }

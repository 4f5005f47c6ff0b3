use mathlib.Core.Path.{refl}
use native.Mathlib.Numerals.{add-one}
use Rattle.wire.specs.Numbers.{le, put}
use Rattle.wire.specs.Parts.{repeated}
use Rattle.wire.proofs.NumbersLaws.{length-le, length-put}
use Rattle.wire.proofs.PartsLaws.{repeat-more}
use Rattle.runs.proofs.run.repeat.Goals as goal

pub loop-k-init : goal.loop-k-init
unfolding repeated
loop-k-init g c = (refl, refl)

pub loop-k-preserved : goal.loop-k-preserved
unfolding put
loop-k-preserved g c =
    let a = c.args in
    let size = g.N.Number.SIZE in
    let p = le size (g.N.Number.value a.n) in
    let e = c.put.ensures in (
      rw (e, length-put) c.loop-k.invariant.0,
      rw (e, c.SIZE.ensures, c.loop-k.invariant.1, add-one) (repeat-more a.s.now p a.at size c.loop-k.k (length-le size (g.N.Number.value a.n))),
    )

use mathlib.Core.Bool.{and-true}
use Rattle.record_check.proofs.places.spare_zero.Goals as goal

pub returns : goal.returns
returns c =
    rw (
      c.is_zero.ensures,
      c.is_zero-2.ensures,
      c.is_zero-3.ensures,
      c.is_zero-4.ensures,
      c.is_zero-5.ensures,
      c.is_zero-6.ensures,
      c.is_zero-7.ensures,
      c.is_zero-8.ensures,
      and-true,
    )

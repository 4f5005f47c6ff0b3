use native.Mathlib.Nat.{add-zero}
use Rattle.reply_data.proofs.sector.put_head.Goals as goal

pub returns : goal.returns
returns c =
    let a = c.args in
    rw (
      c.put-5.ensures,
      c.drive_state.ensures,
      c.put-4.ensures,
      c.bit_of.ensures.value,
      c.put-3.ensures,
      c.put-2.ensures,
      c.put.ensures,
      add-zero a.at,
    )

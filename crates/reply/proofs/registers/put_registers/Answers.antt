use mathlib.Core.Path.{refl}
use Rattle.model.specs.Sizes.{registers_size}
use Rattle.model.specs.Registers.{registers_fields, registers_bytes}
use Rattle.reply.specs.ReplyMeaning.{as_registers}
use Rattle.wire.proofs.WithinLaws.{form-within}
use Rattle.reply.proofs.registers.put_registers.Goals as goal

pub returns : goal.returns
unfolding registers_bytes
returns c =
    let a = c.args in
    rw (c.put-5.ensures, c.put-4.ensures, c.put-3.ensures, c.put-2.ensures, c.put.ensures, c.zero_part.ensures)
    (form-within registers_size (registers_fields (as_registers a.r)) a.area.now a.at refl)

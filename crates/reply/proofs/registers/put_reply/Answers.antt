use mathlib.Core.Path.{ap, ◌∙◌}
use mathlib.Core.List.{List}
use Prim.Native.Nat.{ℕ, ◌+◌}
use lib.Seq.{sets}
use Rattle.wire.specs.Parts.{zeros}
use Rattle.model.specs.Sizes.{registers_size, data_size}
use Rattle.reply.specs.ReplyMeaning.{as_registers}
use Rattle.reply.proofs.ReplyLaws.{reply-cleared}
use Rattle.reply.proofs.registers.put_reply.Goals as goal

pub returns : goal.returns
returns c =
    let a = c.args in
    c.zero_part.ensures
    ∙ ap (λ (l : List ℕ). sets l (a.at + registers_size) (zeros data_size)) c.put_registers.ensures
    ∙ reply-cleared a.area.now a.at (as_registers a.r)

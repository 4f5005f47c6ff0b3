-- What a reply's struct means in the model.
use Rattle.model.specs.Registers.{Registers}
use Rattle.reply.specs.declared.registers as code

abbrev pub as_registers : code.Reply.Reply → Registers
as_registers r = record { status = r.status; error = r.error; value = r.value; lba_mid = r.lba_mid }

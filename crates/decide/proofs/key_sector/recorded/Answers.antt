use Rattle.model.specs.Update.{with_key}
use Rattle.model.specs.Fill.{interrupt}
use Rattle.device_update.proofs.ChangeLaws.{changed_then}
use Rattle.decide.proofs.DecideKey.{words-read}
use Rattle.decide.proofs.key_sector.recorded.Goals as goal

pub returns : goal.returns
returns c =
    words-read c.args.area.now c.args.at _ _ c.args.d c.with_key.result c.get.ensures c.get-2.ensures (changed_then interrupt (with_key _ _) c.args.d c.interrupt-stopped.result c.with_key.result c.interrupt-stopped.ensures c.with_key.ensures)

use Rattle.store.specs.Record.{decode, transfer_at}
use Rattle.record_check.proofs.PendingLaws.{pending-four}
use Rattle.record_check.proofs.clauses.pending_sound.Goals as goal

pub returns : goal.returns
unfolding decode
returns c =
    let a = c.args in
    let r = a.device.now in
    rw (
      c.port_sound.ensures,
      c.port_sound-2.ensures,
      c.port_sound-3.ensures,
      c.port_sound-4.ensures,
      c.port_count.ensures.value,
      c.port_count-2.ensures.value,
      c.port_count-3.ensures.value,
      c.port_count-4.ensures.value,
    )
    (pending-four a.visible (transfer_at r 0) (transfer_at r 1) (transfer_at r 2) (transfer_at r 3) a.limit)

use Rattle.store.specs.Record.{decode}
use Rattle.record.proofs.codec.settings_at.Goals as goal

pub returns : goal.returns
unfolding decode
returns c =
    λ i.
    record {
      read_timer = c.get-4.ensures i;
      write_timer = c.get-5.ensures i;
      write_cache = record { state = c.get.ensures i; persistent = c.flag_at.ensures i };
      reordering = record { state = c.get-2.ensures i; persistent = c.flag_at-2.ensures i };
      log_interval = record { state = c.get-3.ensures i; persistent = c.flag_at-3.ensures i };
    }

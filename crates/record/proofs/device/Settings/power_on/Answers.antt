use Rattle.record.proofs.device.Settings.power_on.Goals as goal

pub returns : goal.returns
returns c =
    let a = c.args in
    λ i. record { read_timer = a.read_timer; write_timer = a.write_timer; write_cache = c.kept.ensures i; reordering = c.kept-2.ensures i; log_interval = c.kept-3.ensures i }

use Rattle.effect.proofs.writes.store.Goals as goal

pub returns : goal.returns
returns c =
    λ i. record { sectors = c.copy_part.ensures i; check_area = c.put.ensures i }

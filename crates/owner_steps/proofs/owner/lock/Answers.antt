use Rattle.store.specs.Entries.{lock_bytes}
use Rattle.owner_steps.proofs.owner.lock.Goals as goal

pub returns : goal.returns
unfolding lock_bytes
returns c = c.put_lock.ensures

-- ‹clauses ['value', 'device']›

use Rattle.store.specs.Entries.{unlock_bytes}
use Rattle.owner_steps.proofs.owner.unlock.Goals as goal

pub returns : goal.returns
unfolding unlock_bytes
returns c = c.put_lock.ensures

-- ‹clauses ['value', 'device']›

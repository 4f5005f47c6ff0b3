use Rattle.store.specs.Sound.{settings_sound}
use Rattle.record_check.proofs.clauses.settings_sound.Goals as goal

pub returns : goal.returns
unfolding settings_sound
returns c = rw (c.timer_named.ensures, c.timer_named-2.ensures, c.states_named.ensures)

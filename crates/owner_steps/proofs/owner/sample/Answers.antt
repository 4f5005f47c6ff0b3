use mathlib.Core.Path.{refl}
use Rattle.wire.proofs.ChoiceLaws.{told}
use Rattle.store.specs.Entries.{sample_bytes}
use Rattle.owner_steps.proofs.owner.sample.Goals as goal

pub returns-then-not-sound : goal.returns-then-not-sound
unfolding sample_bytes
returns-then-not-sound c = rw (told c.sound.ensures c.if-not-sound.true) record {
  value = refl;
  device = refl;
}

pub sample-requires : goal.sample-requires
sample-requires c = told c.sound.ensures c.if-not-sound.false

pub returns : goal.returns
unfolding sample_bytes
returns c =
    rw (told c.sound.ensures c.if-not-sound.false) record {
      value = refl;
      device = c.sample.ensures;
    }

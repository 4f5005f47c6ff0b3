use mathlib.Core.List.{[], ◌∷◌}
use Rattle.store.specs.Record.{decode}
use Rattle.record.proofs.codec.decode.Goals as goal

pub returns : goal.returns
unfolding decode
returns c =
    λ i.
    record {
      device =
          record {
            native = c.native_at-native.ensures i;
            visible = c.visible_at-visible.ensures i;
            locked = c.flag_at-locked.ensures i;
            initialized = c.flag_at-initialized.ensures i;
            command =
                record {
                  code = c.command_at-command.ensures.code i;
                  action = c.command_at-command.ensures.action i;
                  function = c.command_at-command.ensures.function i;
                  fill = c.command_at-command.ensures.fill i;
                  pending = c.slot_at-s0.ensures.pending i ∷ c.slot_at-s1.ensures.pending i ∷ c.slot_at-s2.ensures.pending i ∷ c.slot_at-s3.ensures.pending i ∷ [];
                };
            settings = c.settings_at-settings.ensures i;
            thermal = c.thermal_at-thermal.ensures i;
          };
      stages = c.slot_at-s0.ensures.stage i ∷ c.slot_at-s1.ensures.stage i ∷ c.slot_at-s2.ensures.stage i ∷ c.slot_at-s3.ensures.stage i ∷ [];
    }

use Rattle.store.specs.Record.{decode}
use Rattle.record_check.proofs.SoundnessLaws.{device-tests}
use Rattle.record_check.proofs.clauses.device_sound.Goals as goal

pub returns : goal.returns
unfolding decode
returns c =
    device-tests c.args.device.now c.settings_at-settings.result
    c.native_at-native.ensures
    c.visible_at-visible.ensures
    c.command_sound.ensures
    c.settings_sound.ensures
    c.settings_at-settings.ensures
    c.get.ensures
    c.get-2.ensures

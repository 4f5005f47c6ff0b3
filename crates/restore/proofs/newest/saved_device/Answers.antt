use mathlib.Core.Path.{ap}
use Prim.Native.Nat.{ℕ}
use lib.Dec.{eqb}
use Rattle.model.specs.Image.{saved_at}
use Rattle.restore.proofs.RestoreLaws.{index_kept}
use Rattle.restore.proofs.newest.saved_device.Goals as goal

pub returns : goal.returns
unfolding saved_at
returns c =
    let a = c.args in
    let s = saved_at a.entry.now 0 in
    let es = c.saved_settings-settings.ensures in record {
      at_value = c.powered.ensures.s_value s c.get-native.ensures c.get-visible.ensures (ap (λ (n : ℕ). eqb n 1) c.get-initialized.ensures) c.get-life.ensures es
          (index_kept s _ _ es c.kept_index-index.ensures);
      stages = c.powered.ensures.stages;
    }

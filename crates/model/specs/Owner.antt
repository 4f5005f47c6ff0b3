-- Owner steps on the device: lock, unlock, set V, sample.
use Rattle.std.specs.Prelude.{Bool, ◌&&◌, ℕ, eqb}
use Rattle.model.specs.Device.{Device}
use Rattle.model.specs.Update.{with_locked, with_visible, with_initialized, with_thermal}
use Rattle.model.specs.Temperature.{sampled}
use Rattle.model.specs.Fill.{interrupt}

-- "Locking, unlocking and setting V do the same as other requests": they stop a fill, and nothing stays pending.
unfoldable pub set_lock : Bool → Device → Device
set_lock b d = with_locked b (interrupt d)

-- "The Segment Initialized flag is cleared .. by a changed V".
unfoldable pub set_visible : ℕ → Device → Device
set_visible v d = with_visible v (with_initialized (d.initialized && eqb v d.visible) (interrupt d))

unfoldable pub sample : ℕ → Device → Device
sample reading d = with_thermal (sampled d.settings.log_interval.state reading d.thermal) d

-- The device with one part changed: that part has its new value, and every other part is unchanged.
use mathlib.Core.Path.{◌≡◌, refl}
use mathlib.Core.Bool.{Bool}
use Prim.Native.Nat.{ℕ}
use mathlib.Core.List.{List}
use Rattle.model.specs.Device.{Fill, Transfer, Command, Settings, Thermal, Device}
use Rattle.model.specs.Update.{with_command, with_settings, with_thermal, with_initialized, with_locked, with_visible, with_code, with_key, with_fill, with_pending}

pub record DeviceHas (d : Device) (native visible : ℕ) (locked initialized : Bool) (command : Command) (settings : Settings) (thermal : Thermal) : Type 0 where
  pub is_native : d.native ≡ native
  pub is_visible : d.visible ≡ visible
  pub is_locked : d.locked ≡ locked
  pub is_initialized : d.initialized ≡ initialized
  pub is_command : d.command ≡ command
  pub is_settings : d.settings ≡ settings
  pub is_thermal : d.thermal ≡ thermal

device-has : (d : Device) → DeviceHas d d.native d.visible d.locked d.initialized d.command d.settings d.thermal
device-has d =
    record { is_native = refl; is_visible = refl; is_locked = refl; is_initialized = refl; is_command = refl; is_settings = refl; is_thermal = refl }

module _ (d : Device) where
  pub with-visible : (v : ℕ) → DeviceHas (with_visible v d) d.native v d.locked d.initialized d.command d.settings d.thermal
  with-visible v = device-has (with_visible v d)

  pub with-locked : (b : Bool) → DeviceHas (with_locked b d) d.native d.visible b d.initialized d.command d.settings d.thermal
  with-locked b = device-has (with_locked b d)

  pub with-initialized : (b : Bool) → DeviceHas (with_initialized b d) d.native d.visible d.locked b d.command d.settings d.thermal
  with-initialized b = device-has (with_initialized b d)

  pub with-command : (c : Command) → DeviceHas (with_command c d) d.native d.visible d.locked d.initialized c d.settings d.thermal
  with-command c = device-has (with_command c d)

  pub with-settings : (s : Settings) → DeviceHas (with_settings s d) d.native d.visible d.locked d.initialized d.command s d.thermal
  with-settings s = device-has (with_settings s d)

  pub with-thermal : (t : Thermal) → DeviceHas (with_thermal t d) d.native d.visible d.locked d.initialized d.command d.settings t
  with-thermal t = device-has (with_thermal t d)

-- ---- the last command

pub record CommandHas (c : Command) (code action function : ℕ) (fill : Fill) (pending : List Transfer) : Type 0 where
  pub is_code : c.code ≡ code
  pub is_action : c.action ≡ action
  pub is_function : c.function ≡ function
  pub is_fill : c.fill ≡ fill
  pub is_pending : c.pending ≡ pending

command-has : (c : Command) → CommandHas c c.code c.action c.function c.fill c.pending
command-has c = record { is_code = refl; is_action = refl; is_function = refl; is_fill = refl; is_pending = refl }

module _ (d : Device) where
  abbrev old : Command
  old = d.command

  pub with-code : (n : ℕ) → CommandHas (with_code n d).command n old.action old.function old.fill old.pending
  with-code n = command-has (with_code n d).command

  pub with-key : (a f : ℕ) → CommandHas (with_key a f d).command old.code a f old.fill old.pending
  with-key a f = command-has (with_key a f d).command

  pub with-fill : (f : Fill) (n : ℕ) → CommandHas (with_fill f n d).command n old.action old.function f old.pending
  with-fill f n = command-has (with_fill f n d).command

  pub with-pending : (p : List Transfer) → CommandHas (with_pending p d).command old.code old.action old.function old.fill p
  with-pending p = command-has (with_pending p d).command

  -- .. and nothing else of the device
  pub only-command : (n : ℕ) (a f : ℕ) (g : Fill) (p : List Transfer)
      → (with_code n d ≡ with_command (with_code n d).command d)
      × (with_key a f d ≡ with_command (with_key a f d).command d)
      × (with_fill g n d ≡ with_command (with_fill g n d).command d)
      × (with_pending p d ≡ with_command (with_pending p d).command d)
  only-command n a f g p = (refl, refl, refl, refl)

-- The device with one part changed.
use Rattle.std.specs.Prelude.{Bool, ℕ, List}
use Rattle.model.specs.Device.{Fill, Transfer, Command, Settings, Thermal, Device}

abbrev pub with_command : Command → Device → Device
with_command c d =
    record {
      native = d.native;
      visible = d.visible;
      locked = d.locked;
      initialized = d.initialized;
      command = c;
      settings = d.settings;
      thermal = d.thermal;
    }

abbrev pub with_settings : Settings → Device → Device
with_settings s d =
    record {
      native = d.native;
      visible = d.visible;
      locked = d.locked;
      initialized = d.initialized;
      command = d.command;
      settings = s;
      thermal = d.thermal;
    }

abbrev pub with_thermal : Thermal → Device → Device
with_thermal t d =
    record {
      native = d.native;
      visible = d.visible;
      locked = d.locked;
      initialized = d.initialized;
      command = d.command;
      settings = d.settings;
      thermal = t;
    }

abbrev pub with_initialized : Bool → Device → Device
with_initialized b d =
    record {
      native = d.native;
      visible = d.visible;
      locked = d.locked;
      initialized = b;
      command = d.command;
      settings = d.settings;
      thermal = d.thermal;
    }

abbrev pub with_locked : Bool → Device → Device
with_locked b d =
    record {
      native = d.native;
      visible = d.visible;
      locked = b;
      initialized = d.initialized;
      command = d.command;
      settings = d.settings;
      thermal = d.thermal;
    }

abbrev pub with_visible : ℕ → Device → Device
with_visible v d =
    record {
      native = d.native;
      visible = v;
      locked = d.locked;
      initialized = d.initialized;
      command = d.command;
      settings = d.settings;
      thermal = d.thermal;
    }

-- ---- the last command

abbrev pub with_code : ℕ → Device → Device
with_code n d =
    let c = d.command in
    with_command (record { code = n; action = c.action; function = c.function; fill = c.fill; pending = c.pending }) d

abbrev pub with_key : ℕ → ℕ → Device → Device
with_key a f d =
    let c = d.command in
    with_command (record { code = c.code; action = a; function = f; fill = c.fill; pending = c.pending }) d

-- a fill starts, advances or ends, and the code changes with it
abbrev pub with_fill : Fill → ℕ → Device → Device
with_fill f n d =
    let c = d.command in
    with_command (record { code = n; action = c.action; function = c.function; fill = f; pending = c.pending }) d

abbrev pub with_pending : List Transfer → Device → Device
with_pending p d =
    let c = d.command in
    with_command (record { code = c.code; action = c.action; function = c.function; fill = c.fill; pending = p }) d

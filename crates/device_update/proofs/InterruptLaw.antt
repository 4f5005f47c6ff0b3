-- A struct with the fill stopped and nothing pending means the interrupted device.
use mathlib.Core.Path.{◌≡◌, refl, sym, ap, ◌∙◌}
use mathlib.Core.List.{List, [], ◌∷◌}
use Prim.Native.Nat.{ℕ}
use lib.ListN.{length, get_or}
use Rattle.model.specs.Device.{Fill, idle, running, none, Device}
use Rattle.model.specs.Update.{with_command, with_pending}
use Rattle.model.specs.Fill.{nothing_pending, stop_fill, interrupt}
use Rattle.record.specs.declared.device as code
use Rattle.record.specs.declared.device.Fill.TheVariants.{Idle}
use Rattle.record.specs.DeviceMeaning.{as_fill, as_device}
use Rattle.device_update.specs.Change.{Changed, stopped_code}
use Rattle.device_update.proofs.FourSlots.{Given, four-given}

-- an interrupted device, field by field
interrupt-is : (d : Device) (f : Fill) → d.command.fill ≡ f
    → interrupt d ≡ with_command (record { code = stopped_code f d.command.code; action = d.command.action; function = d.command.function; fill = idle; pending = nothing_pending }) d
unfolding interrupt
interrupt-is d idle e =
    ap (λ (f : Fill). with_pending nothing_pending (stop_fill f d)) e
    ∙ ap (λ (f : Fill). with_command (record { code = d.command.code; action = d.command.action; function = d.command.function; fill = f; pending = nothing_pending }) d) e
interrupt-is d (running first next end) e = rw e

-- the struct that the code builds
abbrev pub interrupted_struct : code.Device.Device → ℕ → List code.Slot.Slot → code.Device.Device
interrupted_struct d n slots =
    record {
      native = d.native;
      visible = d.visible;
      locked = d.locked;
      initialized = d.initialized;
      command = record { code = n; action = d.command.action; function = d.command.function; fill = Idle };
      settings = d.settings;
      thermal = d.thermal;
      slots = slots;
    }

pub interrupted : (d : code.Device.Device) (n : ℕ) (z a b e f : code.Slot.Slot) → length d.slots ≡ 4
    → n ≡ stopped_code (as_fill d.command.fill) d.command.code
    → Given (get_or d.slots 0 z) none a → Given (get_or d.slots 1 z) none b → Given (get_or d.slots 2 z) none e → Given (get_or d.slots 3 z) none f
    → Changed interrupt d (interrupted_struct d n (a ∷ b ∷ e ∷ f ∷ []))
interrupted d n z a b e f four code_is w x y v =
    let s = four-given d.slots z a b e f none none none none four w x y v in
    record {
      device = λ h.
          (λ i. with_command (record { code = code_is i; action = d.command.action; function = d.command.function; fill = idle; pending = s.1 i }) (as_device d h))
          ∙ sym (interrupt-is (as_device d h) (as_fill d.command.fill) refl);
      stages = s.0;
      four = sym four;
    }

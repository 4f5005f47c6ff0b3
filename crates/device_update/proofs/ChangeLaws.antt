-- What a changed struct means: the record's contents with the device changed; one change after another.
use mathlib.Core.Path.{◌≡◌, refl, sym, ap, ◌∙◌}
use mathlib.Core.List.{List}
use Prim.Native.Nat.{ℕ}
use lib.ListN.{length, length-map}
use Rattle.model.specs.Device.{Device}
use Rattle.store.specs.Record.{Contents, decode}
use Rattle.store.specs.Entries.{with_device}
use Rattle.record.specs.declared.device as code
use Rattle.record.specs.DeviceMeaning.{as_contents}
use Rattle.device_update.specs.Change.{Changed}

-- a struct that means a record's contents has four slots
pub four-slots : (d : code.Device.Device) (h r : List ℕ) → as_contents d h ≡ decode r → length d.slots ≡ 4
unfolding decode
four-slots d h r e = sym (length-map d.slots _) ∙ ap (λ (c : Contents). length c.stages) e

pub changed-contents : (rule : Device → Device) (d e : code.Device.Device) (h : List ℕ) (c : Contents)
    → as_contents d h ≡ c → Changed rule d e → as_contents e h ≡ with_device (rule c.device) c
changed-contents rule d e h c says change =
    (λ i. record { device = change.device h i; stages = change.stages i })
    ∙ ap (λ (x : Contents). with_device (rule x.device) x) says

-- an unchanged struct
pub unchanged : (d : code.Device.Device) → Changed (λ x. x) d d
unchanged d = record { device = λ h. refl; stages = refl; four = refl }

-- one rule after another
pub changed_then : (f g : Device → Device) (d e x : code.Device.Device) → Changed f d e → Changed g e x → Changed (λ y. g (f y)) d x
changed_then f g d e x first second =
    record {
      device = λ h. second.device h ∙ ap g (first.device h);
      stages = second.stages ∙ first.stages;
      four = second.four ∙ first.four;
    }

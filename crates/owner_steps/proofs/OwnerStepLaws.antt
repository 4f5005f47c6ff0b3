-- The owner steps: what holds when the checks pass, and the record that is written.
use mathlib.Core.Path.{◌≡◌, sym, ap, ◌∙◌}
use mathlib.Core.Bool.{true}
use mathlib.Core.List.{List}
use Prim.Native.Nat.{ℕ}
use native.Mathlib.Omega.{arith}
use Rattle.wire.specs.Choice.{first_failed}
use Rattle.wire.proofs.ChoiceLaws.{all_pass}
use Rattle.model.specs.Device.{Device}
use Rattle.model.specs.Step.{set_visible}
use Rattle.store.specs.Record.{decode, encode}
use Rattle.store.specs.Sound.{sound}
use Rattle.store.specs.Entries.{owner_done, owner_checks}
use Rattle.record.specs.declared.device as code
use Rattle.record.specs.DeviceMeaning.{as_contents, history_of}
use Rattle.device_update.specs.Change.{Changed}
use Rattle.device_update.proofs.ChangeLaws.{changed-contents}

pub visible-passed : (r : List ℕ) (v : ℕ) {n : ℕ} → n ≡ first_failed (owner_checks (set_visible v) r) → n ≡ 0 → sound r ≡ true
visible-passed r v e z = (all_pass 5 (owner_checks (set_visible v) r) (omega arith) (sym e ∙ z)).0

-- the record that is written for a device changed by a rule
pub owner-written : (rule : Device → Device) (r : List ℕ) (d e : code.Device.Device) → as_contents d (history_of r) ≡ decode r → Changed rule d e
    → encode (as_contents e (history_of r)) ≡ (owner_done rule r).record_area
owner-written rule r d e says change = ap encode (changed-contents rule d e (history_of r) (decode r) says change)

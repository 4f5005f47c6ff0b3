-- The four slots of a struct, each with its stage and a transfer that may be new.
use mathlib.Core.Path.{◌≡◌, refl, sym, ap, ◌∙◌}
use mathlib.Core.List.{List, [], ◌∷◌}
use Prim.Native.Nat.{ℕ, zero, suc, ◌<◌}
use native.Mathlib.Omega.{arith}
use lib.ListN.{length, get_or, set}
use lib.Dec.{eqb}
use Rattle.std.specs.Prelude.{if◌then◌else◌}
use Rattle.model.specs.Device.{Transfer}
use Rattle.model.specs.Update.{with_pending}
use Rattle.record.specs.declared.device as code
use Rattle.record.specs.DeviceMeaning.{as_stage, as_transfer, as_device, stages_of, pending_of}
use Rattle.device_update.specs.Change.{Changed}

-- the slot r has the stage of s, and this transfer pending
abbrev pub Given : code.Slot.Slot → Transfer → code.Slot.Slot → Type 0
Given s t r = (as_stage r.stage ≡ as_stage s.stage) × (as_transfer r.pending ≡ t)

-- four new slots, each with the stage of the old one
pub four-given : (l : List code.Slot.Slot) (z a b e f : code.Slot.Slot) (t u v w : Transfer) → length l ≡ 4
    → Given (get_or l 0 z) t a → Given (get_or l 1 z) u b → Given (get_or l 2 z) v e → Given (get_or l 3 z) w f
    → (stages_of (a ∷ b ∷ e ∷ f ∷ []) ≡ stages_of l) × (pending_of (a ∷ b ∷ e ∷ f ∷ []) ≡ t ∷ u ∷ v ∷ w ∷ [])
four-given [] z a b e f t u v w h g i j k = absurd (omega arith)
four-given (s ∷ []) z a b e f t u v w h g i j k = absurd (omega arith)
four-given (s ∷ q ∷ []) z a b e f t u v w h g i j k = absurd (omega arith)
four-given (s ∷ q ∷ o ∷ []) z a b e f t u v w h g i j k = absurd (omega arith)
four-given (s ∷ q ∷ o ∷ x ∷ []) z a b e f t u v w h g i j k =
    (λ n. g.0 n ∷ i.0 n ∷ j.0 n ∷ k.0 n ∷ [], λ n. g.1 n ∷ i.1 n ∷ j.1 n ∷ k.1 n ∷ [])
four-given (s ∷ q ∷ o ∷ x ∷ y ∷ l) z a b e f t u v w h g i j k = absurd (omega arith)

-- the transfer of slot n after the port p was given one
abbrev pub pending_at : List code.Slot.Slot → code.Slot.Slot → ℕ → Transfer → ℕ → Transfer
pending_at l z p t n = if eqb p n then t else as_transfer (get_or l n z).pending

-- one of four transfers replaced, by comparing
set-of-four : (l : List code.Slot.Slot) (z : code.Slot.Slot) (p : ℕ) (t : Transfer) → length l ≡ 4 → p < 4
    → pending_at l z p t 0 ∷ pending_at l z p t 1 ∷ pending_at l z p t 2 ∷ pending_at l z p t 3 ∷ [] ≡ set (pending_of l) p t
set-of-four [] z p t h below = absurd (omega arith)
set-of-four (s ∷ []) z p t h below = absurd (omega arith)
set-of-four (s ∷ q ∷ []) z p t h below = absurd (omega arith)
set-of-four (s ∷ q ∷ o ∷ []) z p t h below = absurd (omega arith)
set-of-four (s ∷ q ∷ o ∷ x ∷ []) z zero t h below = refl
set-of-four (s ∷ q ∷ o ∷ x ∷ []) z (suc zero) t h below = refl
set-of-four (s ∷ q ∷ o ∷ x ∷ []) z (suc (suc zero)) t h below = refl
set-of-four (s ∷ q ∷ o ∷ x ∷ []) z (suc (suc (suc zero))) t h below = refl
set-of-four (s ∷ q ∷ o ∷ x ∷ []) z (suc (suc (suc (suc p)))) t h below = absurd (omega arith)
set-of-four (s ∷ q ∷ o ∷ x ∷ y ∷ l) z p t h below = absurd (omega arith)

abbrev with_slots : code.Device.Device → List code.Slot.Slot → code.Device.Device
with_slots d slots =
    record {
      native = d.native;
      visible = d.visible;
      locked = d.locked;
      initialized = d.initialized;
      command = d.command;
      settings = d.settings;
      thermal = d.thermal;
      slots = slots;
    }

-- the slot n, given the transfer if it is the port's
abbrev GivenAt : code.Device.Device → code.Slot.Slot → ℕ → Transfer → ℕ → code.Slot.Slot → Type 0
GivenAt d z p t n r = Given (get_or d.slots n z) (pending_at d.slots z p t n) r

pub pending-set : (d : code.Device.Device) (p : ℕ) (t : code.Transfer.Transfer) (z a b e f : code.Slot.Slot) → length d.slots ≡ 4 → p < 4
    → GivenAt d z p (as_transfer t) 0 a → GivenAt d z p (as_transfer t) 1 b → GivenAt d z p (as_transfer t) 2 e → GivenAt d z p (as_transfer t) 3 f
    → Changed (λ x. with_pending (set x.command.pending p (as_transfer t)) x) d (with_slots d (a ∷ b ∷ e ∷ f ∷ []))
pending-set d p t z a b e f four below g i j k =
    let s = four-given d.slots z a b e f _ _ _ _ four g i j k in
    record {
      device = λ h. ap (λ (ts : List Transfer). with_pending ts (as_device d h)) (s.1 ∙ set-of-four d.slots z p (as_transfer t) four below);
      stages = s.0;
      four = sym four;
    }

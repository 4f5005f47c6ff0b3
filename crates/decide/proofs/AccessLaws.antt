-- How a data transfer and an access to one sector are decided: from the called functions' contracts to the model's decision.
use mathlib.Core.Path.{◌≡◌, sym, ap, ◌∙◌}
use mathlib.Core.Bool.{Bool}
use mathlib.Core.List.{List}
use Prim.Native.Nat.{ℕ}
use lib.ListN.{get_or}
use Rattle.wire.specs.Choice.{first_failed, if_passed}
use Rattle.wire.proofs.ChoiceLaws.{passed-not}
use Rattle.model.specs.Device.{Transfer, none, Device}
use Rattle.model.specs.Update.{with_code}
use Rattle.model.specs.Registers.{Direction, Registers, data_of, long_data_of, good, refused, refused_with}
use Rattle.model.specs.Fill.{interrupt}
use Rattle.model.specs.Decide.{nothing, Decision, decision, data_checks, transfer_effect, decide_data, sector_checks, sector_effect, decide_sector, pending_for}
use Rattle.model.proofs.RequestLaws.{interrupt-kept}
use Rattle.record.specs.declared.device as device
use Rattle.record.specs.DeviceMeaning.{as_device, pending_of}
use Rattle.device_update.specs.Change.{Changed}
use Rattle.decision.specs.declared.decision as code
use Rattle.decision.specs.DecisionMeaning.{Says, Decided}
use Rattle.device_update.proofs.ChangeLaws.{changed_then}
use Rattle.decision.proofs.DecidedLaws.{says-decided, decided-as, decided-then}

-- ---- the data transfer

module _ (d e f : device.Device.Device) (p : ℕ) (dir : Direction) (count n : ℕ) (t : Transfer) (m : List ℕ) (k : code.Decision.Decision)
    (pends : t ≡ get_or (pending_of d.slots) p none) (judged : n ≡ first_failed (data_checks d.locked dir count t)) (stop : Changed interrupt d e) (coded : Changed (with_code n) e f) where
  -- what is decided if the first check that fails has the number c
  abbrev choice : ℕ → Transfer → Device → Decision
  choice c u x = if_passed c (decision (with_code 0x0000 (interrupt x)) (good 0 0) (transfer_effect u (long_data_of m))) (decision (with_code c (interrupt x)) (refused_with c 0) nothing)

  abbrev rule : Device → Decision
  rule x = decide_data dir count (pending_for p x) (long_data_of m) (interrupt x)

  -- stopping a fill changes nothing that the checks read
  chosen : (h : List ℕ) → choice n t (as_device d h) ≡ rule (as_device d h)
  unfolding decide_data
  chosen h =
      let x = as_device d h in
      let same : n ≡ first_failed (data_checks (interrupt x).locked dir count t) =
      judged ∙ ap (λ (b : Bool). first_failed (data_checks b dir count t)) (sym (ap (λ (y : Device). y.locked) (interrupt-kept x))) in
      ap (λ (c : ℕ). choice c t x) same
      ∙ ap (λ (u : Transfer). choice (first_failed (data_checks (interrupt x).locked dir count u)) u x) pends

  stopped : Changed (λ x. with_code n (interrupt x)) d f
  stopped = changed_then interrupt (with_code n) d e f stop coded

  -- THE LAWS of a transfer: refused, and completed
  pub data-refused : (n ≡ 0 → ⊥) → (q : Registers) → q ≡ refused_with n 0 → Says f q (λ m. nothing) k → Decided m rule d k
  data-refused ne q registers says =
      decided-as m (λ x. decision (with_code n (interrupt x)) (refused_with n 0) nothing) rule d k
      (λ h. sym (passed-not n _ (decision (with_code n (interrupt (as_device d h))) (refused_with n 0) nothing) ne) ∙ chosen h)
      (says-decided m (λ x. with_code n (interrupt x)) (λ x. refused_with n 0) (λ m. nothing) d f q k says stopped (λ h. registers))

  pub data-completed : n ≡ 0 → Decided m (λ x. decision x (good 0 0) (transfer_effect t (long_data_of m))) f k → Decided m rule d k
  data-completed z done =
      decided-as m (λ x. decision (with_code n (interrupt x)) (good 0 0) (transfer_effect t (long_data_of m))) rule d k
      (λ h.
      ap (λ (c : ℕ). decision (with_code c (interrupt (as_device d h))) (good 0 0) (transfer_effect t (long_data_of m))) z
      ∙ ap (λ (c : ℕ). choice c t (as_device d h)) (sym z)
      ∙ chosen h)
      (decided-then m (λ x. with_code n (interrupt x)) (λ x. decision x (good 0 0) (transfer_effect t (long_data_of m))) d f k stopped done)

-- ---- one sector

module _ (d e : device.Device.Device) (dir : Direction) (count lba n : ℕ) (m : List ℕ) (k : code.Decision.Decision)
    (judged : (x : Device) → x.locked ≡ d.locked → x.visible ≡ d.visible → n ≡ first_failed (sector_checks x count lba)) (stop : Changed interrupt d e) where
  abbrev access : ℕ → Device → Decision
  access c x = if_passed c (decision (interrupt x) (good 0 0) (sector_effect dir lba (data_of m))) (decision (interrupt x) (refused c) nothing)

  abbrev access_rule : Device → Decision
  access_rule x = decide_sector dir count lba (data_of m) (interrupt x)

  allowed : (h : List ℕ) → access n (as_device d h) ≡ access_rule (as_device d h)
  unfolding decide_sector
  allowed h =
      let x = as_device d h in
      let same = interrupt-kept x in
      ap (λ (c : ℕ). access c x) (judged (interrupt x) (ap (λ (y : Device). y.locked) same) (ap (λ (y : Device). y.visible) same))

  -- THE LAWS of an access: refused, and done
  pub access-refused : (n ≡ 0 → ⊥) → (q : Registers) → q ≡ refused n → Says e q (λ m. nothing) k → Decided m access_rule d k
  access-refused ne q registers says =
      decided-as m (λ x. decision (interrupt x) (refused n) nothing) access_rule d k
      (λ h. sym (passed-not n _ (decision (interrupt (as_device d h)) (refused n) nothing) ne) ∙ allowed h)
      (says-decided m interrupt (λ x. refused n) (λ m. nothing) d e q k says stop (λ h. registers))

  pub access-done : n ≡ 0 → Decided m (λ x. decision x (good 0 0) (sector_effect dir lba (data_of m))) e k → Decided m access_rule d k
  access-done z done =
      decided-as m (λ x. decision (interrupt x) (good 0 0) (sector_effect dir lba (data_of m))) access_rule d k
      (λ h. ap (λ (c : ℕ). access c (as_device d h)) (sym z) ∙ allowed h)
      (decided-then m interrupt (λ x. decision x (good 0 0) (sector_effect dir lba (data_of m))) d e k stop done)

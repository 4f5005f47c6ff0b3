-- Laws of stopping a fill, and of lock, unlock and set V.
use mathlib.Core.Path.{◌≡◌, refl, ap}
use mathlib.Core.Bool.{Bool, true, false, and-true, and-false}
use Prim.Native.Nat.{ℕ, ◌≤◌}
use borrow.Author.Tests.{eq-eqb, ne_eqb}
use Rattle.wire.proofs.ChoiceLaws.{between-within, pass_all}
use Rattle.model.specs.Device.{Fill, idle, running, Device}
use Rattle.model.specs.Fill.{nothing_pending, stop_fill, interrupt}
use Rattle.model.specs.Owner.{set_lock}
use Rattle.model.specs.Owner.{set_visible as set_visible_device}
use Rattle.model.specs.Machine.{Machine, machine}
use Rattle.model.specs.Step.{lock, unlock, set_visible, owner, checks, does, seen_done, step}
use Rattle.model.proofs.StepLaws.{step-done}
use Rattle.model.proofs.RequestLaws.{interrupt-kept}
use Rattle.model.proofs.RecordedLaws.{interrupt-recorded}

-- no fill runs, and nothing is pending
pub record Quiet (d : Device) : Type 0 where
  pub no_fill : d.command.fill ≡ idle
  pub no_transfer : d.command.pending ≡ nothing_pending

pub interrupt-quiet : (d : Device) → Quiet (interrupt d)
unfolding interrupt
interrupt-quiet d = record { no_fill = go d.command.fill refl; no_transfer = refl }
  where
    go : (f : Fill) → d.command.fill ≡ f → (stop_fill f d).command.fill ≡ idle
    go idle e = e
    go (running first next end) e = refl

-- "stops a running fill (code 0008h)"
pub interrupt-code-running : (d : Device) (first next end : ℕ) → d.command.fill ≡ running first next end → (interrupt d).command.code ≡ 0x0008
unfolding interrupt
interrupt-code-running d first next end e = rw e

-- "stored code unchanged unless a fill was stopped"
pub interrupt-code-idle : (d : Device) → d.command.fill ≡ idle → (interrupt d).command.code ≡ d.command.code
unfolding interrupt
interrupt-code-idle d e = ap (λ (f : Fill). (stop_fill f d).command.code) e

-- ---- "Locking, unlocking and setting V do the same as other requests"

pub lock-quiet : (M : Machine) → Quiet (step (owner lock) M).state.device × ((step (owner lock) M).state.device.locked ≡ true)
unfolding step set_lock
lock-quiet M = let q = interrupt-quiet M.device in (record { no_fill = q.no_fill; no_transfer = q.no_transfer }, refl)

pub unlock-quiet : (M : Machine) → Quiet (step (owner unlock) M).state.device × ((step (owner unlock) M).state.device.locked ≡ false)
unfolding step set_lock
unlock-quiet M = let q = interrupt-quiet M.device in (record { no_fill = q.no_fill; no_transfer = q.no_transfer }, refl)

-- N, V, flag, settings, temperatures, action, function, ports and disk are unchanged
pub record LockKeeps (M N : Machine) : Type 0 where
  pub sizes : (N.device.native ≡ M.device.native) × (N.device.visible ≡ M.device.visible)
  pub initialized : N.device.initialized ≡ M.device.initialized
  pub settings : N.device.settings ≡ M.device.settings
  pub thermal : N.device.thermal ≡ M.device.thermal
  pub words : (N.device.command.action ≡ M.device.command.action) × (N.device.command.function ≡ M.device.command.function)
  pub ports : N.ports ≡ M.ports
  pub disk : N.disk ≡ M.disk

lock-kept : (b : Bool) (M : Machine) → LockKeeps M (machine (set_lock b M.device) M.sector M.ports M.disk)
unfolding set_lock
lock-kept b M =
    let same = interrupt-kept M.device in
    let words = interrupt-recorded M.device in
    record {
      sizes = (ap (λ (d : Device). d.native) same, ap (λ (d : Device). d.visible) same);
      initialized = ap (λ (d : Device). d.initialized) same;
      settings = ap (λ (d : Device). d.settings) same;
      thermal = ap (λ (d : Device). d.thermal) same;
      words = (words.is_action, words.is_function);
      ports = refl;
      disk = refl;
    }

pub lock-keeps : (M : Machine) → LockKeeps M (step (owner lock) M).state × LockKeeps M (step (owner unlock) M).state
unfolding step
lock-keeps M = (lock-kept true M, lock-kept false M)

-- the same, except for the flag, which has its own laws
pub record VisibleKeeps (M N : Machine) : Type 0 where
  pub native : N.device.native ≡ M.device.native
  pub locked : N.device.locked ≡ M.device.locked
  pub settings : N.device.settings ≡ M.device.settings
  pub thermal : N.device.thermal ≡ M.device.thermal
  pub words : (N.device.command.action ≡ M.device.command.action) × (N.device.command.function ≡ M.device.command.function)
  pub ports : N.ports ≡ M.ports
  pub disk : N.disk ≡ M.disk

module _ (v : ℕ) (M : Machine) (some : 1 ≤ v) (most : v ≤ M.device.native) where
  visible-set : step (owner (set_visible v)) M ≡ record { state = does (owner (set_visible v)) M; seen = seen_done (owner (set_visible v)) M }
  visible-set = step-done (owner (set_visible v)) M (pass_all (checks (owner (set_visible v)) M) (between-within 1 v M.device.native some most, tt))

  -- a fill does not continue after V has changed
  pub visible-quiet : Quiet (step (owner (set_visible v)) M).state.device
  unfolding set_visible_device
  visible-quiet = let q = interrupt-quiet M.device in rw visible-set (record { no_fill = q.no_fill; no_transfer = q.no_transfer })

  pub visible-is : (step (owner (set_visible v)) M).state.device.visible ≡ v
  unfolding set_visible_device
  visible-is = rw visible-set

  -- "cleared .. by a changed V"; the same V keeps it
  pub visible-changed : (v ≡ M.device.visible → ⊥) → (step (owner (set_visible v)) M).state.device.initialized ≡ false
  unfolding set_visible_device
  visible-changed ne = rw (visible-set, ne_eqb v M.device.visible ne) (and-false M.device.initialized)

  pub visible-same : v ≡ M.device.visible → (step (owner (set_visible v)) M).state.device.initialized ≡ M.device.initialized
  unfolding set_visible_device
  visible-same e = rw (visible-set, eq-eqb v M.device.visible e) (and-true M.device.initialized)

  -- a new V does not change N, the lock, settings, temperatures, action, function, ports and disk
  pub visible-keeps : VisibleKeeps M (step (owner (set_visible v)) M).state
  unfolding set_visible_device
  visible-keeps =
      let same = interrupt-kept M.device in
      let words = interrupt-recorded M.device in
      rw visible-set
      (
      record {
        native = ap (λ (d : Device). d.native) same;
        locked = ap (λ (d : Device). d.locked) same;
        settings = ap (λ (d : Device). d.settings) same;
        thermal = ap (λ (d : Device). d.thermal) same;
        words = (words.is_action, words.is_function);
        ports = refl;
        disk = refl;
      }
      )

-- ---- "stops a running fill (code 0008h)"

pub lock-code : (M : Machine) (first next end : ℕ) → M.device.command.fill ≡ running first next end
    → ((step (owner lock) M).state.device.command.code ≡ 0x0008) × ((step (owner unlock) M).state.device.command.code ≡ 0x0008)
unfolding step set_lock
lock-code M first next end e = (interrupt-code-running M.device first next end e, interrupt-code-running M.device first next end e)

pub visible-code : (v : ℕ) (M : Machine) → 1 ≤ v → v ≤ M.device.native → (first next end : ℕ) → M.device.command.fill ≡ running first next end
    → (step (owner (set_visible v)) M).state.device.command.code ≡ 0x0008
unfolding set_visible_device
visible-code v M some most first next end e = rw (visible-set v M some most) (interrupt-code-running M.device first next end e)

-- ---- with no fill the stored code is unchanged

pub lock-code-idle : (M : Machine) → M.device.command.fill ≡ idle
    → ((step (owner lock) M).state.device.command.code ≡ M.device.command.code) × ((step (owner unlock) M).state.device.command.code ≡ M.device.command.code)
unfolding step set_lock
lock-code-idle M e = (interrupt-code-idle M.device e, interrupt-code-idle M.device e)

pub visible-code-idle : (v : ℕ) (M : Machine) → 1 ≤ v → v ≤ M.device.native → M.device.command.fill ≡ idle
    → (step (owner (set_visible v)) M).state.device.command.code ≡ M.device.command.code
unfolding set_visible_device
visible-code-idle v M some most e = rw (visible-set v M some most) (interrupt-code-idle M.device e)

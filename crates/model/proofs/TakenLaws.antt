-- A request is the bytes that take copied; later changes of the mailboxes do not change what it does.
use mathlib.Core.Path.{◌≡◌, refl, sym, ap, ◌∙◌}
use mathlib.Core.Bool.{Bool, true, false}
use Prim.Native.Nat.{ℕ, zero, suc, ◌<◌}
use native.Mathlib.Omega.{arith}
use mathlib.Core.List.{List, [], ◌∷◌}
use Rattle.wire.specs.Choice.{first_failed}
use Rattle.wire.proofs.ChoiceLaws.{all_pass}
use Rattle.model.specs.Sizes.{port_count}
use Rattle.model.specs.Decide.{Serving, Decision, decide}
use Rattle.model.specs.Perform.{volume_after, reply_of}
use Rattle.model.specs.Machine.{Port, empty, request, Machine, with_port}
use Rattle.model.specs.Step.{Step, take, serve, give, work, owner, repair, save, power_on, is_empty, is_reply, Outcome, checks, does, served, serve_decided, worked, repaired, step}
use Rattle.model.specs.Valid.{Each}
use Rattle.model.proofs.StepLaws.{step-done, step-refused, answer-is, answers-numbered, port-other}
use Rattle.model.proofs.RequestLaws.{Serves, serves}

-- a step that does not serve port p, and is not a power-on that is done; f is how a step acts on a state, as in a trace
abbrev pub LeavesRequest : {S : Type 0} → (Step → S → Outcome S) → ℕ → Step → S → Type 0
LeavesRequest f p (take q m) s = Unit {0}
LeavesRequest f p (serve x) s = x.port ≡ p → ⊥
LeavesRequest f p (give q m) s = Unit {0}
LeavesRequest f p (work n) s = Unit {0}
LeavesRequest f p (owner x) s = Unit {0}
LeavesRequest f p (repair lba) s = Unit {0}
LeavesRequest f p (save image used) s = Unit {0}
LeavesRequest f p (power_on image used) s = (f (power_on image used) s).seen.answer ≡ 0 → ⊥

-- .. and the same for every step of a list
abbrev pub AllLeave : {S : Type 0} → (Step → S → Outcome S) → ℕ → List Step → S → Type 0
AllLeave f p [] s = Unit {0}
AllLeave f p (x ∷ xs) s = LeavesRequest f p x s × AllLeave f p xs (f x s).state

-- the machine after a list of steps
abbrev pub after : List Step → Machine → Machine
after [] M = M
after (x ∷ xs) M = after xs (step x M).state

-- a step on another port leaves the request
other-port : (p q : ℕ) (x : Port) (m : List ℕ) (M : Machine) → M.ports p ≡ request m → (q ≡ p → ⊥) → with_port q x M.ports p ≡ request m
other-port p q x m M held ne = port-other q p x M.ports (λ e. ne (sym e)) ∙ held

module _ (p : ℕ) (m : List ℕ) (M : Machine) (held : M.ports p ≡ request m) where
  -- a take or a give that is done was on another port
  done-elsewhere : (q : ℕ) (stage : Port → Bool) → stage (M.ports q) ≡ true → stage (request m) ≡ false → q ≡ p → ⊥
  done-elsewhere q stage e f same =
      let at : stage (request m) ≡ true = ap stage (sym held ∙ ap M.ports (sym same)) ∙ e in
      let z : ◌≡◌ {A = ℕ} 0 1 = cc in
      omega arith

  does-leaves : (x : Step) → LeavesRequest step p x M → first_failed (checks x M) ≡ 0 → (does x M).ports p ≡ request m
  unfolding served serve_decided worked repaired
  does-leaves (take q n) l e =
      let pass = all_pass 8 (checks (take q n) M) (answers-numbered (take q n) M) e in
      other-port p q (request n) m M held (done-elsewhere q is_empty pass.1.1.0 refl)
  does-leaves (serve s) l e = other-port p s.port _ m M held l
  does-leaves (give q n) l e =
      let pass = all_pass 8 (checks (give q n) M) (answers-numbered (give q n) M) e in
      other-port p q empty m M held (done-elsewhere q is_reply pass.1.1.0 refl)
  does-leaves (work n) l e = held
  does-leaves (owner x) l e = held
  does-leaves (repair lba) l e = held
  does-leaves (save image used) l e = held
  does-leaves (power_on image used) l e = absurd (l (answer-is (power_on image used) M ∙ e))

  request-stays : (x : Step) → LeavesRequest step p x M → (step x M).state.ports p ≡ request m
  request-stays x l = go (first_failed (checks x M)) refl
    where
      go : (n : ℕ) → first_failed (checks x M) ≡ n → (step x M).state.ports p ≡ request m
      go zero e = rw (step-done x M e) (does-leaves x l e)
      go (suc n) e = rw (step-refused x M n e) held

-- THEOREM: a request in a port is the mailbox that was taken, until it is served or a power-on is done: a refused power-on does not change it.
pub requests-stay : (p : ℕ) (m : List ℕ) (xs : List Step) (M : Machine) → M.ports p ≡ request m → AllLeave step p xs M → (after xs M).ports p ≡ request m
requests-stay p m [] M held e = held
requests-stay p m (x ∷ xs) M held e = requests-stay p m xs (step x M).state (request-stays p m M held x e.0) e.1

-- So it is served from those bytes, on the device and the disk of that time, whatever mailboxes the steps in between were fed.
pub served-as-taken : (s : Serving) (m : List ℕ) (xs : List Step) (M : Machine) → s.port < port_count → M.ports s.port ≡ request m → AllLeave step s.port xs M
    → (c : Decision) → decide s m (after xs M).device ≡ c
    → Serves s (after xs M) (reply_of c (volume_after c (after xs M).disk)) (volume_after c (after xs M).disk).device (volume_after c (after xs M).disk).disk
served-as-taken s m xs M port held e c d = serves s (after xs M) m port (requests-stay s.port m xs M held e) d

-- ---- mailboxes of other ports

-- a take or a give on another port, with any mailbox
abbrev pub OnOtherPort : ℕ → Step → Type 0
OnOtherPort p (take q m) = q ≡ p → ⊥
OnOtherPort p (serve s) = ⊥
OnOtherPort p (give q m) = q ≡ p → ⊥
OnOtherPort p (work n) = ⊥
OnOtherPort p (owner x) = ⊥
OnOtherPort p (repair lba) = ⊥
OnOtherPort p (save image used) = ⊥
OnOtherPort p (power_on image used) = ⊥

-- what a serve of port p sees of a machine
pub record SameAt (p : ℕ) (M N : Machine) : Type 0 where
  pub device : M.device ≡ N.device
  pub disk : M.disk ≡ N.disk
  pub port : M.ports p ≡ N.ports p

step-on-other : (p : ℕ) (x : Step) (M : Machine) → OnOtherPort p x → SameAt p (step x M).state M
step-on-other p x M o = go (first_failed (checks x M)) refl
  where
    changed : (x : Step) → OnOtherPort p x → SameAt p (does x M) M
    changed (take q m) ne = record { device = refl; disk = refl; port = port-other q p (request m) M.ports (λ e. ne (sym e)) }
    changed (serve s) o = absurd o
    changed (give q m) ne = record { device = refl; disk = refl; port = port-other q p empty M.ports (λ e. ne (sym e)) }
    changed (work n) o = absurd o
    changed (owner x) o = absurd o
    changed (repair lba) o = absurd o
    changed (save image used) o = absurd o
    changed (power_on image used) o = absurd o

    go : (n : ℕ) → first_failed (checks x M) ≡ n → SameAt p (step x M).state M
    go zero e = rw (step-done x M e) (changed x o)
    go (suc n) e = rw (step-refused x M n e) (record { device = refl; disk = refl; port = refl })

-- THEOREM: a serve of port p sees the same, whatever the mailboxes of other ports hold at their takes and gives.
pub others-unseen : (p : ℕ) (xs : List Step) (M : Machine) → Each (OnOtherPort p) xs → SameAt p (after xs M) M
others-unseen p [] M e = record { device = refl; disk = refl; port = refl }
others-unseen p (x ∷ xs) M e =
    let a = others-unseen p xs (step x M).state e.1 in
    let b = step-on-other p x M e.0 in
    record { device = a.device ∙ b.device; disk = a.disk ∙ b.disk; port = a.port ∙ b.port }

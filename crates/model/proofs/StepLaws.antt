-- Laws of a step: done or refused, and the order of the refusals; and of a list of steps.
use Rattle.std.specs.Prelude.{if◌then◌else◌}
use mathlib.Core.Path.{◌≡◌, refl, sym, ap, ◌∙◌}
use mathlib.Core.Bool.{Bool, true, ◌&&◌}
use Prim.Native.Nat.{ℕ, zero, suc, ◌<◌}
use native.Mathlib.Omega.{arith}
use mathlib.Core.List.{List, [], ◌∷◌}
use lib.ListN.{length}
use lib.Dec.{eqb, leb}
use borrow.Author.Tests.{eq-eqb, ne_eqb, lt-ltb}
use Rattle.wire.specs.Choice.{Check, first_failed, if_passed}
use Rattle.wire.proofs.ChoiceLaws.{Numbered, attempt-refused, attempt-done, pass_all}
use Rattle.model.specs.Sizes.{port_count, mailbox_size, done, refusal_order}
use Rattle.model.specs.Machine.{Port, empty, request, reply, Machine, while_running, with_port}
use Rattle.model.specs.Step.{Step, take, serve, give, work, owner, repair, save, power_on, Seen, Outcome, checks, unchanged, seen_done, answered_mailbox, does, guarded, step, trace}

-- the trace of a list is the first step's outcome, and the trace of the rest from the state that it leaves
pub trace-first : {S : Type 0} (f : Step → S → Outcome S) (x : Step) (xs : List Step) (s : S)
    → (trace f [] s ≡ []) × (trace f (x ∷ xs) s ≡ f x s ∷ trace f xs (f x s).state)
trace-first f x xs s = (refl, refl)

-- a step that no check refuses is done
pub step-done : (x : Step) (M : Machine) → first_failed (checks x M) ≡ 0 → step x M ≡ record { state = does x M; seen = seen_done x M }
unfolding step
step-done x M e = attempt-done (guarded x M) 0 (sym e) refl

-- "A nonzero answer changes nothing anywhere": the machine, the mailbox and the image are unchanged, and count and report are 0
pub step-refused : (x : Step) (M : Machine) (n : ℕ) → first_failed (checks x M) ≡ suc n → step x M ≡ record { state = M; seen = unchanged x (suc n) }
unfolding step
step-refused x M n e = attempt-refused (guarded x M) (suc n) (sym e) (λ z. omega (arith, z))

-- the answer is the number of the first check that fails
seen_done_lem : (x : Step) (M : Machine) → (seen_done x M).answer ≡ done
seen_done_lem (take p m) M = refl
seen_done_lem (serve s) M = refl
seen_done_lem (give p m) M = refl
seen_done_lem (work n) M = refl
seen_done_lem (owner x) M = refl
seen_done_lem (repair lba) M = refl
seen_done_lem (save image used) M = refl
seen_done_lem (power_on image used) M = refl

unchanged-answer : (x : Step) (n : ℕ) → (unchanged x n).answer ≡ n
unchanged-answer (take p m) n = refl
unchanged-answer (serve s) n = refl
unchanged-answer (give p m) n = refl
unchanged-answer (work k) n = refl
unchanged-answer (owner x) n = refl
unchanged-answer (repair lba) n = refl
unchanged-answer (save image used) n = refl
unchanged-answer (power_on image used) n = refl

-- the answer of an outcome that is done, or refused with a number, is that number
pub answer-first : {S : Type 0} (x : Step) (n : ℕ) (o : Outcome S) (s t : S) (success : Seen) → success.answer ≡ done
    → (n ≡ 0 → o ≡ record { state = t; seen = success }) → ((k : ℕ) → n ≡ suc k → o ≡ record { state = s; seen = unchanged x (suc k) }) → o.seen.answer ≡ n
answer-first {S} x zero o s t success e f g = ap (λ (y : Outcome S). y.seen.answer) (f refl) ∙ e
answer-first {S} x (suc k) o s t success e f g = ap (λ (y : Outcome S). y.seen.answer) (g k refl) ∙ unchanged-answer x (suc k)

pub answer-is : (x : Step) (M : Machine) → (step x M).seen.answer ≡ first_failed (checks x M)
answer-is x M = answer-first x (first_failed (checks x M)) (step x M) M (does x M) (seen_done x M) (seen_done_lem x M) (step-done x M) (step-refused x M)

-- ---- "Order where several apply: 4, 2, 1, 5, 3, 6, 7, 8."; W-204: "answer 9, after 6"

pub order-numbers : refusal_order ≡ 4 ∷ 2 ∷ 1 ∷ 5 ∷ 3 ∷ 6 ∷ 7 ∷ 8 ∷ 9 ∷ []
order-numbers = refl

-- the position of a number in a list
abbrev pub place : List ℕ → ℕ → ℕ
place [] n = 0
place (m ∷ ms) n = if eqb m n then 0 else suc (place ms n)

-- from a position of that order on, the checks' numbers follow it
abbrev pub keeps_order : ℕ → List Check → Bool
keeps_order from [] = true
keeps_order from (c ∷ cs) = leb from (place refusal_order c.1) && keeps_order (place refusal_order c.1) cs

pub order-kept : (x : Step) (M : Machine) → keeps_order 0 (checks x M) ≡ true
order-kept (take p m) M = refl
order-kept (serve s) M = refl
order-kept (give p m) M = refl
order-kept (work n) M = refl
order-kept (owner x) M = refl
order-kept (repair lba) M = refl
order-kept (save image used) M = refl
order-kept (power_on image used) M = refl

-- every refusal has a number from 1 to 8
pub answers-numbered : (x : Step) (M : Machine) → Numbered 8 (checks x M)
answers-numbered (take p m) M = (omega arith, omega arith, (omega arith, omega arith, (omega arith, omega arith, tt)))
answers-numbered (serve s) M = (omega arith, omega arith, (omega arith, omega arith, tt))
answers-numbered (give p m) M = (omega arith, omega arith, (omega arith, omega arith, (omega arith, omega arith, tt)))
answers-numbered (work n) M = tt
answers-numbered (owner x) M = (omega arith, omega arith, tt)
answers-numbered (repair lba) M = (omega arith, omega arith, tt)
answers-numbered (save image used) M = (omega arith, omega arith, (omega arith, omega arith, (omega arith, omega arith, (omega arith, omega arith, tt))))
answers-numbered (power_on image used) M = (omega arith, omega arith, (omega arith, omega arith, (omega arith, omega arith, (omega arith, omega arith, tt))))

-- ---- ports

pub port-same : (p : ℕ) (x : Port) (ports : ℕ → Port) → with_port p x ports p ≡ x
port-same p x ports = rw (eq-eqb p p refl)

pub port-other : (p q : ℕ) (x : Port) (ports : ℕ → Port) → (q ≡ p → ⊥) → with_port p x ports q ≡ ports q
port-other p q x ports ne = rw (ne_eqb q p ne)

-- ---- take and give

-- Take "copies the mailbox into the port's slot": it answers 0, and the port holds the mailbox's bytes, whatever they are
pub take-keeps : (p : ℕ) (m : List ℕ) (M : Machine) → p < port_count → length m ≡ mailbox_size → M.ports p ≡ empty
    → ((step (take p m) M).seen ≡ answered_mailbox done m) × ((step (take p m) M).state.ports p ≡ request m)
take-keeps p m M h size e =
    rw (step-done (take p m) M (pass_all (checks (take p m) M) (eq-eqb (length m) mailbox_size size, (lt-ltb p port_count h, (rw e, tt)))))
    (refl, port-same p (request m) M.ports)

-- "Give .. writes all 528 reply bytes to the mailbox. Answered to empty": 1,040 since W-202
pub give-delivers : (p : ℕ) (m r : List ℕ) (M : Machine) → p < port_count → length m ≡ mailbox_size → M.ports p ≡ reply r
    → ((step (give p m) M).seen ≡ answered_mailbox done r) × ((step (give p m) M).state.ports p ≡ empty)
give-delivers p m r M h size e =
    rw (step-done (give p m) M (pass_all (checks (give p m) M) (eq-eqb (length m) mailbox_size size, (lt-ltb p port_count h, (rw e, tt)))))
    (rw e, port-same p empty M.ports)

-- a take or a give changes only its port
pub record PortAlone (p : ℕ) (M N : Machine) : Type 0 where
  pub device : N.device ≡ M.device
  pub disk : N.disk ≡ M.disk
  pub sector : N.sector ≡ while_running M.device.command.fill M.sector
  pub others : (q : ℕ) → (q ≡ p → ⊥) → N.ports q ≡ M.ports q

pub take-alone : (p : ℕ) (m : List ℕ) (M : Machine) → (step (take p m) M).seen.answer ≡ 0 → PortAlone p M (step (take p m) M).state
take-alone p m M e =
    rw (step-done (take p m) M (sym (answer-is (take p m) M) ∙ e))
    (record { device = refl; disk = refl; sector = refl; others = λ q ne. port-other p q (request m) M.ports ne })

pub give-alone : (p : ℕ) (m : List ℕ) (M : Machine) → (step (give p m) M).seen.answer ≡ 0 → PortAlone p M (step (give p m) M).state
give-alone p m M e =
    rw (step-done (give p m) M (sym (answer-is (give p m) M) ∙ e))
    (record { device = refl; disk = refl; sector = refl; others = λ q ne. port-other p q empty M.ports ne })

-- the bytes in the mailbox before a give make no difference
pub give-blind : (p : ℕ) (m n : List ℕ) (M : Machine) → length m ≡ length n → (step (give p m) M).state ≡ (step (give p n) M).state
unfolding step
give-blind p m n M e = rw e (go (first_failed (checks (give p n) M)))
  where
    go : (k : ℕ)
        → (if_passed k (guarded (give p m) M).done ((guarded (give p m) M).refused k)).state
        ≡ (if_passed k (guarded (give p n) M).done ((guarded (give p n) M).refused k)).state
    go zero = refl
    go (suc k) = refl

-- ---- the buffers

-- what a step is fed: a mailbox, an image, its used length; [] and 0 if it is fed none
abbrev pub mailbox_of : Step → List ℕ
mailbox_of (take p m) = m
mailbox_of (serve s) = []
mailbox_of (give p m) = m
mailbox_of (work n) = []
mailbox_of (owner x) = []
mailbox_of (repair lba) = []
mailbox_of (save image used) = []
mailbox_of (power_on image used) = []

abbrev pub image_of : Step → List ℕ × ℕ
image_of (take p m) = ([], 0)
image_of (serve s) = ([], 0)
image_of (give p m) = ([], 0)
image_of (work n) = ([], 0)
image_of (owner x) = ([], 0)
image_of (repair lba) = ([], 0)
image_of (save image used) = (image, used)
image_of (power_on image used) = (image, used)

-- no sector is counted, nothing is reported, and the buffers are unchanged
pub record Untouched (x : Step) (s : Seen) : Type 0 where
  pub count : s.count ≡ 0
  pub report : s.report ≡ 0
  pub mailbox : s.mailbox ≡ mailbox_of x
  pub image : s.image ≡ (image_of x).0
  pub used : s.used ≡ (image_of x).1

unchanged-untouched : (x : Step) (n : ℕ) → Untouched x (unchanged x n)
unchanged-untouched (take p m) n = record { count = refl; report = refl; mailbox = refl; image = refl; used = refl }
unchanged-untouched (serve s) n = record { count = refl; report = refl; mailbox = refl; image = refl; used = refl }
unchanged-untouched (give p m) n = record { count = refl; report = refl; mailbox = refl; image = refl; used = refl }
unchanged-untouched (work k) n = record { count = refl; report = refl; mailbox = refl; image = refl; used = refl }
unchanged-untouched (owner x) n = record { count = refl; report = refl; mailbox = refl; image = refl; used = refl }
unchanged-untouched (repair lba) n = record { count = refl; report = refl; mailbox = refl; image = refl; used = refl }
unchanged-untouched (save image used) n = record { count = refl; report = refl; mailbox = refl; image = refl; used = refl }
unchanged-untouched (power_on image used) n = record { count = refl; report = refl; mailbox = refl; image = refl; used = refl }

-- "A nonzero answer changes nothing anywhere; work then reports 0."
pub refused-untouched : (x : Step) (M : Machine) (n : ℕ) → (step x M).seen.answer ≡ suc n → ((step x M).state ≡ M) × Untouched x (step x M).seen
refused-untouched x M n e = rw (step-refused x M n (sym (answer-is x M) ∙ e)) (refl, unchanged-untouched x (suc n))

-- only give, work, repair and save show more than their answer
abbrev pub Silent : Step → Type 0
Silent (take p m) = Unit {0}
Silent (serve s) = Unit {0}
Silent (give p m) = ⊥
Silent (work n) = ⊥
Silent (owner x) = Unit {0}
Silent (repair lba) = ⊥
Silent (save image used) = ⊥
Silent (power_on image used) = Unit {0}

silent-seen : (x : Step) (M : Machine) → Silent x → seen_done x M ≡ unchanged x done
silent-seen (take p m) M s = refl
silent-seen (serve x) M s = refl
silent-seen (give p m) M s = absurd s
silent-seen (work n) M s = absurd s
silent-seen (owner x) M s = refl
silent-seen (repair lba) M s = absurd s
silent-seen (save image used) M s = absurd s
silent-seen (power_on image used) M s = refl

pub silent-untouched : (x : Step) (M : Machine) → Silent x → (step x M).seen.answer ≡ 0 → Untouched x (step x M).seen
silent-untouched x M s e = rw (step-done x M (sym (answer-is x M) ∙ e), silent-seen x M s) (unchanged-untouched x done)

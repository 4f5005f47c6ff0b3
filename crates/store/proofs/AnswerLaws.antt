-- Condition 1, and which answers a list of steps can give.
use Rattle.std.specs.Prelude.{if◌then◌else◌}
use mathlib.Core.Path.{◌≡◌, refl, sym, ap, subst, ◌∙◌}
use mathlib.Core.Bool.{Bool, true, false}
use mathlib.Core.Logic.{◌↔◌}
use Prim.Native.Nat.{ℕ, suc, ◌+◌, ◌/◌, ◌≤◌, ◌<◌}
use native.Mathlib.Omega.{arith}
use mathlib.Core.List.{List, [], ◌∷◌}
use lib.ListN.{length, drop}
use lib.Dec.{eqb, ltb, leb}
use borrow.Author.Tests.{eqb-false, ltb-true, lt-ltb, leb-true, leb-false, le-leb}
use Rattle.wire.specs.Choice.{Check, first_failed}
use Rattle.wire.proofs.ChoiceLaws.{Numbered, and_left, and_right, first-bound, attempt-refused, attempt-done, attempt-answer, all_pass, pass_all}
use Rattle.model.specs.Sizes.{mailbox_size}
use Rattle.model.specs.Image.{well_sized, readable, same_disk}
use Rattle.model.specs.Machine.{Machine, request}
use Rattle.model.specs.Step.{Step, take, serve, give, work, owner, repair, save, power_on, Seen, checks, unchanged, step}
use Rattle.model.specs.Valid.{Fed, Each, MachineValid}
use Rattle.model.proofs.StepLaws.{keeps_order, answer-first, answer-is}
use Rattle.model.proofs.DiskSizes.{well-sized}
use Rattle.model.proofs.TakenLaws.{LeavesRequest, AllLeave, after, requests-stay}
use Rattle.store.specs.Record.{decode}
use Rattle.store.specs.Sound.{sound}
use Rattle.store.specs.Store.{Store, machine_of}
use Rattle.store.specs.Entries.{SaveAfter, save_checks, save_entry, save_bytes}
use Rattle.store.specs.OnStore.{on_store}
use Rattle.store.proofs.ExitLaws.{store_checks, done_store, done_seen, on-refused, on-done}
use Rattle.store.proofs.FollowLaws.{StoreValid, machine-valid}
use Rattle.store.proofs.StepFollows.{follows}

-- ---- condition 1: "Every entry refuses bad input by number and returns for every input"

-- "Order where several apply: 4, 2, 1, 5, 3, 6, 7, 8."
pub entry-order : (x : Step) (s : Store) → keeps_order 0 (store_checks x s) ≡ true × Numbered 8 (store_checks x s)
entry-order (take p m) s = (refl, omega arith)
entry-order (serve x) s = (refl, omega arith)
entry-order (give p m) s = (refl, omega arith)
entry-order (work n) s = (refl, omega arith)
entry-order (owner x) s = (refl, omega arith)
entry-order (repair lba) s = (refl, omega arith)
entry-order (save image used) s = (refl, omega arith)
entry-order (power_on image used) s = (refl, omega arith)

done-answer : (x : Step) (s : Store) → (done_seen x s).answer ≡ 0
done-answer (take p m) s = refl
done-answer (serve x) s = refl
done-answer (give p m) s = refl
done-answer (work n) s = refl
done-answer (owner x) s = refl
done-answer (repair lba) s = refl
done-answer (save image used) s = refl
done-answer (power_on image used) s = refl

-- the answer is the number of the first check, in that order, that fails
pub entry-answer : (x : Step) (s : Store) → (on_store x s).seen.answer ≡ first_failed (store_checks x s)
entry-answer x s =
    answer-first x (first_failed (store_checks x s)) (on_store x s) s (done_store x s) (done_seen x s) (done-answer x s) (on-done x s) (on-refused x s)

-- THEOREM: every step answers every input, sound or not, with a number from 0 to 8.
pub answer-range : (x : Step) (s : Store) → (on_store x s).seen.answer ≤ 8
answer-range x s = omega (arith, entry-answer x s, first-bound 8 (store_checks x s) (entry-order x s).1)

-- THEOREM: "A refused call leaves the record, disk, private area, mailbox and image untouched."
pub refused-untouched : (x : Step) (s : Store) (n : ℕ) → (on_store x s).seen.answer ≡ suc n → on_store x s ≡ record { state = s; seen = unchanged x (suc n) }
refused-untouched x s n e = on-refused x s n (sym (entry-answer x s) ∙ e)

-- ---- the answers of a list

-- a property of 0 and of every check's number is a property of the number of the first check that fails
abbrev EachNumber : (ℕ → Type 0) → List Check → Type 0
EachNumber P [] = Unit {0}
EachNumber P (c ∷ cs) = P c.1 × EachNumber P cs

first-among : (P : ℕ → Type 0) (cs : List Check) → P 0 → EachNumber P cs → P (first_failed cs)
first-among P [] z e = z
first-among P (c ∷ cs) z e = go c.0 (first-among P cs z e.1)
  where
    go : (b : Bool) → P (first_failed cs) → P (if b then first_failed cs else c.1)
    go true rest = rest
    go false rest = e.0

-- why a length can be refused, once the areas have their sizes: a mailbox's length, or a used length
abbrev pub LengthWrong : Step → Type 0
LengthWrong (take p m) = length m ≡ mailbox_size → ⊥
LengthWrong (serve x) = ⊥
LengthWrong (give p m) = length m ≡ mailbox_size → ⊥
LengthWrong (work n) = ⊥
LengthWrong (owner x) = ⊥
LengthWrong (repair lba) = ⊥
LengthWrong (save image used) = length image < used
LengthWrong (power_on image used) = length image < used

-- the machine's checks give no 4 ..
no-four : (x : Step) (M : Machine) → EachNumber (λ n. n ≡ 4 → ⊥) (checks x M)
no-four (take p m) M = omega arith
no-four (serve x) M = omega arith
no-four (give p m) M = omega arith
no-four (work n) M = tt
no-four (owner x) M = omega arith
no-four (repair lba) M = omega arith
no-four (save image used) M = omega arith
no-four (power_on image used) M = omega arith

-- .. and a 2 only for a mailbox's length or a used length
after-length : (b : Bool) (cs : List Check) → EachNumber (λ n. n ≡ 2 → ⊥) cs → (if b then first_failed cs else 2) ≡ 2 → b ≡ false
after-length true cs e h = absurd (first-among (λ n. n ≡ 2 → ⊥) cs (λ z. omega arith) e h)
after-length false cs e h = refl

never-two : (cs : List Check) → EachNumber (λ n. n ≡ 2 → ⊥) cs → first_failed cs ≡ 2 → ⊥
never-two cs e h = first-among (λ n. n ≡ 2 → ⊥) cs (λ z. omega arith) e h

disk-whole : (M : Machine) → MachineValid M → well_sized M.disk ≡ true
disk-whole M ok =
    let sizes = ok.device_valid.sizes in
    well-sized M.device.native M.disk (ok.disk_valid.sectors_valid.size, ok.disk_valid.check_area_valid.size) (omega (arith, sizes.0, sizes.1)) sizes.2

only-length : (x : Step) (M : Machine) → MachineValid M → first_failed (checks x M) ≡ 2 → LengthWrong x
only-length (take p m) M ok e =
    eqb-false (length m) mailbox_size (after-length (eqb (length m) mailbox_size) (drop 1 (checks (take p m) M)) (omega arith) e)
only-length (serve x) M ok e = never-two (checks (serve x) M) (omega arith) e
only-length (give p m) M ok e =
    eqb-false (length m) mailbox_size (after-length (eqb (length m) mailbox_size) (drop 1 (checks (give p m) M)) (omega arith) e)
only-length (work n) M ok e = absurd (omega arith)
only-length (owner x) M ok e = never-two (checks (owner x) M) (omega arith) e
only-length (repair lba) M ok e = never-two (checks (repair lba) M) (omega arith) e
only-length (save image used) M ok e =
    leb-false used (length image) (after-length (leb used (length image)) (drop 1 (checks (save image used) M)) (omega arith) e)
only-length (power_on image used) M ok e =
    leb-false used (length image) (after-length (leb used (length image)) (drop 2 (checks (power_on image used) M)) (omega arith) (rw (disk-whole M ok) at e))

-- the answers of a step after a power-on
pub record AnswersRight (x : Step) (s : Store) : Type 0 where
  pub never_four : (on_store x s).seen.answer ≡ 4 → ⊥
  pub two_for_length : (on_store x s).seen.answer ≡ 2 → LengthWrong x

-- on valid bytes the answer is the machine's
pub step-answer : (x : Step) (s : Store) → Fed x → StoreValid s → (on_store x s).seen.answer ≡ first_failed (checks x (machine_of s))
step-answer x s fed v = ap (λ (o : Seen). o.answer) (follows x s fed v).seen_same ∙ answer-is x (machine_of s)

pub step-answers : (x : Step) (s : Store) → Fed x → StoreValid s → AnswersRight x s
step-answers x s fed v =
    let same = step-answer x s fed v in
    record {
      never_four = λ e. first-among (λ n. n ≡ 4 → ⊥) (checks x (machine_of s)) (λ z. omega arith) (no-four x (machine_of s)) (sym same ∙ e);
      two_for_length = λ e. only-length x (machine_of s) (machine-valid s v) (sym same ∙ e);
    }

-- .. and of every step of a list from valid bytes
abbrev pub ListAnswersRight : List Step → Store → Type 0
ListAnswersRight [] s = Unit {0}
ListAnswersRight (x ∷ xs) s = AnswersRight x s × ListAnswersRight xs (on_store x s).state

pub list-answers : (xs : List Step) (s : Store) → Each Fed xs → StoreValid s → ListAnswersRight xs s
list-answers [] s fed v = tt
list-answers (x ∷ xs) s fed v =
    (step-answers x s fed.0 v, list-answers xs (on_store x s).state fed.1 (follows x s fed.0 v).valid)

-- ---- save

save-answer : (r image : List ℕ) (used : ℕ) → (save_bytes r image used).answer ≡ first_failed (save_checks r image used)
unfolding save_bytes
save-answer r image used = attempt-answer (save_entry r image used) (λ (o : SaveAfter). o.answer) refl (λ n. refl)

-- THEOREM: a save answers 0 exactly if the paper names no refusal: the record is sound, the used length is within the buffer, the image is readable, its
-- newest entry this disk's, and it has room: fewer than 117 entries, and 560 bytes more in the buffer.
pub save-exactly : (r image : List ℕ) (used : ℕ)
    → ((save_bytes r image used).answer ≡ 0)
    ↔ ((sound r ≡ true) × (used ≤ length image) × (readable image used ≡ true) × (same_disk (decode r).device.native image used ≡ true) × (used / 560 < 117) × (used + 560 ≤ length image))
save-exactly r image used = (
  λ e.
      let pass = all_pass 8 (save_checks r image used) (omega arith) (sym (save-answer r image used) ∙ e) in
      let room = pass.1.1.1.1.0 in (
        pass.0,
        leb-true used (length image) pass.1.0,
        pass.1.1.0,
        pass.1.1.1.0,
        ltb-true (used / 560) 117 (and_left (ltb (used / 560) 117) (leb (used + 560) (length image)) room),
        leb-true (used + 560) (length image) (and_right (ltb (used / 560) 117) (leb (used + 560) (length image)) room),
      ),
  λ k.
      save-answer r image used
      ∙ pass_all (save_checks r image used)
      (k.0, (le-leb used (length image) k.1, (k.2, (k.3, (rw (lt-ltb (used / 560) 117 k.4) (le-leb (used + 560) (length image) k.5), tt))))),
)

-- a power-on does not change the disk
pub power-on-leaves-disk : (image : List ℕ) (used : ℕ) (s : Store) → (on_store (power_on image used) s).state.disk ≡ s.disk
unfolding on_store
power-on-leaves-disk image used s = refl

-- ---- requests

-- the bytes after a list of steps
abbrev pub store_after : List Step → Store → Store
store_after [] s = s
store_after (x ∷ xs) s = store_after xs (on_store x s).state

-- .. represent the machine after it
pub after_same : (xs : List Step) (s : Store) → Each Fed xs → StoreValid s → machine_of (store_after xs s) ≡ after xs (machine_of s)
after_same [] s fed v = refl
after_same (x ∷ xs) s fed v =
    let f = follows x s fed.0 v in
    after_same xs (on_store x s).state fed.1 f.valid ∙ ap (after xs) f.same

-- steps that keep a port's request on the bytes keep it in the machine
step-leaves : (p : ℕ) (x : Step) (s : Store) → Fed x → StoreValid s → LeavesRequest on_store p x s → LeavesRequest step p x (machine_of s)
step-leaves p (take q m) s fed v l = tt
step-leaves p (serve x) s fed v l = l
step-leaves p (give q m) s fed v l = tt
step-leaves p (work n) s fed v l = tt
step-leaves p (owner x) s fed v l = tt
step-leaves p (repair lba) s fed v l = tt
step-leaves p (save image used) s fed v l = tt
step-leaves p (power_on image used) s fed v l = λ e. l (ap (λ (o : Seen). o.answer) (follows (power_on image used) s fed v).seen_same ∙ e)

list-leaves : (p : ℕ) (xs : List Step) (s : Store) → Each Fed xs → StoreValid s → AllLeave on_store p xs s → AllLeave step p xs (machine_of s)
list-leaves p [] s fed v l = tt
list-leaves p (x ∷ xs) s fed v l =
    let f = follows x s fed.0 v in
    (step-leaves p x s fed.0 v l.0, subst (AllLeave step p xs) f.same (list-leaves p xs (on_store x s).state fed.1 f.valid l.1))

-- a request that a port holds is kept until it is served or a power-on is done
pub request-kept : (p : ℕ) (m : List ℕ) (xs : List Step) (s : Store) → Each Fed xs → StoreValid s → (machine_of s).ports p ≡ request m
    → AllLeave on_store p xs s → (machine_of (store_after xs s)).ports p ≡ request m
request-kept p m xs s fed v held leaves =
    ap (λ (M : Machine). M.ports p) (after_same xs s fed v) ∙ requests-stay p m xs (machine_of s) held (list-leaves p xs s fed v leaves)

-- THEOREM: after a save that answers 0 the used length is 560 more; after a refusal it is unchanged, and so is the image.
pub save-used : (r image : List ℕ) (used : ℕ)
    → ((save_bytes r image used).answer ≡ 0 → (save_bytes r image used).used ≡ used + 560)
    × (((save_bytes r image used).answer ≡ 0 → ⊥) → ((save_bytes r image used).used ≡ used) × ((save_bytes r image used).image ≡ image))
unfolding save_bytes
save-used r image used =
    let entry = save_entry r image used in
    let number = first_failed (save_checks r image used) in (
      λ e. rw (attempt-done entry number refl (sym (save-answer r image used) ∙ e)),
      λ some. rw (attempt-refused entry number refl (λ z. some (save-answer r image used ∙ z))) (refl, refl),
    )

-- What holds of a power-on that answers 0, and for every list of steps after it, in addition to condition 3.
use mathlib.Core.Path.{◌≡◌, sym, ap, ◌∙◌, subst}
use Prim.Native.Nat.{ℕ}
use mathlib.Core.List.{List, [], ◌∷◌, ◌++◌}
use lib.ListN.{length}
use Rattle.wire.specs.Numbers.{get}
use Rattle.wire.specs.Bytes.{Bytes}
use Rattle.model.specs.Device.{Device}
use Rattle.model.specs.Disk.{Disk, native_size}
use Rattle.model.specs.Machine.{Machine, request}
use Rattle.model.specs.Image.{SavedTimers, saved_from, chain_form}
use Rattle.model.specs.Step.{Step, take, save, powered_on}
use Rattle.model.specs.Valid.{Fed, Each}
use Rattle.model.proofs.DiskSizes.{SameSize}
use Rattle.model.proofs.StepLaws.{step-done, port-same}
use Rattle.model.proofs.EntryFormat.{saved-from}
use Rattle.model.proofs.TakenLaws.{AllLeave}
use Rattle.model.proofs.PowerOnLaws.{TimersKept, KeptRules, TimersOn, timers-restored}
use Rattle.store.specs.Areas.{record_size, private_size}
use Rattle.store.specs.Record.{decode}
use Rattle.store.specs.Store.{Store, machine_of}
use Rattle.store.specs.Entries.{PowerOnAfter, power_on_bytes}
use Rattle.store.specs.OnStore.{on_store}
use Rattle.store.specs.Condition3.{HiddenKept, started}
use Rattle.store.proofs.PowerOnAnswers.{power-on-exactly}
use Rattle.store.proofs.FollowLaws.{BytesKept, hidden-bytes, StoreValid}
use Rattle.store.proofs.StepFollows.{follows}
use Rattle.store.proofs.Condition3Holds.{started-valid, condition-3}
use Rattle.store.proofs.AnswerLaws.{ListAnswersRight, list-answers, store_after, request-kept, step-answer}
use Rattle.store.proofs.SavedBack.{power-on-saved, saved-read-back}

-- the bytes are valid after every step of a list
pub list-valid : (xs : List Step) (s : Store) → Each Fed xs → StoreValid s → StoreValid (store_after xs s)
list-valid [] s fed v = v
list-valid (x ∷ xs) s fed v = list-valid xs (on_store x s).state fed.1 (follows x s fed.0 v).valid

-- what `HiddenKept` states, byte by byte, of every step of a list
pub hidden-every : (before : List Step) (x : Step) (after : List Step) (s : Store) → HiddenKept (before ++ (x ∷ after)) s
    → BytesKept (store_after before s) (on_store x (store_after before s)).state
hidden-every [] x after s kept = hidden-bytes s (on_store x s).state kept.0
hidden-every (y ∷ before) x after s kept = hidden-every before x after (on_store y s).state kept.1

-- a request taken from valid bytes is kept
taken-kept : (p : ℕ) (m : List ℕ) (xs : List Step) (s : Store) → Bytes m → Each Fed xs → StoreValid s → (on_store (take p m) s).seen.answer ≡ 0
    → AllLeave on_store p xs (on_store (take p m) s).state → (machine_of (store_after xs (on_store (take p m) s).state)).ports p ≡ request m
taken-kept p m xs s b fed v taken leaves =
    let f = follows (take p m) s b v in
    let done = sym (step-answer (take p m) s b v) ∙ taken in
    request-kept p m xs (on_store (take p m) s).state fed f.valid
    (ap (λ (M : Machine). M.ports p) f.same ∙ rw (step-done (take p m) (machine_of s) done) (port-same p (request m) (machine_of s).ports))
    leaves

-- A power-on that reads back what was saved from a device, in an entry of this form: the timers too "where the form has them", as they were.
pub record ReadBack (entry_form : ℕ) (saved : Device) (on : PowerOnAfter) : Type 0 where
  pub answers : on.answer ≡ 0
  pub kept : KeptRules (saved_from entry_form saved) (decode on.record_area).device
  pub timers_stored : entry_form ≡ 2
      → let c = (decode on.record_area).device.settings in (c.read_timer ≡ saved.settings.read_timer) × (c.write_timer ≡ saved.settings.write_timer)
  pub timers_left_out : entry_form ≡ 1 → let c = (decode on.record_area).device.settings in (c.read_timer ≡ 70) × (c.write_timer ≡ 70)

module _ (r a : List ℕ) (disk : Disk) (image : List ℕ) (used : ℕ) (answers : (power_on_bytes r a disk image used).answer ≡ 0) (disk_bytes : Bytes disk.sectors) (check_bytes : Bytes disk.check_area) (image_bytes : Bytes image) where
  abbrev start : Store
  start = started r a disk image used

  start-valid : StoreValid start
  start-valid = started-valid r a disk image used answers disk_bytes check_bytes image_bytes

  -- THEOREM: after a power-on that answers 0, the bytes are valid after every list of steps: the record is sound, and the rest of `StoreValid`.
  pub valid-after : (xs : List Step) → Each Fed xs → StoreValid (store_after xs start)
  valid-after xs fed = list-valid xs start fed start-valid

  -- THEOREM: after a power-on that answers 0 the recovery timers of the record, its bytes 26 to 29, are those of the image: 70 and 70 from an empty one
  -- and from form 1, the newest entry's from form 2 (W-203, W-204).
  pub power-on-timers : TimersOn image used (get 2 start.record_area 26) (get 2 start.record_area 28)
  unfolding machine_of decode powered_on
  power-on-timers =
      let same = ((condition-3 r a disk image used disk_bytes check_bytes image_bytes).followed answers [] tt).after_power_on in
      let for_read = ap (λ (M : Machine). M.device.settings.read_timer) same in
      let for_write = ap (λ (M : Machine). M.device.settings.write_timer) same in
      subst (λ (n : ℕ × ℕ). TimersOn image used n.0 n.1) (λ i. (sym for_read i, sym for_write i))
      (timers-restored (native_size disk) image used ((power-on-exactly r a disk image used).0 answers).5)

  -- THEOREM: no step of a list after it answers 4, and a step answers 2 only for a mailbox's length or a used length.
  pub answers-after : (xs : List Step) → Each Fed xs → ListAnswersRight xs start
  answers-after xs fed = list-answers xs start fed start-valid

  -- THEOREM: after a take that answers 0 the port's request is the mailbox that was taken, whatever steps follow, until it is served or a
  -- power-on is done.
  pub request-as-taken : (before after : List Step) (p : ℕ) (m : List ℕ) → Each Fed before → Each Fed after → Bytes m
      → (on_store (take p m) (store_after before start)).seen.answer ≡ 0
      → AllLeave on_store p after (on_store (take p m) (store_after before start)).state
      → (machine_of (store_after after (on_store (take p m) (store_after before start)).state)).ports p ≡ request m
  request-as-taken before after p m fed fed_after b taken leaves =
      taken-kept p m after (store_after before start) b fed_after (valid-after before fed) taken leaves

  -- THEOREM: an image saved after any list of steps is read back: a power-on from it answers 0, on that disk whatever was written to it since, and
  -- gives what was saved, as the power-on rules keep it.
  pub saved-back : (xs : List Step) → Each Fed xs → (i : List ℕ) (u : ℕ) → (on_store (save i u) (store_after xs start)).seen.answer ≡ 0
      → (any_record any_area : List ℕ) (later : Disk) → length any_record ≡ record_size → length any_area ≡ private_size → SameSize later (store_after xs start).disk
      → ReadBack (chain_form i u) (decode (store_after xs start).record_area).device (power_on_bytes any_record any_area later (on_store (save i u) (store_after xs start)).seen.image (on_store (save i u) (store_after xs start)).seen.used)
  saved-back xs fed i u saves r a later size private same =
      let v = valid-after xs fed in
      let seen = (on_store (save i u) (store_after xs start)).seen in
      let c = (decode (power_on_bytes r a later seen.image seen.used).record_area).device.settings in
      let kept = saved-read-back (store_after xs start) v i u saves r a later size private same in
      let saved = saved-from (chain_form i u) (decode (store_after xs start).record_area).device in
      record {
        answers = power-on-saved (store_after xs start) v i u saves r a later size private same;
        kept = kept;
        timers_stored = λ e. subst (λ (t : SavedTimers). TimersKept t c) (saved.timers_stored e) kept.timers;
        timers_left_out = λ e. subst (λ (t : SavedTimers). TimersKept t c) (saved.timers_left_out e) kept.timers;
      }

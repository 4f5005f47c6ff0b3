-- Condition 3 holds: a single theorem over every list of steps.
use mathlib.Core.Path.{◌≡◌, refl, sym, ap, ap₂, ◌∙◌}
use Prim.Native.Nat.{ℕ}
use native.Mathlib.Omega.{arith}
use mathlib.Core.List.{List, [], ◌∷◌, map}
use Rattle.wire.specs.Choice.{first_failed}
use Rattle.wire.specs.Parts.{zeros}
use Rattle.wire.specs.Bytes.{Bytes}
use Rattle.wire.proofs.ChoiceLaws.{attempt-done, all_pass, pass_all}
use Rattle.model.specs.Image.{power_on_checks as disk_checks}
use Rattle.model.specs.Disk.{Disk, hidden_part}
use Rattle.model.specs.Machine.{Machine}
use Rattle.model.specs.Step.{Step, Outcome, powered_on, first_answer, step, trace}
use Rattle.model.specs.Valid.{Fed, Each}
use Rattle.model.proofs.ValidStep.{power-on-machine}
use Rattle.model.proofs.HiddenLaws.{step-hidden}
use Rattle.store.specs.Areas.{private_size}
use Rattle.store.specs.Record.{encode}
use Rattle.store.specs.Store.{Store, machine_of}
use Rattle.store.specs.Entries.{power_on_checks, powered_contents, power_on_entry, power_on_bytes}
use Rattle.store.specs.OnStore.{store, on_store}
use Rattle.store.specs.Condition3.{as_machine, HiddenKept, started, FollowsMachine, Condition3}
use Rattle.store.proofs.PowerOnAnswers.{power-on-answer, no-refusal}
use Rattle.store.proofs.FollowLaws.{StoreValid, machine-valid}
use Rattle.store.proofs.StepFollows.{Follows, follows, powered-store}

-- ---- a list of steps from valid bytes

outcome-same : (x : Step) (s : Store) → Follows x s → as_machine (on_store x s) ≡ step x (machine_of s)
outcome-same x s f = λ i. record { state = f.same i; seen = f.seen_same i }

pub list-follows : (xs : List Step) (s : Store) → Each Fed xs → StoreValid s → map as_machine (trace on_store xs s) ≡ trace step xs (machine_of s)
list-follows [] s fed v = refl
list-follows (x ∷ xs) s fed v =
    let f = follows x s fed.0 v in
    ap₂ (λ (o : Outcome Machine) (l : List (Outcome Machine)). o ∷ l) (outcome-same x s f)
    (list-follows xs (on_store x s).state fed.1 f.valid ∙ ap (trace step xs) f.same)

pub list-hidden : (xs : List Step) (s : Store) → Each Fed xs → StoreValid s → HiddenKept xs s
unfolding machine_of
list-hidden [] s fed v = tt
list-hidden (x ∷ xs) s fed v =
    let f = follows x s fed.0 v in (
      ap (λ (N : Machine). hidden_part (machine_of s).device.visible N.disk) f.same ∙ step-hidden x (machine_of s) (machine-valid s v),
      list-hidden xs (on_store x s).state fed.1 f.valid,
    )

-- ---- the first power-on

module _ (r a : List ℕ) (disk : Disk) (image : List ℕ) (used : ℕ) (answers : (power_on_bytes r a disk image used).answer ≡ 0) where
  on-passed : first_failed (power_on_checks r a disk image used) ≡ 0
  on-passed = sym (power-on-answer r a disk image used) ∙ answers

  -- the machine's power-on has fewer checks: those of disk and image
  disk-passed : first_failed (disk_checks disk image used) ≡ 0
  disk-passed = pass_all (disk_checks disk image used) (all_pass 8 (power_on_checks r a disk image used) (omega arith) on-passed).1.1

  started-is : started r a disk image used ≡ store (encode (powered_contents disk image used)) (zeros private_size) disk
  unfolding power_on_bytes
  started-is = rw (attempt-done (power_on_entry r a disk image used) 0 (sym on-passed) refl)

  module _ (disk_bytes : Bytes disk.sectors) (check_bytes : Bytes disk.check_area) (image_bytes : Bytes image) where
    powered : StoreValid (store (encode (powered_contents disk image used)) (zeros private_size) disk)
        × (machine_of (store (encode (powered_contents disk image used)) (zeros private_size) disk) ≡ powered_on disk image used)
    powered = powered-store disk image used (power-on-machine disk image used disk_bytes check_bytes image_bytes disk-passed)

    -- the bytes after the power-on are valid, and represent the machine
    pub started-valid : StoreValid (started r a disk image used)
    started-valid = rw started-is powered.0

    started-machine : machine_of (started r a disk image used) ≡ powered_on disk image used
    started-machine = ap machine_of started-is ∙ powered.1

    follows-machine : (xs : List Step) → Each Fed xs → FollowsMachine r a disk image used xs
    unfolding first_answer
    follows-machine xs fed =
        record {
          same_answer = disk-passed;
          after_power_on = started-machine;
          after_each_step = list-follows xs (started r a disk image used) fed started-valid ∙ ap (trace step xs) started-machine;
          hidden = list-hidden xs (started r a disk image used) fed started-valid;
        }

-- THEOREM: condition 3.
pub condition-3 : Condition3
condition-3 r a disk image used disk_bytes check_bytes image_bytes =
    record {
      answers_zero = no-refusal r a disk image used image_bytes;
      followed = λ answers xs fed. follows-machine r a disk image used answers disk_bytes check_bytes image_bytes xs fed;
    }

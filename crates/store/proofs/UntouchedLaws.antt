-- The bytes that the machine does not hold, and that a step that is done leaves unchanged.
use mathlib.Core.Path.{◌≡◌, refl, sym, ◌∙◌}
use mathlib.Core.Logic.{◌⊎◌, inl, inr}
use Prim.Native.Nat.{ℕ, ◌+◌, ◌*◌, ◌≤◌, ◌<◌}
use native.Mathlib.Omega.{arith}
use mathlib.Core.List.{List}
use lib.ListN.{length, get_or}
use lib.Seq.{sets}
use borrow.Author.Tests.{eqb-true, ltb-true}
use Rattle.wire.specs.Choice.{first_failed}
use Rattle.wire.specs.Parts.{zeros}
use Rattle.wire.proofs.ChoiceLaws.{all_pass}
use Rattle.wire.proofs.NumbersLaws.{get_or_sets_before, get_or-sets-after}
use Rattle.model.specs.Sizes.{port_count, mailbox_size}
use Rattle.model.specs.Decide.{Serving, Writing, no_write, one_sector, new_fill, Decision, decide}
use Rattle.model.specs.Perform.{volume_after, reply_of}
use Rattle.model.specs.Step.{OwnerStep, Step, take, serve, give, work, owner, repair, save, power_on}
use Rattle.store.specs.Areas.{record_size, slot_size, slot_place, fill_place, private_size}
use Rattle.store.specs.Record.{decode}
use Rattle.store.specs.Store.{Store, slot_bytes}
use Rattle.store.specs.Entries.{with_fill_sector}
use Rattle.store.specs.OnStore.{on_store}
use Rattle.model.proofs.ValidRequest.{decide-valid}
use Rattle.store.proofs.ExitLaws.{store_checks, on-done}
use Rattle.store.proofs.FollowLaws.{StoreValid, contents-valid, slot-sized}
use Rattle.store.proofs.StepFollows.{answer-sized}
use Rattle.store.proofs.AnswerLaws.{entry-answer}

-- "four slots of 528, then the fill sector"; W-202: "slots grow to 1,040 bytes, the private area to 4,672"; "The device record crosses as 1,024 bytes"
pub area-places : (p : ℕ) → (slot_place p ≡ 1040 * p) × (fill_place ≡ 4160) × (private_size ≡ 4672) × (record_size ≡ 1024)
area-places p = (refl, refl, refl, refl)

passed : (x : Step) (s : Store) → (on_store x s).seen.answer ≡ 0 → first_failed (store_checks x s) ≡ 0
passed x s answers = sym (entry-answer x s) ∙ answers

-- i is not a byte of slot p
abbrev pub OutsideSlot : ℕ → ℕ → Type 0
OutsideSlot p i = (i < slot_place p) ⊎ (slot_place p + slot_size ≤ i)

slot-stored : (a x : List ℕ) (p i : ℕ) → length x ≡ slot_size → OutsideSlot p i → get_or (sets a (slot_place p) x) i 0 ≡ get_or a i 0
slot-stored a x p i e (inl h) = get_or_sets_before x a (slot_place p) i h
slot-stored a x p i e (inr h) = get_or-sets-after x a (slot_place p) i (omega arith)

-- take: the other slots and the fill sector are unchanged
pub take-leaves : (p : ℕ) (m : List ℕ) (s : Store) (i : ℕ) → (on_store (take p m) s).seen.answer ≡ 0 → OutsideSlot p i
    → get_or (on_store (take p m) s).state.private_area i 0 ≡ get_or s.private_area i 0
take-leaves p m s i answers out =
    let e = passed (take p m) s answers in
    let size = eqb-true (length m) mailbox_size (all_pass 8 (store_checks (take p m) s) (omega arith) e).1.0 in
    rw (on-done (take p m) s e) (slot-stored s.private_area m p i size out)

-- give, work, the owner steps, repair and save: the whole private area is unchanged
pub record PrivateKept (x : Step) (s : Store) : Type 0 where
  pub kept : (on_store x s).state.private_area ≡ s.private_area

pub give-leaves : (p : ℕ) (m : List ℕ) (s : Store) → PrivateKept (give p m) s
unfolding on_store
give-leaves p m s = record { kept = refl }

pub work-leaves : (n : ℕ) (s : Store) → PrivateKept (work n) s
unfolding on_store
work-leaves n s = record { kept = refl }

pub owner-leaves : (x : OwnerStep) (s : Store) → PrivateKept (owner x) s
unfolding on_store
owner-leaves x s = record { kept = refl }

pub repair-leaves : (lba : ℕ) (s : Store) → PrivateKept (repair lba) s
unfolding on_store
repair-leaves lba s = record { kept = refl }

-- a repair does not change the check area
pub repair-leaves-check-area : (lba : ℕ) (s : Store) → (on_store (repair lba) s).state.disk.check_area ≡ s.disk.check_area
unfolding on_store
repair-leaves-check-area lba s = refl

-- save: record, private area and disk are unchanged
pub save-leaves : (image : List ℕ) (used : ℕ) (s : Store) → (on_store (save image used) s).state ≡ s
unfolding on_store
save-leaves image used s = refl

-- the owner steps do not change the disk
pub owner-disk : (x : OwnerStep) (s : Store) → (on_store (owner x) s).state.disk ≡ s.disk
unfolding on_store
owner-disk x s = refl

-- "private area all zeros"
pub power-on-zeroes : (image : List ℕ) (used : ℕ) (s : Store) → (on_store (power_on image used) s).seen.answer ≡ 0
    → (on_store (power_on image used) s).state.private_area ≡ zeros 4672
power-on-zeroes image used s answers = rw (on-done (power_on image used) s (passed (power_on image used) s answers))

-- serve: the other slots are unchanged, and so is the fill sector unless a fill begins
abbrev pub BeginsFill : Writing → Type 0
BeginsFill no_write = ⊥
BeginsFill (one_sector lba x) = ⊥
BeginsFill (new_fill first end sector) = Unit {0}

fill-left : (w : Writing) (b : List ℕ) → (BeginsFill w → ⊥) → with_fill_sector w b ≡ b
fill-left no_write b ne = refl
fill-left (one_sector lba x) b ne = refl
fill-left (new_fill first end sector) b ne = absurd (ne tt)

fill-before : (w : Writing) (b : List ℕ) (i : ℕ) → i < fill_place → get_or (with_fill_sector w b) i 0 ≡ get_or b i 0
fill-before no_write b i h = refl
fill-before (one_sector lba x) b i h = refl
fill-before (new_fill first end sector) b i h = get_or_sets_before sector b fill_place i h

module _ (x : Serving) (s : Store) (v : StoreValid s) (answers : (on_store (serve x) s).seen.answer ≡ 0) where
  abbrev decision : Decision
  decision = decide x (slot_bytes x.port s.private_area) (decode s.record_area).device

  abbrev reply : List ℕ
  reply = reply_of decision (volume_after decision s.disk)

  reply-size : length reply ≡ slot_size
  reply-size =
      let port = ltb-true x.port port_count (all_pass 8 (store_checks (serve x) s) (omega arith) (passed (serve x) s answers)).1.1.1.0 in
      let valid =
      decide-valid x (slot_bytes x.port s.private_area) (decode s.record_area).device (contents-valid s v).device
      (slot-sized s.private_area x.port v.private port) in
      (answer-sized s v x.port port decision valid).size

  pub serve-leaves-slots : (i : ℕ) → i < fill_place → OutsideSlot x.port i → get_or (on_store (serve x) s).state.private_area i 0 ≡ get_or s.private_area i 0
  serve-leaves-slots i h out =
      rw (on-done (serve x) s (passed (serve x) s answers))
      (fill-before decision.effect.writes (sets s.private_area (slot_place x.port) reply) i h ∙ slot-stored s.private_area reply x.port i reply-size out)

  pub serve-leaves-sector : (i : ℕ) → (BeginsFill decision.effect.writes → ⊥) → OutsideSlot x.port i → get_or (on_store (serve x) s).state.private_area i 0 ≡ get_or s.private_area i 0
  serve-leaves-sector i none out =
      rw (on-done (serve x) s (passed (serve x) s answers), fill-left decision.effect.writes (sets s.private_area (slot_place x.port) reply) none)
      (slot-stored s.private_area reply x.port i reply-size out)

-- Every step on the bytes follows the machine's step: the same state, the same answer and the same buffers.
use mathlib.Core.Path.{◌≡◌, refl, sym, ap, ◌∙◌, subst, fun_ext}
use mathlib.Core.Bool.{true, false}
use mathlib.Core.Logic.{◌⊎◌, inl, inr}
use Prim.Native.Nat.{ℕ, zero, suc, ◌<◌}
use native.Mathlib.Omega.{arith}
use mathlib.Core.List.{List, []}
use lib.ListN.{length, get_or, set, length-set, replicate}
use lib.Seq.{sets, length-sets}
use borrow.Author.Tests.{eqb-true, eq-eqb, ltb-true}
use Rattle.wire.specs.Choice.{first_failed}
use Rattle.wire.specs.Parts.{zeros}
use Rattle.wire.specs.Bytes.{Bytes}
use Rattle.wire.proofs.ChoiceLaws.{all_pass}
use Rattle.wire.proofs.PartsLaws.{part_same, length-zeros}
use Rattle.wire.proofs.BytesLaws.{bytes-sets, bytes-zeros}
use Rattle.model.specs.Sizes.{sector_size, port_count, mailbox_size}
use Rattle.model.specs.Device.{Fill, idle, running, Device}
use Rattle.model.specs.Disk.{Disk, disk_of}
use Rattle.model.specs.Fill.{Volume, write_sector, interrupt, sector_step, iterate, work_count}
use Rattle.model.specs.Fill.{work as work_volume}
use Rattle.model.specs.Decide.{Serving, Writing, no_write, one_sector, new_fill, Decision, decide}
use Rattle.model.specs.Perform.{written, volume_after, fill_sector_after, reply_of}
use Rattle.model.specs.Repair.{repair as repair_volume}
use Rattle.model.specs.Owner.{set_lock}
use Rattle.model.specs.Owner.{set_visible as set_visible_device, sample as sample_device}
use Rattle.model.specs.Image.{power_on as power_on_device}
use Rattle.model.specs.Machine.{Port, Machine, while_running, machine, held_bytes}
use Rattle.model.specs.Machine.{empty as no_request}
use Rattle.model.specs.Step.{OwnerStep, lock, unlock, set_visible, sample, Step, take, serve, give, work, owner, repair, save, power_on, owner_rule, checks, seen_done, does, served, serve_decided, worked, repaired, powered_on, step}
use Rattle.model.specs.Valid.{Sized, DiskValid, Valid, MachineValid, OwnerFed, Fed}
use Rattle.model.proofs.StepLaws.{step-done, step-refused, answers-numbered}
use Rattle.model.proofs.OwnerLaws.{interrupt-quiet}
use Rattle.model.proofs.DiskRepair.{repair-idle, repair-leaves-check-area}
use Rattle.model.proofs.RequestLaws.{interrupt-kept}
use Rattle.model.proofs.ValidRequest.{WritingValid, DecisionValid, decide-valid}
use Rattle.model.proofs.ValidStep.{does-valid, reply-valid, serve-valid}
use Rattle.store.specs.Areas.{record_size, slot_place, fill_place, private_size}
use Rattle.store.specs.Record.{Stage, empty, held, answered, is_stage, Contents, encode, decode}
use Rattle.store.specs.Store.{Store, port_of, slot_bytes, fill_sector_of, stage_for, machine_of}
use Rattle.store.specs.Entries.{with_stage, with_device, with_fill_sector, powered_contents}
use Rattle.store.specs.OnStore.{store, on_store}
use Rattle.store.proofs.RecordLaws.{ContentsValid}
use Rattle.store.proofs.SoundLaws.{sound-parts}
use Rattle.store.proofs.ExitLaws.{store_checks, done_store, done_seen, sized-passes, on-refused, on-done}
use Rattle.store.proofs.FollowLaws.{StoreValid, contents-valid, machine-valid, machine-encoded, store-encoded, slot-sized, slot-fill, ports-set, ports-cleared, ports-fill}

-- ---- the fill's sector

-- keeping a fill's sector while the fill runs, twice, is the same as once
kept-once : (f : Fill) (s : List ℕ) → while_running f (while_running f s) ≡ while_running f s
kept-once idle s = refl
kept-once (running first next end) s = refl

-- with no fill the sector does not matter
idle-any : (f : Fill) (s t : List ℕ) → f ≡ idle → while_running f s ≡ while_running f t
idle-any f s t e = rw e

-- a machine is its parts
machine-path : (d : Device) (s t : List ℕ) (ports ports' : ℕ → Port) (disk : Disk)
    → while_running d.command.fill s ≡ while_running d.command.fill t → ((i : ℕ) → ports i ≡ ports' i) → machine d s ports disk ≡ machine d t ports' disk
machine-path d s t ports ports' disk e f = λ j. record { device = d; sector = e j; ports = fun_ext f j; disk = disk }

-- ---- what must hold for one step

pub record Follows (x : Step) (s : Store) : Type 0 where
  pub valid : StoreValid (on_store x s).state
  pub same : machine_of (on_store x s).state ≡ (step x (machine_of s)).state
  pub seen_same : (on_store x s).seen ≡ (step x (machine_of s)).seen

-- what must hold for a step that is done
record Done (x : Step) (s : Store) : Type 0 where
  valid : StoreValid (done_store x s)
  same : machine_of (done_store x s) ≡ does x (machine_of s)
  seen_same : done_seen x s ≡ seen_done x (machine_of s)

-- ---- the checks

empty-says : (k : Stage) (b : List ℕ) → Rattle.model.specs.Step.is_empty (port_of k b) ≡ is_stage empty k
empty-says empty b = refl
empty-says held b = refl
empty-says answered b = refl

held-says : (k : Stage) (b : List ℕ) → Rattle.model.specs.Step.is_request (port_of k b) ≡ is_stage held k
held-says empty b = refl
held-says held b = refl
held-says answered b = refl

answered-says : (k : Stage) (b : List ℕ) → Rattle.model.specs.Step.is_reply (port_of k b) ≡ is_stage answered k
answered-says empty b = refl
answered-says held b = refl
answered-says answered b = refl

-- on valid bytes an entry is refused exactly if the machine's step is, with the same number
checks-same : (x : Step) (s : Store) → StoreValid s → first_failed (store_checks x s) ≡ first_failed (checks x (machine_of s))
unfolding machine_of
checks-same (take p m) s v =
    rw (v.is_sound, eq-eqb (length s.private_area) private_size v.private.size, empty-says (stage_for p (decode s.record_area)) (slot_bytes p s.private_area))
checks-same (serve x) s v =
    rw (
      v.is_sound,
      eq-eqb (length s.private_area) private_size v.private.size,
      sized-passes (decode s.record_area).device.native s.disk (v.disk.sectors_valid.size, v.disk.check_area_valid.size),
      held-says (stage_for x.port (decode s.record_area)) (slot_bytes x.port s.private_area),
    )
checks-same (give p m) s v =
    rw (v.is_sound, eq-eqb (length s.private_area) private_size v.private.size, answered-says (stage_for p (decode s.record_area)) (slot_bytes p s.private_area))
checks-same (work n) s v =
    rw (
      v.is_sound,
      eq-eqb (length s.private_area) private_size v.private.size,
      sized-passes (decode s.record_area).device.native s.disk (v.disk.sectors_valid.size, v.disk.check_area_valid.size),
    )
checks-same (owner x) s v = rw v.is_sound
checks-same (repair lba) s v =
    rw (
      v.is_sound,
      sized-passes (decode s.record_area).device.native s.disk (v.disk.sectors_valid.size, v.disk.check_area_valid.size),
    )
checks-same (save image used) s v = rw v.is_sound
checks-same (power_on image used) s v =
    rw (eq-eqb (length s.record_area) record_size (sound-parts s.record_area v.is_sound).size, eq-eqb (length s.private_area) private_size v.private.size)

-- ---- take and give

-- a buffer stored in a private area
stored-sized : (a x : List ℕ) (at : ℕ) → Sized private_size a → Bytes x → Sized private_size (sets a at x)
stored-sized a x at v b = record { size = length-sets a at x ∙ v.size; bytes = bytes-sets x a at v.bytes b }

-- ---- what is written, and the fill sector

-- the private area's fill sector afterwards
fill-after : (w : Writing) (d : Device) (b : List ℕ) → WritingValid d w → length b ≡ private_size → fill_sector_of (with_fill_sector w b) ≡ fill_sector_after w (fill_sector_of b)
fill-after no_write d b k h = refl
fill-after (one_sector lba x) d b k h = refl
fill-after (new_fill first end sector) d b k h = part_same sector b fill_place sector_size k.2.size (omega arith)

-- .. and every slot is unchanged
ports-after : (w : Writing) (ss : List Stage) (b : List ℕ) → length ss ≡ 4 → (i : ℕ)
    → port_of (get_or ss i empty) (slot_bytes i (with_fill_sector w b)) ≡ port_of (get_or ss i empty) (slot_bytes i b)
ports-after no_write ss b h i = refl
ports-after (one_sector lba x) ss b h i = refl
ports-after (new_fill first end sector) ss b h i = ports-fill ss b sector h i

after-sized : (w : Writing) (d : Device) (b : List ℕ) → WritingValid d w → Sized private_size b → Sized private_size (with_fill_sector w b)
after-sized no_write d b k v = v
after-sized (one_sector lba x) d b k v = v
after-sized (new_fill first end sector) d b k v = stored-sized b sector fill_place v k.2.bytes

forgotten : (g f : Fill) (s : List ℕ) → (g ≡ idle) ⊎ (g ≡ f) → while_running g s ≡ while_running g (while_running f s)
forgotten g f s (inl e) = idle-any g s (while_running f s) e
forgotten g f s (inr e) = rw e (sym (kept-once f s))

-- the machine has the same sector, whether or not it dropped one that no fill used
sector-after : (w : Writing) (v : Volume) (s : List ℕ) (f : Fill) → (v.device.command.fill ≡ idle) ⊎ (v.device.command.fill ≡ f)
    → while_running (written w v).device.command.fill (fill_sector_after w s)
    ≡ while_running (written w v).device.command.fill (fill_sector_after w (while_running f s))
unfolding write_sector
sector-after no_write v s f k = forgotten v.device.command.fill f s k
sector-after (one_sector lba x) v s f k = forgotten v.device.command.fill f s k
sector-after (new_fill first end sector) v s f k = refl

all-empty : (n i : ℕ) → get_or (replicate n empty) i empty ≡ empty
all-empty zero zero = refl
all-empty zero (suc i) = refl
all-empty (suc n) zero = refl
all-empty (suc n) (suc i) = all-empty n i

-- ---- work with no fill, and a power-on

idle-work : (n : ℕ) (sector : List ℕ) (v : Volume) → v.device.command.fill ≡ idle → work_volume n sector v ≡ v
unfolding work_volume
idle-work n sector v e = ap (λ (k : ℕ). iterate k (sector_step sector) v) none
  where
    none : work_count n v.device.command.fill ≡ 0
    none = unfold work_count in (rw e (omega arith))

-- the bytes after a power-on represent the machine at power-on
pub powered-store : (disk : Disk) (image : List ℕ) (used : ℕ) → MachineValid (powered_on disk image used)
    → StoreValid (store (encode (powered_contents disk image used)) (zeros private_size) disk)
    × (machine_of (store (encode (powered_contents disk image used)) (zeros private_size) disk) ≡ powered_on disk image used)
unfolding powered_on power_on_device
powered-store disk image used w =
    let c = powered_contents disk image used in
    let cv : ContentsValid c = record { device = w.device_valid; four = refl } in (
      store-encoded c (zeros private_size) disk cv (record { size = length-zeros private_size; bytes = bytes-zeros private_size }) w.disk_valid,
      machine-encoded c (zeros private_size) disk cv
          ∙ machine-path c.device (fill_sector_of (zeros private_size)) [] _ _ disk refl no-port,
    )
  where
    no-port : (i : ℕ) → port_of (get_or (replicate port_count empty) i empty) (slot_bytes i (zeros private_size)) ≡ no_request
    no-port i = rw (all-empty port_count i)

module _ (s : Store) (v : StoreValid s) where
  abbrev c : Contents
  c = decode s.record_area

  abbrev M : Machine
  M = machine_of s

  abbrev a : List ℕ
  a = s.private_area

  c-valid : ContentsValid c
  c-valid = contents-valid s v

  four : length c.stages ≡ 4
  four = c-valid.four

  -- a new stage for slot p
  stage-valid : (p : ℕ) (k : Stage) → ContentsValid (with_stage p k c)
  stage-valid p k = record { device = c-valid.device; four = length-set c.stages p k ∙ four }

  take_done : (p : ℕ) (m : List ℕ) → Bytes m → first_failed (checks (take p m) M) ≡ 0 → Done (take p m) s
  unfolding machine_of
  take_done p m fed e =
      let pass = all_pass 8 (checks (take p m) M) (answers-numbered (take p m) M) e in
      let size = eqb-true (length m) mailbox_size pass.0 in
      let port = ltb-true p port_count pass.1.0 in
      record {
        valid = store-encoded (with_stage p held c) (sets a (slot_place p) m) s.disk (stage-valid p held) (stored-sized a m (slot_place p) v.private fed) v.disk;
        same =
            machine-encoded (with_stage p held c) (sets a (slot_place p) m) s.disk (stage-valid p held)
            ∙ machine-path c.device (fill_sector_of (sets a (slot_place p) m)) (while_running c.device.command.fill (fill_sector_of a)) _ _ s.disk
            (ap (while_running c.device.command.fill) (slot-fill a m p size port) ∙ sym (kept-once c.device.command.fill (fill_sector_of a)))
            (ports-set c.stages a m p held four port size v.private.size);
        seen_same = refl;
      }

  answered-bytes : (k : Stage) (b : List ℕ) → is_stage answered k ≡ true → held_bytes (port_of k b) ≡ b
  answered-bytes empty b e = absurd (let z : ◌≡◌ {A = ℕ} 0 1 = cc in omega arith)
  answered-bytes held b e = refl
  answered-bytes answered b e = refl

  held_bytes_lem : (k : Stage) (b : List ℕ) → is_stage held k ≡ true → held_bytes (port_of k b) ≡ b
  held_bytes_lem empty b e = absurd (let z : ◌≡◌ {A = ℕ} 0 1 = cc in omega arith)
  held_bytes_lem held b e = refl
  held_bytes_lem answered b e = refl

  give-done : (p : ℕ) (m : List ℕ) → first_failed (checks (give p m) M) ≡ 0 → Done (give p m) s
  unfolding machine_of
  give-done p m e =
      let pass = all_pass 8 (checks (give p m) M) (answers-numbered (give p m) M) e in
      let port = ltb-true p port_count pass.1.0 in
      record {
        valid = store-encoded (with_stage p empty c) a s.disk (stage-valid p empty) v.private v.disk;
        same =
            machine-encoded (with_stage p empty c) a s.disk (stage-valid p empty)
            ∙ machine-path c.device (fill_sector_of a) (while_running c.device.command.fill (fill_sector_of a)) _ _ s.disk
            (sym (kept-once c.device.command.fill (fill_sector_of a)))
            (ports-cleared c.stages a p four port);
        seen_same =
            ap (Rattle.model.specs.Step.answered_mailbox 0)
            (sym (answered-bytes (stage_for p c) (slot_bytes p a) (sym (answered-says (stage_for p c) (slot_bytes p a)) ∙ pass.1.1.0)));
      }

  -- ---- serve

  m-valid : MachineValid M
  m-valid = machine-valid s v

  -- a decision performed on the bytes equals the decision performed on the machine
  module _ (p : ℕ) (port : p < port_count) (k : Decision) (kv : DecisionValid c.device k) where
    abbrev pub after : Volume
    after = volume_after k s.disk

    abbrev pub answer : List ℕ
    answer = reply_of k after

    abbrev writes : Writing
    writes = k.effect.writes

    abbrev next : Contents
    next = with_stage p answered (with_device after.device c)

    abbrev area : List ℕ
    area = sets a (slot_place p) answer

    served-valid : MachineValid (serve_decided p k M)
    unfolding machine_of
    served-valid = serve-valid p k M m-valid kv

    pub answer-sized : Sized mailbox_size answer
    unfolding machine_of
    answer-sized = reply-valid p k M m-valid kv

    next-valid : ContentsValid next
    unfolding serve_decided machine_of
    next-valid = record { device = served-valid.device_valid; four = length-set c.stages p answered ∙ four }

    area-sized : Sized private_size area
    area-sized = stored-sized a answer (slot_place p) v.private answer-sized.bytes

    serve-store : StoreValid (store (encode next) (with_fill_sector writes area) after.disk)
    unfolding serve_decided machine_of
    serve-store =
        store-encoded next (with_fill_sector writes area) after.disk next-valid
        (after-sized writes k.device area kv.effect_valid.0 area-sized) served-valid.disk_valid

    serve-machine : machine_of (store (encode next) (with_fill_sector writes area) after.disk) ≡ serve_decided p k M
    unfolding serve_decided machine_of
    serve-machine =
        machine-encoded next (with_fill_sector writes area) after.disk next-valid
        ∙ machine-path after.device (fill_sector_of (with_fill_sector writes area)) (fill_sector_after writes (while_running c.device.command.fill (fill_sector_of a))) _ _ after.disk
        (ap (while_running after.device.command.fill) (fill-after writes k.device area kv.effect_valid.0 area-sized.size ∙ ap (fill_sector_after writes) (slot-fill a answer p answer-sized.size port))
        ∙ sector-after writes (record { device = k.device; disk = s.disk }) (fill_sector_of a) c.device.command.fill kv.same_fill)
        (λ i. ports-after writes (set c.stages p answered) area (length-set c.stages p answered ∙ four) i
        ∙ ports-set c.stages a answer p answered four port answer-sized.size v.private.size i)

  serve-done : (x : Serving) → first_failed (checks (serve x) M) ≡ 0 → Done (serve x) s
  unfolding machine_of served
  serve-done x e =
      let p = x.port in
      let pass = all_pass 8 (checks (serve x) M) (answers-numbered (serve x) M) e in
      let port = ltb-true p port_count pass.0 in
      let k = decide x (slot_bytes p a) c.device in
      let kv = decide-valid x (slot_bytes p a) c.device c-valid.device (slot-sized a p v.private port) in
      let request-is = held_bytes_lem (stage_for p c) (slot_bytes p a) (sym (held-says (stage_for p c) (slot_bytes p a)) ∙ pass.1.0) in
      record {
        valid = serve-store p port k kv;
        same = serve-machine p port k kv ∙ ap (λ (m : List ℕ). serve_decided p (decide x m c.device) M) (sym request-is);
        seen_same = refl;
      }

  -- ---- work

  abbrev work_after : ℕ → List ℕ → Volume
  work_after n sector = work_volume n sector (record { device = c.device; disk = s.disk })

  -- whether or not the machine dropped a sector that no fill used, the work is the same ..
  work-sector : (n : ℕ) (f : Fill) → c.device.command.fill ≡ f → work_after n (fill_sector_of a) ≡ work_after n (while_running f (fill_sector_of a))
  work-sector n idle e = idle-work n (fill_sector_of a) _ e ∙ sym (idle-work n [] _ e)
  work-sector n (running first next end) e = refl

  -- .. and so is the machine
  work-machine : (n : ℕ) (f : Fill) (ports : ℕ → Port) → c.device.command.fill ≡ f
      → machine (work_after n (fill_sector_of a)).device (fill_sector_of a) ports (work_after n (fill_sector_of a)).disk
      ≡ machine (work_after n (while_running f (fill_sector_of a))).device (while_running f (fill_sector_of a)) ports (work_after n (while_running f (fill_sector_of a))).disk
  work-machine n (running first next end) ports e = refl
  work-machine n idle ports e =
      ap (λ (x : Volume). machine x.device (fill_sector_of a) ports x.disk) (idle-work n (fill_sector_of a) _ e)
      ∙ machine-path c.device (fill_sector_of a) [] ports ports s.disk (idle-any c.device.command.fill (fill_sector_of a) [] e) (λ i. refl)
      ∙ ap (λ (x : Volume). machine x.device [] ports x.disk) (sym (idle-work n [] _ e))

  work-done : (n : ℕ) → Done (work n) s
  unfolding machine_of worked
  work-done n =
      let f = c.device.command.fill in
      let w = does-valid (work n) M tt m-valid refl in
      let back = sym (work-sector n f refl) in
      let x = work_after n (fill_sector_of a) in
      let dv : Valid x.device = subst (λ (y : Volume). Valid y.device) back w.device_valid in
      let kv : DiskValid x.device.native x.disk = subst (λ (y : Volume). DiskValid y.device.native y.disk) back w.disk_valid in
      let cv : ContentsValid (with_device x.device c) = record { device = dv; four = four } in
      record {
        valid = store-encoded (with_device x.device c) a x.disk cv v.private kv;
        same = machine-encoded (with_device x.device c) a x.disk cv ∙ work-machine n f (λ p. port_of (stage_for p c) (slot_bytes p a)) refl;
        seen_same = refl;
      }

  -- ---- owner steps

  -- a device changed, and the rest unchanged
  device-done : (d : Device) → Valid d → d.native ≡ c.device.native
      → while_running d.command.fill (fill_sector_of a) ≡ while_running d.command.fill (while_running c.device.command.fill (fill_sector_of a))
      → StoreValid (store (encode (with_device d c)) a s.disk)
      × (machine_of (store (encode (with_device d c)) a s.disk) ≡ machine d M.sector M.ports s.disk)
  unfolding machine_of
  device-done d dv native sector =
      let cv : ContentsValid (with_device d c) = record { device = dv; four = four } in (
        store-encoded (with_device d c) a s.disk cv v.private (rw native v.disk),
        machine-encoded (with_device d c) a s.disk cv ∙ machine-path d (fill_sector_of a) (while_running c.device.command.fill (fill_sector_of a)) _ _ s.disk sector (λ i. refl),
      )

  interrupted : (d : Device) → d.command.fill ≡ idle → while_running d.command.fill (fill_sector_of a) ≡ while_running d.command.fill (while_running c.device.command.fill (fill_sector_of a))
  interrupted d e = idle-any d.command.fill (fill_sector_of a) (while_running c.device.command.fill (fill_sector_of a)) e

  native-kept : (interrupt c.device).native ≡ c.device.native
  native-kept = ap (λ (d : Device). d.native) (interrupt-kept c.device)

  -- N is unchanged, and the fill sector is that of the fill, if it still runs
  owner-keeps : (x : OwnerStep)
      → ((owner_rule x c.device).native ≡ c.device.native)
      × (while_running (owner_rule x c.device).command.fill (fill_sector_of a)
      ≡ while_running (owner_rule x c.device).command.fill (while_running c.device.command.fill (fill_sector_of a)))
  unfolding set_lock set_visible_device sample_device
  owner-keeps lock = (native-kept, interrupted (set_lock true c.device) (interrupt-quiet c.device).no_fill)
  owner-keeps unlock = (native-kept, interrupted (set_lock false c.device) (interrupt-quiet c.device).no_fill)
  owner-keeps (set_visible n) = (native-kept, interrupted (set_visible_device n c.device) (interrupt-quiet c.device).no_fill)
  owner-keeps (sample reading) = (refl, sym (kept-once c.device.command.fill (fill_sector_of a)))

  owner-done : (x : OwnerStep) → OwnerFed x → first_failed (checks (owner x) M) ≡ 0 → Done (owner x) s
  unfolding machine_of
  owner-done x fed e =
      let w = does-valid (owner x) M fed m-valid e in
      let keeps = owner-keeps x in
      let k = device-done (owner_rule x c.device) w.device_valid keeps.0 keeps.1 in
      record { valid = k.0; same = k.1; seen_same = refl }

  -- ---- repair

  repair-done : (lba : ℕ) → first_failed (checks (repair lba) M) ≡ 0 → Done (repair lba) s
  unfolding machine_of repaired
  repair-done lba e =
      let x = repair_volume lba (record { device = c.device; disk = s.disk }) in
      let w = does-valid (repair lba) M tt m-valid e in
      let cv : ContentsValid (with_device x.device c) = record { device = w.device_valid; four = four } in
      -- the check area stays
      let whole : disk_of x.disk.sectors s.disk.check_area ≡ x.disk =
      ap (disk_of x.disk.sectors) (sym (repair-leaves-check-area lba (record { device = c.device; disk = s.disk }))) in
      let left : Disk → Store = λ disk. store (encode (with_device x.device c)) a disk in
      record {
        valid = subst (λ (disk : Disk). StoreValid (left disk)) (sym whole) (store-encoded (with_device x.device c) a x.disk cv v.private w.disk_valid);
        same =
            ap (λ (disk : Disk). machine_of (left disk)) whole
            ∙ machine-encoded (with_device x.device c) a x.disk cv
            ∙ machine-path x.device (fill_sector_of a) (while_running c.device.command.fill (fill_sector_of a)) _ _ x.disk
            (interrupted x.device (repair-idle lba (record { device = c.device; disk = s.disk }))) (λ i. refl);
        seen_same = refl;
      }

  power-on-done : (image : List ℕ) (used : ℕ) → Bytes image → first_failed (checks (power_on image used) M) ≡ 0 → Done (power_on image used) s
  unfolding machine_of
  power-on-done image used fed e =
      let w = does-valid (power_on image used) M fed m-valid e in
      let k = powered-store s.disk image used w in
      record { valid = k.0; same = k.1; seen_same = refl }

-- ---- any step

done-follows : (x : Step) (s : Store) → Fed x → StoreValid s → first_failed (checks x (machine_of s)) ≡ 0 → Done x s
done-follows (take p m) s fed v e = take_done s v p m fed e
done-follows (serve x) s fed v e = serve-done s v x e
done-follows (give p m) s fed v e = give-done s v p m e
done-follows (work n) s fed v e = work-done s v n
done-follows (owner x) s fed v e = owner-done s v x fed e
done-follows (repair lba) s fed v e = repair-done s v lba e
done-follows (save image used) s fed v e = record { valid = v; same = refl; seen_same = unfold machine_of in refl }
done-follows (power_on image used) s fed v e = power-on-done s v image used fed e

-- THEOREM: from valid bytes, every step on the bytes follows the machine's step.
pub follows : (x : Step) (s : Store) → Fed x → StoreValid s → Follows x s
follows x s fed v = go (first_failed (checks x (machine_of s))) refl
  where
    go : (n : ℕ) → first_failed (checks x (machine_of s)) ≡ n → Follows x s
    go zero e =
        let k = done-follows x s fed v e in
        let on = on-done x s (checks-same x s v ∙ e) in
        let it = step-done x (machine_of s) e in
        record { valid = rw on k.valid; same = rw (on, it) k.same; seen_same = rw (on, it) k.seen_same }
    go (suc n) e =
        let on = on-refused x s n (checks-same x s v ∙ e) in
        let it = step-refused x (machine_of s) n e in
        record { valid = rw on v; same = rw (on, it); seen_same = rw (on, it) }

-- Nothing is lost by reading bytes as a machine: valid bytes that represent the same machine are the same, except where no rule looks.
use mathlib.Core.Path.{◌≡◌, refl, sym, ap, ◌∙◌}
use Prim.Native.Nat.{ℕ}
use native.Mathlib.Omega.{arith}
use mathlib.Core.List.{List}
use lib.Seq.{ext_get_or}
use Rattle.model.specs.Device.{Fill, idle, running}
use Rattle.model.specs.Machine.{Machine, while_running}
use Rattle.store.specs.Record.{Stage, empty, held, answered, Contents, encode, decode}
use Rattle.store.specs.Store.{Store, port_of, slot_bytes, fill_sector_of, stage_for, machine_of}
use Rattle.store.proofs.SoundLaws.{sound-parts}
use Rattle.store.proofs.FollowLaws.{StoreValid, contents-valid}

-- a port's content determines its slot's stage ..
stage-told : (k l : Stage) (b c : List ℕ) → port_of k b ≡ port_of l c → k ≡ l
stage-told empty empty b c e = refl
stage-told held held b c e = refl
stage-told answered answered b c e = refl
stage-told empty held b c e = absurd (let z : ◌≡◌ {A = ℕ} 0 1 = cc in omega arith)
stage-told empty answered b c e = absurd (let z : ◌≡◌ {A = ℕ} 0 1 = cc in omega arith)
stage-told held empty b c e = absurd (let z : ◌≡◌ {A = ℕ} 0 1 = cc in omega arith)
stage-told held answered b c e = absurd (let z : ◌≡◌ {A = ℕ} 0 1 = cc in omega arith)
stage-told answered empty b c e = absurd (let z : ◌≡◌ {A = ℕ} 0 1 = cc in omega arith)
stage-told answered held b c e = absurd (let z : ◌≡◌ {A = ℕ} 0 1 = cc in omega arith)

-- .. and its bytes, unless it is empty
bytes-told : (k l : Stage) (b c : List ℕ) → port_of k b ≡ port_of l c → (k ≡ empty → ⊥) → b ≡ c
bytes-told empty l b c e ne = absurd (ne refl)
bytes-told held empty b c e ne = cc
bytes-told held held b c e ne = cc
bytes-told held answered b c e ne = cc
bytes-told answered empty b c e ne = cc
bytes-told answered held b c e ne = cc
bytes-told answered answered b c e ne = cc

running-told : (f : Fill) (s t : List ℕ) → (f ≡ idle → ⊥) → while_running f s ≡ while_running f t → s ≡ t
running-told idle s t ne e = absurd (ne refl)
running-told (running first next end) s t ne e = e

pub record SameBytes (s t : Store) : Type 0 where
  pub same_record : s.record_area ≡ t.record_area
  pub same_disk : s.disk ≡ t.disk
  -- the bytes of held and answered slots
  pub same_slots : (p : ℕ) → (stage_for p (decode s.record_area) ≡ empty → ⊥) → slot_bytes p s.private_area ≡ slot_bytes p t.private_area
  -- and the fill sector while a fill runs
  pub same_fill_sector : ((decode s.record_area).device.command.fill ≡ idle → ⊥) → fill_sector_of s.private_area ≡ fill_sector_of t.private_area

-- THEOREM: two valid stores that represent the same machine have the same bytes wherever a rule looks.
pub nothing-lost : (s t : Store) → StoreValid s → StoreValid t → machine_of s ≡ machine_of t → SameBytes s t
unfolding machine_of
nothing-lost s t v w e =
    let c = decode s.record_area in
    let d = decode t.record_area in
    let ports : (p : ℕ) → port_of (stage_for p c) (slot_bytes p s.private_area) ≡ port_of (stage_for p d) (slot_bytes p t.private_area) =
    λ p. ap (λ (M : Machine). M.ports p) e in
    let stages : c.stages ≡ d.stages =
    ext_get_or empty c.stages d.stages ((contents-valid s v).four ∙ sym (contents-valid t w).four)
    (λ p h. stage-told (stage_for p c) (stage_for p d) (slot_bytes p s.private_area) (slot_bytes p t.private_area) (ports p)) in
    let contents : c ≡ d = λ i. record { device = (e i).device; stages = stages i } in
    record {
      same_record = sym (sound-parts s.record_area v.is_sound).again ∙ ap encode contents ∙ (sound-parts t.record_area w.is_sound).again;
      same_disk = ap (λ (M : Machine). M.disk) e;
      same_slots = λ p. bytes-told (stage_for p c) (stage_for p d) (slot_bytes p s.private_area) (slot_bytes p t.private_area) (ports p);
      same_fill_sector = λ ne.
          running-told c.device.command.fill (fill_sector_of s.private_area) (fill_sector_of t.private_area) ne
          (ap (λ (M : Machine). M.sector) e ∙ ap (λ (x : Contents). while_running x.device.command.fill (fill_sector_of t.private_area)) (sym contents));
    }

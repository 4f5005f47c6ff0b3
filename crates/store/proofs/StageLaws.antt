-- A slot's stage stored into a record gives the record with that stage, and no other byte changes.
use mathlib.Core.Path.{◌≡◌, refl, sym, ap, ◌∙◌}
use mathlib.Core.Bool.{true}
use mathlib.Core.List.{List, [], ◌∷◌, ◌++◌}
use Prim.Native.Nat.{ℕ, zero, suc, ◌<◌}
use native.Mathlib.Omega.{arith}
use lib.ListN.{length, get_or, take, drop}
use Rattle.wire.specs.Numbers.{put}
use Rattle.wire.specs.Parts.{zeros}
use Rattle.wire.specs.Layout.{form}
use Rattle.wire.proofs.LayoutLaws.{length-form}
use Rattle.wire.proofs.PartsLaws.{put_front}
use Rattle.wire.proofs.WithinLaws.{field-set}
use Rattle.model.specs.Device.{none, Device}
use Rattle.model.specs.Temperature.{table_bytes}
use Rattle.store.specs.Areas.{head_size}
use Rattle.store.specs.Record.{Stage, empty, Contents, stage_number, slot_at, head_fields, encode, decode, stage_at, transfer_at}
use Rattle.store.specs.Sound.{sound}
use Rattle.store.specs.Entries.{with_stage}
use Rattle.store.proofs.RecordLaws.{four-back}
use Rattle.store.proofs.SoundLaws.{sound-parts}

-- the contents with four stages
abbrev four : Device → Stage → Stage → Stage → Stage → Contents
four d a b c e = record { device = d; stages = a ∷ b ∷ c ∷ e ∷ [] }

-- 22 fields come before the slots, and each slot has four
half-set : (d : Device) (a b c e s : Stage) (p : ℕ) → p < 4
    → put 1 (form head_size (head_fields (four d a b c e))) (slot_at p) (stage_number s) ≡ form head_size (head_fields (with_stage p s (four d a b c e)))
unfolding form
half-set d a b c e s zero h =
    let fs = head_fields (four d a b c e) in
    field-set (take 22 fs) (drop 23 fs) head_size 1 72 (stage_number a) (stage_number s) (zeros head_size) refl
half-set d a b c e s (suc zero) h =
    let fs = head_fields (four d a b c e) in
    field-set (take 26 fs) (drop 27 fs) head_size 1 96 (stage_number b) (stage_number s) (zeros head_size) refl
half-set d a b c e s (suc (suc zero)) h =
    let fs = head_fields (four d a b c e) in
    field-set (take 30 fs) (drop 31 fs) head_size 1 120 (stage_number c) (stage_number s) (zeros head_size) refl
half-set d a b c e s (suc (suc (suc zero))) h =
    let fs = head_fields (four d a b c e) in
    field-set (take 34 fs) (drop 35 fs) head_size 1 144 (stage_number e) (stage_number s) (zeros head_size) refl
half-set d a b c e s (suc (suc (suc (suc p)))) h = absurd (omega arith)

-- THE LAW of a stage stored
pub stage-stored : (c : Contents) (p : ℕ) (s : Stage) → length c.stages ≡ 4 → p < 4 → put 1 (encode c) (slot_at p) (stage_number s) ≡ encode (with_stage p s c)
unfolding encode
stage-stored c p s size h =
    let d = c.device in
    let ss = c.stages in
    let t = table_bytes d.settings.log_interval.state d.thermal.index d.thermal.history in
    let same : record { device = d; stages = get_or ss 0 empty ∷ get_or ss 1 empty ∷ get_or ss 2 empty ∷ get_or ss 3 empty ∷ [] } ≡ c =
    ap (λ (l : List Stage). record { device = d; stages = l }) (four-back ss empty size) in
    put_front 1 (form head_size (head_fields c)) t (slot_at p) (stage_number s) (rw (length-form head_size (head_fields c)) (omega arith))
    ∙ ap (λ (l : List ℕ). l ++ t)
    (ap (λ (x : Contents). put 1 (form head_size (head_fields x)) (slot_at p) (stage_number s)) (sym same)
    ∙ half-set d (get_or ss 0 empty) (get_or ss 1 empty) (get_or ss 2 empty) (get_or ss 3 empty) s p h
    ∙ ap (λ (x : Contents). form head_size (head_fields (with_stage p s x))) same)

-- .. and in a sound record
pub sound-stage : (r : List ℕ) (p : ℕ) (s : Stage) → sound r ≡ true → p < 4 → put 1 r (slot_at p) (stage_number s) ≡ encode (with_stage p s (decode r))
unfolding decode
sound-stage r p s e h =
    ap (λ (l : List ℕ). put 1 l (slot_at p) (stage_number s)) (sym (sound-parts r e).again) ∙ stage-stored (decode r) p s refl h

-- the stage of slot p in a record
pub stage-read : (r : List ℕ) (p : ℕ) → p < 4 → get_or (decode r).stages p empty ≡ stage_at r p
unfolding decode
stage-read r zero h = refl
stage-read r (suc zero) h = refl
stage-read r (suc (suc zero)) h = refl
stage-read r (suc (suc (suc zero))) h = refl
stage-read r (suc (suc (suc (suc p)))) h = absurd (omega arith)

-- .. and what its port has pending
pub transfer-read : (r : List ℕ) (p : ℕ) → p < 4 → get_or (decode r).device.command.pending p none ≡ transfer_at r p
unfolding decode
transfer-read r zero h = refl
transfer-read r (suc zero) h = refl
transfer-read r (suc (suc zero)) h = refl
transfer-read r (suc (suc (suc zero))) h = refl
transfer-read r (suc (suc (suc (suc p)))) h = absurd (omega arith)

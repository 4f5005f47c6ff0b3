-- How a key is decided: from the contracts of the called functions to the model's decision.
use mathlib.Core.Path.{◌≡◌, sym, ap, ◌∙◌}
use mathlib.Core.List.{List}
use Prim.Native.Nat.{ℕ, ◌+◌}
use native.Mathlib.Omega.{arith}
use Rattle.wire.specs.Numbers.{get}
use Rattle.wire.specs.Parts.{part}
use Rattle.wire.proofs.PartsLaws.{number-first, number_of}
use Rattle.model.specs.Sizes.{sector_size, registers_size}
use Rattle.model.specs.Device.{Device}
use Rattle.model.specs.Update.{with_code, with_key}
use Rattle.model.specs.Registers.{Registers, data_of, refused_with}
use Rattle.model.specs.Key.{word, Action, Verdict, accepted, rejected, pattern_sector, judge_key}
use Rattle.model.specs.Fill.{interrupt}
use Rattle.model.specs.Decide.{nothing, decision, carry_out, decide_verdict, decide_key}
use Rattle.model.proofs.RequestLaws.{interrupt-kept}
use Rattle.store.specs.Areas.{slot_place}
use Rattle.store.specs.Store.{slot_bytes}
use Rattle.store.proofs.FollowLaws.{slot-data}
use Rattle.record.specs.declared.device as device
use Rattle.record.specs.DeviceMeaning.{as_device}
use Rattle.key.specs.VerdictMeaning.{as_action, as_verdict, refusal_of}
use Rattle.key.specs.declared.key as key
use Rattle.key.specs.declared.refusal as refusal
use Rattle.key.specs.declared.key.Verdict.TheVariants.{Accepted, Rejected}
use Rattle.device_update.specs.Change.{Changed}
use Rattle.decision.specs.declared.decision as code
use Rattle.decision.specs.DecisionMeaning.{Says, Decided}
use Rattle.device_update.proofs.ChangeLaws.{changed_then}
use Rattle.decision.proofs.DecidedLaws.{says-decided, decided-as, decided-then}

abbrev recorded_by : List ℕ → Device → Device
recorded_by k x = with_key (word k 0) (word k 1) (interrupt x)

-- the two words, as they are read
pub words-read : (a : List ℕ) (at action function : ℕ) (d e : device.Device.Device) → action ≡ get 2 a at → function ≡ get 2 a (at + 2)
    → Changed (λ x. with_key action function (interrupt x)) d e → Changed (recorded_by (part a at sector_size)) d e
words-read a at action function d e first second change =
    record {
      device = λ h.
          change.device h
          ∙ (λ i.
          with_key
          (sym (number-first 2 a at sector_size (omega arith) first) i)
          (sym (number_of 2 a at sector_size 2 (omega arith) second) i)
          (interrupt (as_device d h)));
      stages = change.stages;
      four = change.four;
    }

module _ (p : ℕ) (x : Device) (k : List ℕ) where
  -- a key that is accepted, and one that is refused, with the fill stopped
  verdict-accepted : (y : Action) → judge_key x k ≡ accepted y → carry_out y p (with_code 0x0000 (with_key (word k 0) (word k 1) x)) ≡ decide_key p k x
  unfolding decide_key
  verdict-accepted y e = sym (ap (λ (v : Verdict). decide_verdict v p (with_key (word k 0) (word k 1) x)) e)

  verdict-refused : (code named : ℕ) → judge_key x k ≡ rejected code named
      → decision (with_code code (with_key (word k 0) (word k 1) x)) (refused_with code named) nothing ≡ decide_key p k x
  unfolding decide_key
  verdict-refused code named e = sym (ap (λ (v : Verdict). decide_verdict v p (with_key (word k 0) (word k 1) x)) e)

module _ (a : List ℕ) (p : ℕ) (d e : device.Device.Device) (asked : key.Verdict.Verdict) where
  -- the key, as the code reads it and as the model names it
  abbrev bytes : List ℕ
  bytes = part a (slot_place p + registers_size) sector_size

  abbrev sector : List ℕ
  sector = data_of (slot_bytes p a)

  module _ (words : Changed (recorded_by bytes) d e) (read : (x : Device) → x.locked ≡ d.locked → x.visible ≡ d.visible → as_verdict asked (pattern_sector bytes) ≡ judge_key x bytes) where
    -- stopping a fill changes nothing that a key's checks read
    judged : (h : List ℕ) → judge_key (interrupt (as_device d h)) sector ≡ as_verdict asked (pattern_sector sector)
    judged h =
        let same = interrupt-kept (as_device d h) in
        sym (read (interrupt (as_device d h)) (ap (λ (x : Device). x.locked) same) (ap (λ (x : Device). x.visible) same)
        ∙ ap (judge_key (interrupt (as_device d h))) (slot-data a p))
        ∙ ap (λ (k : List ℕ). as_verdict asked (pattern_sector k)) (slot-data a p)

    -- THE LAWS of a key: refused ..
    pub key-refused : (r given : refusal.Refusal.Refusal) (f : device.Device.Device) (q : Registers) (k : code.Decision.Decision) → asked ≡ Rejected given → r ≡ refusal_of asked
        → Changed (with_code r.code) e f → q ≡ refused_with r.code r.word → Says f q (λ m. nothing) k
        → Decided (slot_bytes p a) (λ x. decide_key p sector (interrupt x)) d k
    key-refused r given f q k is same coded registers says =
        let n = r.code in
        let reply = refused_with n r.word in
        let verdict : (h : List ℕ) → judge_key (interrupt (as_device d h)) sector ≡ rejected n r.word =
        λ h.
        judged h
        ∙ ap (λ (v : key.Verdict.Verdict). as_verdict v (pattern_sector sector)) is
        ∙ ap (λ (x : refusal.Refusal.Refusal). rejected x.code x.word) (sym (same ∙ ap refusal_of is)) in
        decided-as (slot_bytes p a) (λ x. decision (with_code n (recorded_by bytes x)) reply nothing) (λ x. decide_key p sector (interrupt x)) d k
        (λ h.
        ap (λ (l : List ℕ). decision (with_code n (recorded_by l (as_device d h))) reply nothing) (slot-data a p)
        ∙ verdict-refused p (interrupt (as_device d h)) sector n r.word (verdict h))
        (says-decided (slot_bytes p a) (λ x. with_code n (recorded_by bytes x)) (λ x. reply) (λ m. nothing) d f q k says (changed_then (recorded_by bytes) (with_code n) d e f words coded) (λ h. registers))

    -- .. and accepted
    pub key-accepted : (y : key.Action.Action) (f : device.Device.Device) (k : code.Decision.Decision) → asked ≡ Accepted y → Changed (with_code 0x0000) e f
        → ((m : List ℕ) → Decided m (carry_out (as_action y (pattern_sector (data_of m))) p) f k)
        → Decided (slot_bytes p a) (λ x. decide_key p sector (interrupt x)) d k
    key-accepted y f k is coded carried =
        let action = as_action y (pattern_sector sector) in
        let verdict : (h : List ℕ) → judge_key (interrupt (as_device d h)) sector ≡ accepted action =
        λ h. judged h ∙ ap (λ (v : key.Verdict.Verdict). as_verdict v (pattern_sector sector)) is in
        decided-as (slot_bytes p a) (λ x. carry_out action p (with_code 0x0000 (recorded_by bytes x))) (λ x. decide_key p sector (interrupt x)) d k
        (λ h.
        ap (λ (l : List ℕ). carry_out action p (with_code 0x0000 (recorded_by l (as_device d h)))) (slot-data a p)
        ∙ verdict-accepted p (interrupt (as_device d h)) sector action (verdict h))
        (decided-then (slot_bytes p a) (λ x. with_code 0x0000 (recorded_by bytes x)) (carry_out action p) d f k
        (changed_then (recorded_by bytes) (with_code 0x0000) d e f words coded)
        (carried (slot_bytes p a)))

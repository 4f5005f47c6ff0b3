-- How a slot is served: a status read, and a request that is decided for the record's device and performed.
use mathlib.Core.Path.{◌≡◌, sym, ap, ◌∙◌, subst}
use mathlib.Core.List.{List}
use Prim.Native.Nat.{ℕ, ◌≤◌, ◌<◌}
use native.Mathlib.Omega.{arith}
use lib.ListN.{get_or}
use lib.Seq.{sets}
use Rattle.wire.specs.Bytes.{Bytes}
use Rattle.model.specs.Disk.{Disk, HasSize}
use Rattle.model.specs.Device.{Device, none}
use Rattle.model.specs.Registers.{Request, status_read, request_of}
use Rattle.model.specs.Decide.{Serving, Decision, decide_request, decide}
use Rattle.model.proofs.ValidRequest.{WritingValid, SendingValid, DecisionValid, request-valid}
use Rattle.store.specs.Areas.{slot_place}
use Rattle.store.specs.Record.{answered, Contents, encode, decode, transfer_at}
use Rattle.store.specs.Store.{slot_bytes}
use Rattle.store.specs.Entries.{ServeAfter, with_stage}
use Rattle.store.proofs.SoundLaws.{sound-valid}
use Rattle.store.proofs.StageLaws.{transfer-read}
use Rattle.store.proofs.StatusRead.{status-performed}
use Rattle.store.proofs.FollowLaws.{slot-sized}
use Rattle.record.specs.declared.device as device
use Rattle.record.specs.DeviceMeaning.{as_contents, stages_of, pending_of, history_of}
use Rattle.record_write.proofs.FramedLaws.{sound-framed}
use Rattle.device_update.proofs.ChangeLaws.{four-slots}
use Rattle.decision.specs.declared.decision as code
use Rattle.decision.specs.declared.decision.Writing.TheVariants as writes
use Rattle.decision.specs.declared.decision.Sending.TheVariants as sends
use Rattle.decision.specs.DecisionMeaning.{as_writing, as_sending, as_decision, Decided}
use Rattle.effect.specs.Effects.{Within, WritesWithin, SendsWithin}
use Rattle.status_read.specs.StatusReply.{status_reply}
use Rattle.status_read.proofs.StatusLaws.{reply-by-lock}
use Rattle.serve_request.specs.Served.{served, Served, Performable, Entered}

-- "1 ≤ V"
pub entered-visible : (r a : List ℕ) (p : ℕ) (d : device.Device.Device) → Entered r a p → Bytes r → as_contents d (history_of r) ≡ decode r → 1 ≤ d.visible
entered-visible r a p d e b says =
    let v = (sound-valid r b e.sound_record).device.sizes.0 in
    let same = ap (λ (c : Contents). c.device.visible) says in
    omega (arith, v, same)

-- what the port has pending, read from the record, is what its slot of the struct has
pub entered-pending : (r : List ℕ) (p : ℕ) (d : device.Device.Device) → p < 4 → as_contents d (history_of r) ≡ decode r → transfer_at r p ≡ get_or (pending_of d.slots) p none
entered-pending r p d port says = sym (ap (λ (c : Contents). get_or c.device.command.pending p none) says ∙ transfer-read r p port)

-- sectors below V are within the visible disk
within : (visible lba : ℕ) (disk : Disk) → HasSize visible disk → lba < visible → Within disk lba
within visible lba disk size h = (omega (arith, size.0), omega (arith, size.1))

writes-within : (d : Device) (w : code.Writing.Writing) (m : List ℕ) (disk : Disk) → HasSize d.visible disk → WritingValid d (as_writing w m) → WritesWithin disk w
writes-within d writes.Nothing m disk size v = tt
writes-within d (writes.Sector lba) m disk size v = within d.visible lba disk size v.0
writes-within d (writes.LongSector lba) m disk size v = within d.visible lba disk size v.0
writes-within d (writes.PatternFill first end) m disk size v = tt
writes-within d (writes.DataFill first end) m disk size v = tt

sends-within : (visible : ℕ) (x : code.Sending.Sending) (disk : Disk) → HasSize visible disk → SendingValid visible (as_sending x) → SendsWithin disk x
sends-within visible sends.Nothing disk size v = tt
sends-within visible sends.Temperatures disk size v = tt
sends-within visible (sends.Sector lba) disk size v = within visible lba disk size v
sends-within visible (sends.StoredSector lba) disk size v = within visible lba disk size v

module _ (r a : List ℕ) (disk : Disk) (p : ℕ) (d : device.Device.Device) (q : Request) (k : code.Decision.Decision) (entered : Entered r a p)
    (says : as_contents d (history_of r) ≡ decode r) (decides : Decided (slot_bytes p a) (decide_request q (record { port = p }) (slot_bytes p a)) d k) where
  abbrev m : List ℕ
  m = slot_bytes p a

  abbrev serving : Serving
  serving = record { port = p }

  -- what is decided is the model's decision for the request q
  decided : as_decision k m (history_of r) ≡ decide_request q serving m (decode r).device
  decided = decides.same (history_of r) ∙ ap (λ (c : Contents). decide_request q serving m c.device) says

  -- whatever the request
  pub performable : Bytes r → Bytes a → HasSize (decode r).device.visible disk → Performable r a disk p k
  performable rb ab size =
      let valid = request-valid q serving m (decode r).device (sound-valid r rb entered.sound_record).device (slot-sized a p (record { size = entered.size; bytes = ab }) entered.port) in
      let dv : DecisionValid (decode r).device (as_decision k m (history_of r)) = subst (λ (c : Decision). DecisionValid (decode r).device c) (sym decided) valid in
      let sized : HasSize k.device.visible disk = subst (λ (v : ℕ). HasSize v disk) (sym dv.same_sizes.1) size in
      record {
        framed = sound-framed r rb entered.sound_record;
        size = entered.size;
        port = entered.port;
        four = decides.four ∙ four-slots d (history_of r) r says;
        writes_within = writes-within (as_decision k m (history_of r)).device k.writes m disk sized dv.effect_valid.0;
        sends_within = sends-within k.device.visible k.sends disk sized dv.effect_valid.1;
      }

  -- a request served as it was decided
  pub serves : (new_record b : List ℕ) (new_disk : Disk) → Served p (as_decision k m (history_of r)) (stages_of k.device.slots) a disk new_record b new_disk
      → Served p (decide_request q serving m (decode r).device) (decode r).stages a disk new_record b new_disk
  serves new_record b new_disk s =
      let stages : stages_of k.device.slots ≡ (decode r).stages = decides.stages ∙ ap (λ (c : Contents). c.stages) says in
      record {
        record_bytes = s.record_bytes ∙ (λ i. (served p (decided i) (stages i) a disk).record_area);
        area_bytes = s.area_bytes ∙ (λ i. (served p (decided i) (stages i) a disk).private_area);
        disk_bytes = s.disk_bytes ∙ (λ i. (served p (decided i) (stages i) a disk).disk);
      }

module _ (r a : List ℕ) (disk : Disk) (p : ℕ) where
  -- the buffers after slot p was served as the request q
  abbrev ServedAs : Request → List ℕ → List ℕ → Disk → Type 0
  ServedAs q new_record b new_disk = Served p (decide_request q (record { port = p }) (slot_bytes p a) (decode r).device) (decode r).stages a disk new_record b new_disk

  -- THE LAW of a status read served
  pub status-served : (new_record b : List ℕ) → new_record ≡ encode (with_stage p answered (decode r)) → b ≡ sets a (slot_place p) (status_reply (decode r).device)
      → ServedAs status_read new_record b disk
  status-served new_record b er eb =
      let same = status-performed (decode r).device.locked p (decode r) a disk in
      record {
        record_bytes = er ∙ sym (ap (λ (x : ServeAfter). x.record_area) same);
        area_bytes =
            eb
            ∙ ap (sets a (slot_place p)) (reply-by-lock (decode r).device)
            ∙ sym (ap (λ (x : ServeAfter). x.private_area) same);
        disk_bytes = sym (ap (λ (x : ServeAfter). x.disk) same);
      }

  -- THE LAW of a slot served: its request is the one that its registers encode
  pub serves-request : (q : Request) (new_record b : List ℕ) (new_disk : Disk) → q ≡ request_of (slot_bytes p a) → ServedAs q new_record b new_disk
      → Served p (decide (record { port = p }) (slot_bytes p a) (decode r).device) (decode r).stages a disk new_record b new_disk
  unfolding decide
  serves-request q new_record b new_disk asked s = subst (λ (x : Request). ServedAs x new_record b new_disk) asked s

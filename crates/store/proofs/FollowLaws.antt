-- Valid bytes, the machine that they represent, and how a store into a slot or the fill sector changes it.
use mathlib.Core.Path.{◌≡◌, refl, sym, ap, ap₂, subst, ◌∙◌}
use mathlib.Core.Bool.{Bool, true, false}
use Prim.Native.Nat.{ℕ, ◌+◌, ◌-◌, ◌*◌, ◌≤◌, ◌<◌}
use native.Mathlib.Omega.{arith}
use native.Mathlib.Decide.{dec_lt, dec_le}
use mathlib.Core.List.{List}
use lib.ListN.{length, get_or, set, drop, get_or-eq_default}
use lib.Seq.{sets, get_or-set_same, get_or-set_other, get_or-drop}
use lib.Dec.{eqb}
use borrow.Author.Tests.{eqb-true, eqb-false}
use Rattle.std.specs.Prelude.{if◌then◌else◌}
use Rattle.wire.specs.Numbers.{get}
use Rattle.wire.specs.Parts.{part}
use Rattle.wire.specs.Bytes.{Bytes}
use Rattle.wire.proofs.PartsLaws.{part-after, part-before, part_same, part-part, get-part, length_part}
use Rattle.wire.proofs.BytesLaws.{bytes-part}
use Rattle.model.specs.Sizes.{sector_size, check_size, registers_size, mailbox_size}
use Rattle.model.specs.Device.{Fill, idle, running}
use Rattle.model.specs.Disk.{Disk}
use Rattle.model.specs.Registers.{data_of, long_data_of}
use Rattle.model.specs.Machine.{while_running, with_port}
use Rattle.model.specs.Machine.{empty as nothing}
use Rattle.model.specs.Valid.{SectorValid, PortValid, Sized, DiskValid, MachineValid}
use Rattle.store.specs.Areas.{slot_size, slot_place, fill_place, private_size}
use Rattle.store.specs.Record.{Stage, empty, held, answered, Contents, encode, decode}
use Rattle.store.specs.Sound.{sound}
use Rattle.store.specs.Store.{Store, port_of, slot_bytes, fill_sector_of, stage_for, machine_from, machine_of}
use Rattle.store.specs.OnStore.{store}
use Rattle.store.specs.Condition3.{kept_hidden}
use Rattle.store.proofs.RecordLaws.{ContentsValid, valid-fits, bytes-encode, decode-encode}
use Rattle.store.proofs.SoundLaws.{sound-valid, sound-encode}

-- ---- what the definitions state of the bytes, in numbers

-- "Our device is read from record and fill sector; .. a slot is empty, held or answered as the machine's port holds nothing, a request or a reply."
pub record MachineRead (s : Store) : Type 0 where
  pub device : (machine_of s).device ≡ (decode s.record_area).device
  pub sector : (machine_of s).sector ≡ while_running (decode s.record_area).device.command.fill (part s.private_area 4160 512)
  pub ports : (p : ℕ) → (machine_of s).ports p ≡ port_of (get_or (decode s.record_area).stages p empty) (part s.private_area (1040 * p) 1040)
  pub disk : (machine_of s).disk ≡ s.disk

pub machine-read : (s : Store) → MachineRead s
unfolding machine_of
machine-read s = record { device = refl; sector = refl; ports = λ p. refl; disk = refl }

-- what `kept_hidden` states, byte by byte: sectors from 512 V on and check bytes from 2 V on are the same, with V of the record before
pub record BytesKept (before after : Store) : Type 0 where
  pub sectors : (i : ℕ) → 512 * (decode before.record_area).device.visible ≤ i → get_or after.disk.sectors i 0 ≡ get_or before.disk.sectors i 0
  pub check_area : (i : ℕ) → 2 * (decode before.record_area).device.visible ≤ i → get_or after.disk.check_area i 0 ≡ get_or before.disk.check_area i 0

dropped-same : (from : ℕ) (a b : List ℕ) → drop from a ≡ drop from b → (i : ℕ) → from ≤ i → get_or a i 0 ≡ get_or b i 0
dropped-same from a b same i h = sym (at a) ∙ ap (λ (l : List ℕ). get_or l (i - from) 0) same ∙ at b
  where
    at : (l : List ℕ) → get_or (drop from l) (i - from) 0 ≡ get_or l i 0
    at l = get_or-drop from l (i - from) 0 ∙ ap (λ (k : ℕ). get_or l k 0) (omega arith)

pub hidden-bytes : (s t : Store) → kept_hidden s t → BytesKept s t
unfolding machine_of
hidden-bytes s t same =
    let visible = (decode s.record_area).device.visible in
    record {
      sectors = dropped-same (512 * visible) t.disk.sectors s.disk.sectors (ap (λ (hidden : Disk). hidden.sectors) same);
      check_area = dropped-same (2 * visible) t.disk.check_area s.disk.check_area (ap (λ (hidden : Disk). hidden.check_area) same);
    }

-- ---- valid bytes

-- A sound record, a private area of its size, and a disk of N sectors.
pub record StoreValid (s : Store) : Type 0 where
  pub is_sound : sound s.record_area ≡ true
  pub record_bytes : Bytes s.record_area
  pub private : Sized private_size s.private_area
  pub disk : DiskValid (decode s.record_area).device.native s.disk

pub contents-valid : (s : Store) → StoreValid s → ContentsValid (decode s.record_area)
contents-valid s v = sound-valid s.record_area v.record_bytes v.is_sound

-- ---- the machine that such bytes represent is valid

pub slot-sized : (a : List ℕ) (p : ℕ) → Sized private_size a → p < 4 → Sized mailbox_size (slot_bytes p a)
slot-sized a p v h =
    record { size = length_part a (slot_place p) slot_size (omega (arith, v.size)); bytes = bytes-part a (slot_place p) slot_size v.bytes }

fill-sized : (a : List ℕ) → Sized private_size a → Sized sector_size (fill_sector_of a)
fill-sized a v = record { size = length_part a fill_place sector_size (omega (arith, v.size)); bytes = bytes-part a fill_place sector_size v.bytes }

-- a port above 3 has no slot
beyond : (ss : List Stage) (p : ℕ) → length ss ≡ 4 → 4 ≤ p → get_or ss p empty ≡ empty
beyond ss p e h = get_or-eq_default ss empty (omega arith)

sector-says : (f : Fill) (s : List ℕ) → Sized sector_size s → SectorValid f (while_running f s)
sector-says idle s v = refl
sector-says (running first next end) s v = v

port-says : (k : Stage) (b : List ℕ) → Sized mailbox_size b → PortValid (port_of k b)
port-says empty b v = tt
port-says held b v = v
port-says answered b v = v

machine-from-valid : (c : Contents) (a : List ℕ) (disk : Disk) → ContentsValid c → Sized private_size a → DiskValid c.device.native disk
    → MachineValid (machine_from c a disk)
machine-from-valid c a disk v p k =
    record {
      device_valid = v.device;
      sector_valid = sector-says c.device.command.fill (fill_sector_of a) (fill-sized a p);
      ports_valid = λ i. port i (dec_lt i 4);
      disk_valid = k;
    }
  where
    port : (i : ℕ) → Dec (i < 4) → PortValid (port_of (stage_for i c) (slot_bytes i a))
    port i (yes h) = port-says (stage_for i c) (slot_bytes i a) (slot-sized a i p h)
    port i (no h) = rw (beyond c.stages i v.four (omega arith)) tt

pub machine-valid : (s : Store) → StoreValid s → MachineValid (machine_of s)
unfolding machine_of
machine-valid s v = machine-from-valid (decode s.record_area) s.private_area s.disk (contents-valid s v) v.private v.disk

-- ---- a record that is written

pub machine-encoded : (c : Contents) (a : List ℕ) (disk : Disk) → ContentsValid c → machine_of (store (encode c) a disk) ≡ machine_from c a disk
unfolding machine_of
machine-encoded c a disk v = ap (λ (x : Contents). machine_from x a disk) (decode-encode c (valid-fits c v))

pub store-encoded : (c : Contents) (a : List ℕ) (disk : Disk) → ContentsValid c → Sized private_size a → DiskValid c.device.native disk
    → StoreValid (store (encode c) a disk)
store-encoded c a disk v p k =
    record {
      is_sound = sound-encode c v;
      record_bytes = bytes-encode c (valid-fits c v);
      private = p;
      disk = subst (λ (x : Contents). DiskValid x.device.native disk) (sym (decode-encode c (valid-fits c v))) k;
    }

-- ---- slots

-- the data of slot p, at its place in the area
pub slot-data : (a : List ℕ) (p : ℕ) → part a (slot_place p + registers_size) sector_size ≡ data_of (slot_bytes p a)
slot-data a p = sym (part-part a (slot_place p) slot_size registers_size sector_size (omega arith))

-- .. and the check bytes behind it
pub slot-check : (a : List ℕ) (p : ℕ) → get check_size a (slot_place p + registers_size + sector_size) ≡ (long_data_of (slot_bytes p a)).check
slot-check a p =
    let behind : slot_place p + registers_size + sector_size ≡ slot_place p + (registers_size + sector_size) = omega arith in
    ap (get check_size a) behind ∙ sym (get-part check_size a (slot_place p) slot_size (registers_size + sector_size) (omega arith))

-- bytes stored in slot p are slot p's, and do not change any other slot
slot_same : (a x : List ℕ) (p : ℕ) → length x ≡ slot_size → p < 4 → length a ≡ private_size → slot_bytes p (sets a (slot_place p) x) ≡ x
slot_same a x p e h size = part_same x a (slot_place p) slot_size e (omega arith)

slot-other : (a x : List ℕ) (p i : ℕ) → length x ≡ slot_size → (i ≡ p → ⊥) → slot_bytes i (sets a (slot_place p) x) ≡ slot_bytes i a
slot-other a x p i e ne = go (dec_le i p)
  where
    go : Dec (i ≤ p) → slot_bytes i (sets a (slot_place p) x) ≡ slot_bytes i a
    go (yes h) = part-before x a (slot_place p) (slot_place i) slot_size (omega arith)
    go (no h) = part-after x a (slot_place p) (slot_place i) slot_size (omega arith)

pub slot-fill : (a x : List ℕ) (p : ℕ) → length x ≡ slot_size → p < 4 → fill_sector_of (sets a (slot_place p) x) ≡ fill_sector_of a
slot-fill a x p e h = part-after x a (slot_place p) fill_place sector_size (omega arith)

-- the ports after slot p is given a stage and bytes
pub ports-set : (ss : List Stage) (a x : List ℕ) (p : ℕ) (k : Stage) → length ss ≡ 4 → p < 4 → length x ≡ slot_size → length a ≡ private_size → (i : ℕ)
    → port_of (get_or (set ss p k) i empty) (slot_bytes i (sets a (slot_place p) x)) ≡ with_port p (port_of k x) (λ j. port_of (get_or ss j empty) (slot_bytes j a)) i
ports-set ss a x p k four h e size i = go (eqb i p) refl
  where
    go : (b : Bool) → eqb i p ≡ b
        → port_of (get_or (set ss p k) i empty) (slot_bytes i (sets a (slot_place p) x)) ≡ (if b then port_of k x else port_of (get_or ss i empty) (slot_bytes i a))
    go true q = rw (eqb-true i p q) (ap₂ port_of (get_or-set_same ss p k empty (omega arith)) (slot_same a x p e h size))
    go false q = let ne = eqb-false i p q in ap₂ port_of (get_or-set_other ss p i k empty ne) (slot-other a x p i e ne)

-- .. and after slot p becomes empty
pub ports-cleared : (ss : List Stage) (a : List ℕ) (p : ℕ) → length ss ≡ 4 → p < 4 → (i : ℕ)
    → port_of (get_or (set ss p empty) i empty) (slot_bytes i a) ≡ with_port p nothing (λ j. port_of (get_or ss j empty) (slot_bytes j a)) i
ports-cleared ss a p four h i = go (eqb i p) refl
  where
    go : (b : Bool) → eqb i p ≡ b → port_of (get_or (set ss p empty) i empty) (slot_bytes i a) ≡ (if b then nothing else port_of (get_or ss i empty) (slot_bytes i a))
    go true q = rw (eqb-true i p q, get_or-set_same ss p empty empty (omega arith))
    go false q = rw (get_or-set_other ss p i empty empty (eqb-false i p q))

-- the fill sector's bytes belong to no slot
pub ports-fill : (ss : List Stage) (b x : List ℕ) → length ss ≡ 4 → (i : ℕ) → port_of (get_or ss i empty) (slot_bytes i (sets b fill_place x)) ≡ port_of (get_or ss i empty) (slot_bytes i b)
ports-fill ss b x four i = go (dec_lt i 4)
  where
    go : Dec (i < 4) → port_of (get_or ss i empty) (slot_bytes i (sets b fill_place x)) ≡ port_of (get_or ss i empty) (slot_bytes i b)
    go (yes h) = ap (port_of (get_or ss i empty)) (part-before x b fill_place (slot_place i) slot_size (omega arith))
    go (no h) = rw (beyond ss i four (omega arith))

-- The hidden sectors are not passed on: a step on the visible part, followed by the hidden bytes, is the step on the whole disk.
use mathlib.Core.Path.{◌≡◌, refl, sym, ap, subst, ◌∙◌}
use mathlib.Core.Bool.{Bool, true, false}
use mathlib.Core.List.{List, ◌++◌}
use Prim.Native.Nat.{ℕ, ◌*◌, ◌≤◌, ◌<◌}
use native.Mathlib.Omega.{arith}
use lib.ListN.{length, take, take-append-drop}
use lib.Dec.{eqb}
use lib.Seq.{sets, length-sets, length-take-le}
use Rattle.wire.specs.Bytes.{Bytes}
use Rattle.wire.specs.Numbers.{le, put}
use Rattle.wire.proofs.NumbersLaws.{length-le, get-append-left}
use Rattle.wire.proofs.PartsLaws.{length_part, part-front, sets-front}
use Rattle.sector_check.specs.Repair.{report_of, repaired_sector}
use Rattle.sector_check.proofs.SectorLaws.{length-repaired}
use Rattle.model.specs.Sizes.{sector_size, check_size, native_limit, port_count}
use Rattle.model.specs.Disk.{Disk, disk_of, HasSize, LongSector, sector_at, hidden_part}
use Rattle.model.specs.Device.{Device}
use Rattle.model.specs.Fill.{Volume, write_sector}
use Rattle.model.specs.Decide.{Writing, no_write, one_sector, new_fill, Sending, no_data, status, temperatures, disk_sector, stored_sector, Decision, decide}
use Rattle.model.specs.Valid.{Sized}
use Rattle.model.specs.Perform.{written, volume_after, sector_read, reply_with}
use Rattle.model.specs.Repair.{repair_report, repaired_device, repaired_disk, repair}
use Rattle.model.proofs.DiskSizes.{joined, SameSize}
use Rattle.model.proofs.ValidRequest.{WritingValid, SendingValid, DecisionValid, decide-valid}
use Rattle.store.specs.Areas.{slot_place, private_size}
use Rattle.store.specs.Record.{answered, decode, encode}
use Rattle.store.specs.Store.{slot_bytes}
use Rattle.store.specs.Entries.{with_stage, with_device, with_fill_sector, serve_done, work_done, repair_done}
use Rattle.store.proofs.SoundLaws.{sound-valid}
use Rattle.store.proofs.FollowLaws.{slot-sized}
use Rattle.fill.proofs.StepsLaws.{hidden-record, hidden-disk}
use Rattle.refusals.proofs.CheckLaws.{DiskPassed, native-limit, visible-native}

-- The part of a disk below V. The hidden part follows it (`hidden_part`).
abbrev pub visible_part : ℕ → Disk → Disk
visible_part visible disk = disk_of (take (sector_size * visible) disk.sectors) (take (check_size * visible) disk.check_area)

-- the whole disk is its two parts
parts-joined : (visible : ℕ) (disk : Disk) → joined (visible_part visible disk) (hidden_part visible disk) ≡ disk
parts-joined visible disk =
    λ i. record { sectors = take-append-drop (sector_size * visible) disk.sectors i; check_area = take-append-drop (check_size * visible) disk.check_area i }

-- what is known when the visible part of a disk, of v sectors, is passed on
pub record VisiblePart (r : List ℕ) (disk : Disk) (v : ℕ) : Type 0 where
  pub bytes : Bytes r
  pub passed : DiskPassed r disk
  pub limit : v ≤ native_limit
  pub within : (sector_size * v ≤ length disk.sectors) × (check_size * v ≤ length disk.check_area)
  pub size : HasSize (decode r).device.visible (visible_part v disk)

pub visible-part : (r : List ℕ) (disk : Disk) (v : ℕ) → Bytes r → DiskPassed r disk → v ≡ (decode r).device.visible → VisiblePart r disk v
visible-part r disk v b ok e =
    let h = visible-native r b ok.is_sound in
    let size = ok.disk_sized in
    let sectors : sector_size * v ≤ length disk.sectors = omega (arith, h, e, size.0) in
    let checks : check_size * v ≤ length disk.check_area = omega (arith, h, e, size.1) in
    record {
      bytes = b;
      passed = ok;
      limit = omega (arith, h, e, native-limit r b ok.is_sound);
      within = (sectors, checks);
      size = rw (← e) (length-take-le (sector_size * v) disk.sectors sectors, length-take-le (check_size * v) disk.check_area checks);
    }

-- a sector below V is the same in the visible part and in the whole disk
front-sector : (front back : Disk) (visible lba : ℕ) → HasSize visible front → lba < visible → sector_at lba front ≡ sector_at lba (joined front back)
front-sector front back visible lba size low =
    λ i. record {
      content = sym (part-front front.sectors back.sectors (sector_size * lba) sector_size (omega (arith, low, size.0))) i;
      check = sym (get-append-left check_size front.check_area back.check_area (check_size * lba) (omega (arith, low, size.1))) i;
    }

-- ---- THE LAWS of work

module _ (r a : List ℕ) (disk : Disk) (v n : ℕ) (s : VisiblePart r disk v) (whole : length a ≡ private_size) where
  pub work-record : (b : List ℕ) → b ≡ (work_done r a (visible_part v disk) n).record_area → b ≡ (work_done r a disk n).record_area
  work-record b h =
      h
      ∙ hidden-record r a (visible_part v disk) (hidden_part v disk) n whole
      ∙ ap (λ (x : Disk). (work_done r a x n).record_area) (parts-joined v disk)

  pub work-disk : (b : Disk) → b ≡ (work_done r a (visible_part v disk) n).disk → joined b (hidden_part v disk) ≡ (work_done r a disk n).disk
  work-disk b h =
      ap (λ (x : Disk). joined x (hidden_part v disk)) h
      ∙ hidden-disk r a (visible_part v disk) (hidden_part v disk) n whole s.bytes s.passed.is_sound s.size
      ∙ ap (λ (x : Disk). (work_done r a x n).disk) (parts-joined v disk)

-- ---- what is written is on the visible disk

-- device and disk after a write on the visible part, and after the same write on the whole disk
record WithHidden (visible hidden : Disk) (v whole : Volume) : Type 0 where
  device : v.device ≡ whole.device
  disk : joined v.disk hidden ≡ whole.disk
  size : SameSize v.disk visible

module _ (visible hidden : Disk) (d : Device) (size : HasSize d.visible visible) where
  abbrev on : Disk → Volume
  on disk = record { device = d; disk = disk }

  written-visible : (w : Writing) → WritingValid d w → WithHidden visible hidden (written w (on visible)) (written w (on (joined visible hidden)))
  unfolding write_sector put
  written-visible no_write k = record { device = refl; disk = refl; size = (refl, refl) }
  written-visible (one_sector lba x) k =
      let check = le check_size x.check in
      record {
        device = refl;
        disk = λ i. record {
          sectors = sym (sets-front x.content visible.sectors hidden.sectors (sector_size * lba) (omega (arith, k.0, k.1.size, size.0))) i;
          check_area = sym (sets-front check visible.check_area hidden.check_area (check_size * lba) (omega (arith, k.0, length-le check_size x.check, size.1))) i;
        };
        size = (length-sets visible.sectors (sector_size * lba) x.content, length-sets visible.check_area (check_size * lba) check);
      }
  written-visible (new_fill first end sector) k = record { device = refl; disk = refl; size = (refl, refl) }

  -- the sector that is read, after that
  sector-visible : (lba : ℕ) (v whole : Volume) → lba < d.visible → WithHidden visible hidden v whole → sector_at lba v.disk ≡ sector_at lba whole.disk
  sector-visible lba v whole k s =
      front-sector v.disk hidden d.visible lba (s.size.0 ∙ size.0, s.size.1 ∙ size.1) k ∙ ap (sector_at lba) s.disk

  read-visible : (x : Sending) (v whole : Volume) → SendingValid d.visible x → WithHidden visible hidden v whole → sector_read x v.disk ≡ sector_read x whole.disk
  read-visible no_data v whole k s = refl
  read-visible status v whole k s = refl
  read-visible temperatures v whole k s = refl
  read-visible (disk_sector lba) v whole k s = sector-visible lba v whole k s
  read-visible (stored_sector lba) v whole k s = sector-visible lba v whole k s

-- ---- THE LAWS of repair

module _ (r : List ℕ) (disk : Disk) (v lba : ℕ) (s : VisiblePart r disk v) (low : lba < (decode r).device.visible) where
  -- the sector is the same in the visible part ..
  repair-sector : sector_at lba (visible_part v disk) ≡ sector_at lba disk
  repair-sector = front-sector (visible_part v disk) (hidden_part v disk) (decode r).device.visible lba s.size low ∙ ap (sector_at lba) (parts-joined v disk)

  -- .. and so is the report
  same-report : repair_report lba (visible_part v disk) ≡ repair_report lba disk
  same-report = ap (λ (x : LongSector). report_of x.check x.content) repair-sector

  pub repair-report : (n : ℕ) → n ≡ (repair_done r (visible_part v disk) lba).report → n ≡ (repair_done r disk lba).report
  repair-report n h = h ∙ same-report

  pub repair-record : (b : List ℕ) → b ≡ (repair_done r (visible_part v disk) lba).record_area → b ≡ (repair_done r disk lba).record_area
  unfolding repair
  repair-record b h = h ∙ ap (λ (n : ℕ). encode (with_device (repaired_device (eqb n 1) (decode r).device) (decode r))) same-report

  pub repair-sectors : (b : List ℕ) → b ≡ (repair_done r (visible_part v disk) lba).sectors → b ++ (hidden_part v disk).sectors ≡ (repair_done r disk lba).sectors
  unfolding repair
  repair-sectors b h =
      ap (λ (l : List ℕ). l ++ hidden) h
      ∙ ap (λ (n : ℕ). (repaired_disk (eqb n 1) lba (visible_part v disk)).sectors ++ hidden) same-report
      ∙ go (eqb (repair_report lba disk) 1)
    where
      front : List ℕ
      front = (visible_part v disk).sectors

      hidden : List ℕ
      hidden = (hidden_part v disk).sectors

      whole : front ++ hidden ≡ disk.sectors
      whole = take-append-drop (sector_size * v) disk.sectors

      repaired_in : Disk → List ℕ
      repaired_in x = let y = sector_at lba x in repaired_sector y.check y.content

      -- the sector lies in the visible part
      size : length (repaired_in (visible_part v disk)) ≡ sector_size
      size =
          let y = sector_at lba (visible_part v disk) in
          length-repaired y.check y.content ∙ length_part front (sector_size * lba) sector_size (omega (arith, low, s.size.0))

      go : (flips : Bool) → (repaired_disk flips lba (visible_part v disk)).sectors ++ hidden ≡ (repaired_disk flips lba disk).sectors
      go true =
          sym (sets-front (repaired_in (visible_part v disk)) front hidden (sector_size * lba) (omega (arith, low, size, s.size.0)))
          ∙ (λ i. sets (whole i) (sector_size * lba) (let y = repair-sector i in repaired_sector y.check y.content))
      go false = whole

-- ---- THE LAWS of serve

module _ (r : List ℕ) (p : ℕ) (a : List ℕ) (disk : Disk) (v : ℕ) (s : VisiblePart r disk v) where
  abbrev decided : Decision
  decided = decide (record { port = p }) (slot_bytes p a) (decode r).device

  abbrev visible : Disk
  visible = visible_part v disk

  abbrev hidden : Disk
  hidden = hidden_part v disk

  module _ (private : Sized private_size a) (port : p < port_count) where
    valid : DecisionValid (decode r).device decided
    valid =
        decide-valid (record { port = p }) (slot_bytes p a) (decode r).device (sound-valid r s.bytes s.passed.is_sound).device
        (slot-sized a p private port)

    same_size : HasSize decided.device.visible visible
    same_size = subst (λ (n : ℕ). HasSize n visible) (sym valid.same_sizes.1) s.size

    after-visible : WithHidden visible hidden (volume_after decided visible) (volume_after decided (joined visible hidden))
    after-visible = written-visible visible hidden decided.device same_size decided.effect.writes valid.effect_valid.0

    whole : {A : Type 0} (f : Disk → A) → f (joined visible hidden) ≡ f disk
    whole f = ap f (parts-joined v disk)

    pub serve-record : (b : List ℕ) → b ≡ (serve_done r p a visible).record_area → b ≡ (serve_done r p a disk).record_area
    serve-record b h =
        h
        ∙ ap (λ (x : Device). encode (with_stage p answered (with_device x (decode r)))) after-visible.device
        ∙ whole (λ x. (serve_done r p a x).record_area)

    pub serve-area : (b : List ℕ) → b ≡ (serve_done r p a visible).private_area → b ≡ (serve_done r p a disk).private_area
    serve-area b h =
        let x = decided.effect.sends in
        h
        ∙ (λ i.
        with_fill_sector decided.effect.writes
        (sets a (slot_place p)
        (reply_with decided.registers x (after-visible.device i)
        (read-visible visible hidden decided.device same_size x (volume_after decided visible) (volume_after decided (joined visible hidden)) valid.effect_valid.1 after-visible i))))
        ∙ whole (λ l. (serve_done r p a l).private_area)

    pub serve-disk : (b : Disk) → b ≡ (serve_done r p a visible).disk → joined b hidden ≡ (serve_done r p a disk).disk
    serve-disk b h = ap (λ (x : Disk). joined x hidden) h ∙ after-visible.disk ∙ whole (λ x. (serve_done r p a x).disk)

-- Every step keeps the machine's values in document 01's ranges.
use Rattle.std.specs.Prelude.{if◌then◌else◌}
use mathlib.Core.Path.{◌≡◌, refl, sym, ap, ◌∙◌, subst}
use mathlib.Core.Bool.{Bool, true, false, ◌||◌}
use mathlib.Core.Logic.{◌⊎◌, inl, inr}
use Prim.Native.Nat.{ℕ, zero, suc, ◌*◌, ◌%◌, ◌≤◌, ◌<◌}
use native.Mathlib.Omega.{arith}
use mathlib.Core.List.{List, []}
use lib.ListN.{length, length-append}
use lib.Seq.{sets, length-sets}
use lib.Dec.{eqb}
use borrow.Author.Tests.{eqb-true, eqb-false, ltb-true}
use Rattle.wire.specs.Choice.{first_failed}
use Rattle.wire.specs.Numbers.{le, put}
use Rattle.wire.specs.Bytes.{Bytes}
use Rattle.wire.proofs.ChoiceLaws.{and_left, and_right, between-true, all_pass}
use Rattle.wire.proofs.NumbersLaws.{length-le}
use Rattle.wire.proofs.PartsLaws.{length_part}
use Rattle.wire.proofs.BytesLaws.{bytes-nil, bytes-append, bytes-part, bytes-sets, bytes_le, bytes-form}
use Rattle.sector_check.specs.Repair.{repaired_sector}
use Rattle.sector_check.proofs.SectorLaws.{bytes-repaired}
use Rattle.model.specs.Sizes.{sector_size, check_size, data_size, mailbox_size, native_limit}
use Rattle.model.specs.Device.{Fill, idle, running, Device}
use Rattle.model.specs.Disk.{Disk, LongSector, native_size, checked, sector_at, with_sector}
use Rattle.model.specs.Registers.{Registers, refused, reply_bytes}
use Rattle.model.specs.Update.{with_initialized, with_locked, with_fill}
use Rattle.model.specs.Status.{status_fields, status_sector}
use Rattle.model.specs.Fill.{Volume, running_code, whole_disk, interrupt, write_sector, advanced, fill_step, sector_step, iterate, work_count}
use Rattle.model.specs.Fill.{work as work_volume}
use Rattle.model.specs.Decide.{Writing, no_write, one_sector, new_fill, Sending, no_data, status, temperatures, disk_sector, stored_sector, Decision, decide}
use Rattle.model.specs.Perform.{written, volume_after, fill_sector_after, temperature_table, sector_read, same_check, long_bytes, reply_with, reply_of}
use Rattle.model.specs.Repair.{repair_report, repaired_device, repaired_disk}
use Rattle.model.specs.Repair.{repair as repair_volume}
use Rattle.model.specs.Owner.{set_lock}
use Rattle.model.specs.Owner.{set_visible as set_visible_device, sample as sample_device}
use Rattle.model.specs.Image.{whole_sectors, readable, power_on_checks, same_disk, restored, blank, newest_in}
use Rattle.model.specs.Image.{power_on as power_on_device}
use Rattle.model.specs.Machine.{Port, empty, request, reply, Machine, while_running, machine, with_port, held_bytes}
use Rattle.model.specs.Step.{OwnerStep, lock, unlock, set_visible, sample, Step, take, serve, give, work, owner, repair, save, power_on, good_value, checks, does, volume, served, serve_decided, worked, repaired, powered_on, step}
use Rattle.model.specs.Valid.{SectorValid, PortValid, Sized, DiskValid, Valid, MachineValid, OwnerFed, Fed}
use Rattle.model.proofs.StepLaws.{step-done, step-refused, answers-numbered}
use Rattle.model.proofs.FormatLaws.{status-at, table_at, table-bytes, reply-sized}
use Rattle.model.proofs.PowerOnLaws.{power-on-valid, blank-fits, blank-ranged, newest-fits, newest-ranged}
use Rattle.model.proofs.OwnerLaws.{interrupt-quiet}
use Rattle.model.proofs.DiskRepair.{repair-idle}
use Rattle.model.proofs.RequestLaws.{interrupt-kept}
use Rattle.model.proofs.ValidDevice.{initialized-valid, locked-valid, interrupt-command, interrupt-valid, start-valid, advanced-valid, sampled-valid}
use Rattle.model.proofs.ValidRequest.{WritingValid, SendingValid, DecisionValid, decide-valid, request-held}

-- ---- effects

-- a device and a disk of its size
pub record VolumeValid (v : Volume) : Type 0 where
  pub device_valid : Valid v.device
  pub disk_valid : DiskValid v.device.native v.disk

-- bytes stored in a run of bytes
stored-sized : (n : ℕ) (bytes l : List ℕ) (at : ℕ) → Sized n l → Bytes bytes → Sized n (sets l at bytes)
stored-sized n bytes l at s b = record { size = length-sets l at bytes ∙ s.size; bytes = bytes-sets bytes l at s.bytes b }

write-valid : (lba : ℕ) (x : LongSector) (v : Volume) → VolumeValid v → Sized sector_size x.content → VolumeValid (write_sector lba x v)
unfolding write_sector put
write-valid lba x v ok s =
    let n = v.device.native in
    record {
      device_valid = initialized-valid false v.device ok.device_valid;
      disk_valid =
          record {
            sectors_valid = stored-sized (sector_size * n) x.content v.disk.sectors (sector_size * lba) ok.disk_valid.sectors_valid s.bytes;
            check_area_valid =
                stored-sized (check_size * n) (le check_size x.check) v.disk.check_area (check_size * lba) ok.disk_valid.check_area_valid (bytes_le check_size x.check);
          };
    }

written-valid : (w : Writing) (v : Volume) → VolumeValid v → WritingValid v.device w → VolumeValid (written w v)
written-valid no_write v ok k = ok
written-valid (one_sector lba x) v ok k = write-valid lba x v ok k.1
written-valid (new_fill first end sector) v ok k =
    record { device_valid = start-valid first end v.device ok.device_valid k.3 k.0 k.1; disk_valid = ok.disk_valid }

-- a write does not change N and V
pub written-sizes : (w : Writing) (v : Volume) → ((written w v).device.native ≡ v.device.native) × ((written w v).device.visible ≡ v.device.visible)
unfolding write_sector
written-sizes no_write v = (refl, refl)
written-sizes (one_sector lba x) v = (refl, refl)
written-sizes (new_fill first end sector) v = (refl, refl)

-- the data of a reply is bytes, and fits a mailbox
abbrev SentValid : List ℕ → Type 0
SentValid l = (length l ≤ data_size) × Bytes l

status-valid : (d : Device) → Valid d → SentValid (status_sector d)
unfolding status_sector
status-valid d ok = (omega (arith, (status-at d ok).size), bytes-form sector_size (status_fields d))

temperatures-valid : (d : Device) → Valid d → SentValid (temperature_table d)
temperatures-valid d ok =
    let t = ok.thermal_valid in
    let interval = ok.settings_valid.interval_valid.1 in
    let at = table_at d.settings.log_interval.state d.thermal.index d.thermal.history (omega arith) (omega (arith, t.index_valid)) t.whole in (
      omega (arith, at.size),
      table-bytes d.settings.log_interval.state d.thermal.index d.thermal.history t.readings,
    )

pub content-valid : (lba : ℕ) (v : Volume) → VolumeValid v → lba < v.device.visible → Sized sector_size (sector_at lba v.disk).content
content-valid lba v ok k =
    let s = ok.disk_valid.sectors_valid in
    record {
      size = length_part v.disk.sectors (sector_size * lba) sector_size (omega (arith, s.size, ok.device_valid.sizes.1));
      bytes = bytes-part v.disk.sectors (sector_size * lba) sector_size s.bytes;
    }

long-valid : (lba : ℕ) (v : Volume) → VolumeValid v → lba < v.device.visible → SentValid (long_bytes (sector_at lba v.disk))
long-valid lba v ok k =
    let x = sector_at lba v.disk in
    let s = content-valid lba v ok k in (
      rw (length-append, s.size, length-le check_size x.check) (omega arith),
      bytes-append x.content (le check_size x.check) s.bytes (bytes_le check_size x.check),
    )

replied-valid : (r : Registers) (x : Sending) (v : Volume) → VolumeValid v → SendingValid v.device.visible x
    → Sized mailbox_size (reply_with r x v.device (sector_read x v.disk))
replied-valid r no_data v ok k = reply-sized r [] (omega arith) bytes-nil
replied-valid r status v ok k = let s = status-valid v.device ok.device_valid in reply-sized r (status_sector v.device) s.0 s.1
replied-valid r temperatures v ok k = let s = temperatures-valid v.device ok.device_valid in reply-sized r (temperature_table v.device) s.0 s.1
replied-valid r (disk_sector lba) v ok k = go (same_check (sector_at lba v.disk))
  where
    content : List ℕ
    content = (sector_at lba v.disk).content

    go : (b : Bool) → Sized mailbox_size (if b then reply_bytes r content else reply_bytes (refused 0x40) [])
    go true = let s = content-valid lba v ok k in reply-sized r content (omega (arith, s.size)) s.bytes
    go false = reply-sized (refused 0x40) [] (omega arith) bytes-nil
replied-valid r (stored_sector lba) v ok k = let s = long-valid lba v ok k in reply-sized r (long_bytes (sector_at lba v.disk)) s.0 s.1

-- ---- the fill's sector

-- a sector that a running fill can have
abbrev Suits : Fill → List ℕ → Type 0
Suits idle s = Unit {0}
Suits (running first next end) s = Sized sector_size s

suits : (f : Fill) (s : List ℕ) → SectorValid f s → Suits f s
suits idle s v = tt
suits (running first next end) s v = v

-- the machine keeps it while the fill runs
running-valid : (f : Fill) (s : List ℕ) → Suits f s → SectorValid f (while_running f s)
running-valid idle s v = refl
running-valid (running first next end) s v = v

sector-after : (w : Writing) (v : Volume) (s : List ℕ) → WritingValid v.device w → Suits v.device.command.fill s
    → Suits (written w v).device.command.fill (fill_sector_after w s)
unfolding write_sector
sector-after no_write v s k h = h
sector-after (one_sector lba x) v s k h = h
sector-after (new_fill first end sector) v s k h = k.2

-- the decided fill is the previous one, or none
sector-decided : (f g : Fill) (s : List ℕ) → (f ≡ idle) ⊎ (f ≡ g) → Suits g s → Suits f s
sector-decided f g s (inl e) v = subst (λ (x : Fill). Suits x s) (sym e) tt
sector-decided f g s (inr e) v = subst (λ (x : Fill). Suits x s) (sym e) v

-- ---- serve

ports-valid : (p : ℕ) (x : Port) (ports : ℕ → Port) → PortValid x → ((q : ℕ) → PortValid (ports q)) → (q : ℕ) → PortValid (with_port p x ports q)
ports-valid p x ports v w q = go (eqb q p)
  where
    go : (b : Bool) → PortValid (if b then x else ports q)
    go true = v
    go false = w q

module _ (p : ℕ) (c : Decision) (M : Machine) (ok : MachineValid M) (k : DecisionValid M.device c) where
  abbrev decided : Volume
  decided = record { device = c.device; disk = M.disk }

  abbrev after : Volume
  after = volume_after c M.disk

  after-valid : VolumeValid after
  after-valid =
      written-valid c.effect.writes decided (record { device_valid = k.device_valid; disk_valid = rw k.same_sizes.0 ok.disk_valid }) k.effect_valid.0

  -- the reply has the size of a mailbox
  pub reply-valid : Sized mailbox_size (reply_of c after)
  reply-valid =
      replied-valid c.registers c.effect.sends after after-valid (rw (written-sizes c.effect.writes decided).1 k.effect_valid.1)

  pub serve-valid : MachineValid (serve_decided p c M)
  unfolding serve_decided
  serve-valid =
      let kept = sector-decided c.device.command.fill M.device.command.fill M.sector k.same_fill (suits M.device.command.fill M.sector ok.sector_valid) in
      record {
        device_valid = after-valid.device_valid;
        sector_valid =
            running-valid after.device.command.fill (fill_sector_after c.effect.writes M.sector)
            (sector-after c.effect.writes decided M.sector k.effect_valid.0 kept);
        ports_valid = ports-valid p (reply (reply_of c after)) M.ports reply-valid ok.ports_valid;
        disk_valid = after-valid.disk_valid;
      }

-- ---- work

-- the fill's sector is valid for the fill
pub record FillingValid (sector : List ℕ) (v : Volume) : Type 0 where
  pub volume_valid : VolumeValid v
  pub sector_valid : Suits v.device.command.fill sector

-- a property of a fill that has ended, and of one that continues, holds after one sector
advanced-cases : (P : Device → Type 0) (first next end : ℕ) (d : Device)
    → P (with_initialized (whole_disk first end d.visible) (with_fill idle 0x0000 d)) → P (with_fill (running first next end) running_code d)
    → P (advanced first next end d)
advanced-cases P first next end d over on = go (eqb next end)
  where
    go : (b : Bool) → P (if b then with_initialized (whole_disk first end d.visible) (with_fill idle 0x0000 d) else with_fill (running first next end) running_code d)
    go true = over
    go false = on

-- one sector of a fill that runs
running-step-valid : (first next end : ℕ) (sector : List ℕ) (v : Volume) → VolumeValid v → Sized sector_size sector
    → v.device.command.fill ≡ running first next end → FillingValid sector (fill_step (running first next end) sector v)
unfolding write_sector
running-step-valid first next end sector v ok s e =
    let d = with_initialized false v.device in
    let disk = with_sector next (checked sector) v.disk in
    let w = write-valid next (checked sector) v ok s in
    record {
      volume_valid =
          record {
            device_valid = advanced-valid first next end d w.device_valid e;
            disk_valid = advanced-cases (λ x. DiskValid x.native disk) first (suc next) end d w.disk_valid w.disk_valid;
          };
      sector_valid = advanced-cases (λ x. Suits x.command.fill sector) first (suc next) end d tt s;
    }

sector-step-valid : (sector : List ℕ) (v : Volume) → FillingValid sector v → FillingValid sector (sector_step sector v)
unfolding sector_step
sector-step-valid sector v ok = go v.device.command.fill refl ok.sector_valid
  where
    go : (f : Fill) → v.device.command.fill ≡ f → Suits f sector → FillingValid sector (fill_step f sector v)
    go idle e s = ok
    go (running first next end) e s = running-step-valid first next end sector v ok.volume_valid s e

iterate-valid : (k : ℕ) (sector : List ℕ) (v : Volume) → FillingValid sector v → FillingValid sector (iterate k (sector_step sector) v)
iterate-valid zero sector v ok = ok
iterate-valid (suc k) sector v ok = sector-step-valid sector (iterate k (sector_step sector) v) (iterate-valid k sector v ok)

work-valid : (n : ℕ) (M : Machine) → MachineValid M → MachineValid (worked n M)
unfolding worked work_volume
work-valid n M ok =
    let w =
    iterate-valid (work_count n M.device.command.fill) M.sector (volume M)
    (record { volume_valid = record { device_valid = ok.device_valid; disk_valid = ok.disk_valid }; sector_valid = suits M.device.command.fill M.sector ok.sector_valid }) in
    record {
      device_valid = w.volume_valid.device_valid;
      sector_valid = running-valid (work_volume n M.sector (volume M)).device.command.fill M.sector w.sector_valid;
      ports_valid = ok.ports_valid;
      disk_valid = w.volume_valid.disk_valid;
    }

-- ---- owner steps

-- a device with no fill
quiet-machine : (d : Device) (M : Machine) → MachineValid M → Valid d → d.native ≡ M.device.native → d.command.fill ≡ idle
    → MachineValid (machine d M.sector M.ports M.disk)
quiet-machine d M ok v same none =
    record { device_valid = v; sector_valid = rw none; ports_valid = ok.ports_valid; disk_valid = rw same ok.disk_valid }

interrupt-native : (d : Device) → (interrupt d).native ≡ d.native
interrupt-native d = ap (λ (e : Device). e.native) (interrupt-kept d)

lock-valid : (b : Bool) (M : Machine) → MachineValid M → MachineValid (machine (set_lock b M.device) M.sector M.ports M.disk)
unfolding set_lock
lock-valid b M ok =
    quiet-machine (with_locked b (interrupt M.device)) M ok (locked-valid b (interrupt M.device) (interrupt-valid M.device ok.device_valid))
    (interrupt-native M.device) (interrupt-quiet M.device).no_fill

visible-valid : (n : ℕ) (M : Machine) → MachineValid M → 1 ≤ n → n ≤ M.device.native
    → MachineValid (machine (set_visible_device n M.device) M.sector M.ports M.disk)
unfolding set_visible_device
visible-valid n M ok some most =
    let d = M.device in
    let i = interrupt-valid d ok.device_valid in
    quiet-machine _ M ok
    (record {
      sizes = (some, rw (interrupt-native d) most, i.sizes.2);
      command_valid = interrupt-command d.visible n d ok.device_valid.command_valid;
      settings_valid = i.settings_valid;
      thermal_valid = i.thermal_valid;
    })
    (interrupt-native d) (interrupt-quiet d).no_fill

sample-valid : (reading : ℕ) (M : Machine) → MachineValid M → reading < 256
    → MachineValid (machine (sample_device reading M.device) M.sector M.ports M.disk)
unfolding sample_device
sample-valid reading M ok h =
    let v = ok.device_valid in
    record {
      device_valid =
          record {
            sizes = v.sizes;
            command_valid = v.command_valid;
            settings_valid = v.settings_valid;
            thermal_valid = sampled-valid M.device.settings.log_interval.state reading M.device.thermal h v.settings_valid.interval_valid.0 v.thermal_valid;
          };
      sector_valid = running-valid M.device.command.fill M.sector (suits M.device.command.fill M.sector ok.sector_valid);
      ports_valid = ok.ports_valid;
      disk_valid = ok.disk_valid;
    }

-- ---- repair

repair-volume : (lba : ℕ) (M : Machine) → MachineValid M → lba < M.device.visible → VolumeValid (repair_volume lba (volume M))
unfolding repair_volume
repair-volume lba M ok low = go (eqb (repair_report lba M.disk) 1)
  where
    d : Device
    d = interrupt M.device

    x : LongSector
    x = sector_at lba M.disk

    content : Sized sector_size x.content
    content = content-valid lba (volume M) (record { device_valid = ok.device_valid; disk_valid = ok.disk_valid }) low

    stopped : VolumeValid (record { device = d; disk = M.disk })
    stopped = record { device_valid = interrupt-valid M.device ok.device_valid; disk_valid = rw (interrupt-native M.device) ok.disk_valid }

    go : (b : Bool) → VolumeValid (record { device = repaired_device b M.device; disk = repaired_disk b lba M.disk })
    go true =
        record {
          device_valid = initialized-valid false d stopped.device_valid;
          disk_valid =
              record {
                sectors_valid =
                    stored-sized (sector_size * d.native) (repaired_sector x.check x.content) M.disk.sectors (sector_size * lba) stopped.disk_valid.sectors_valid
                    (bytes-repaired x.check x.content content.bytes);
                check_area_valid = stopped.disk_valid.check_area_valid;
              };
        }
    go false = stopped

repair-valid : (lba : ℕ) (M : Machine) → MachineValid M → lba < M.device.visible → MachineValid (repaired lba M)
unfolding repaired
repair-valid lba M ok low =
    let v = repair-volume lba M ok low in
    record { device_valid = v.device_valid; sector_valid = rw (repair-idle lba (volume M)); ports_valid = ok.ports_valid; disk_valid = v.disk_valid }

-- ---- power-on

-- the device after a power-on is in range
pub restored-valid : (native : ℕ) (image : List ℕ) (used : ℕ) → 1 ≤ native → native ≤ native_limit → Bytes image → readable image used ≡ true
    → Valid (power_on_device (restored native image used))
unfolding restored
restored-valid native image used some most b r = go (eqb used 0) refl
  where
    go : (z : Bool) → eqb used 0 ≡ z → Valid (power_on_device (if z then blank native else newest_in image used))
    go true e = power-on-valid (blank native) (blank-fits native some most) (blank-ranged native some most)
    go false e =
        power-on-valid (newest_in image used) (newest-fits image used b r (eqb-false used 0 e)) (newest-ranged image used b r (eqb-false used 0 e))

-- .. and has this disk's N
pub restored-native : (native : ℕ) (image : List ℕ) (used : ℕ) → same_disk native image used ≡ true → (power_on_device (restored native image used)).native ≡ native
unfolding restored power_on_device
restored-native native image used h = go (eqb used 0) h
  where
    go : (z : Bool) → (z || eqb (newest_in image used).native native) ≡ true → (if z then blank native else newest_in image used).native ≡ native
    go true e = refl
    go false e = eqb-true (newest_in image used).native native e

pub power-on-machine : (disk : Disk) (image : List ℕ) (used : ℕ) → Bytes disk.sectors → Bytes disk.check_area → Bytes image
    → first_failed (power_on_checks disk image used) ≡ 0 → MachineValid (powered_on disk image used)
unfolding powered_on power_on_device
power-on-machine disk image used db cb ib e =
    let size = length disk.sectors in
    let native = native_size disk in
    let pass = all_pass 8 (power_on_checks disk image used) (omega arith) e in
    let sectors = and_left (whole_sectors size) _ pass.0 in
    let checks = eqb-true (length disk.check_area) (check_size * native) (and_right (whole_sectors size) _ pass.0) in
    let whole = eqb-true (size % sector_size) 0 (and_left _ _ sectors) in
    let sizes = between-true 1 native native_limit (and_right (eqb (size % sector_size) 0) _ sectors) in
    let own = restored-native native image used pass.1.1.1.0 in
    record {
      device_valid = restored-valid native image used sizes.0 sizes.1 ib pass.1.1.0;
      sector_valid = refl;
      ports_valid = λ p. tt;
      disk_valid =
          record {
            sectors_valid = record { size = rw own (omega arith); bytes = db };
            check_area_valid = record { size = rw own checks; bytes = cb };
          };
    }

-- ---- any step

sector-kept : (M : Machine) → MachineValid M → SectorValid M.device.command.fill (while_running M.device.command.fill M.sector)
sector-kept M ok = running-valid M.device.command.fill M.sector (suits M.device.command.fill M.sector ok.sector_valid)

port-changed : (p : ℕ) (x : Port) (M : Machine) → MachineValid M → PortValid x
    → MachineValid (machine M.device M.sector (with_port p x M.ports) M.disk)
port-changed p x M ok v =
    record { device_valid = ok.device_valid; sector_valid = sector-kept M ok; ports_valid = ports-valid p x M.ports v ok.ports_valid; disk_valid = ok.disk_valid }

owner-valid : (x : OwnerStep) (M : Machine) → OwnerFed x → MachineValid M → good_value x M.device ≡ true → MachineValid (does (owner x) M)
owner-valid lock M fed ok e = lock-valid true M ok
owner-valid unlock M fed ok e = lock-valid false M ok
owner-valid (set_visible v) M fed ok e = let range = between-true 1 v M.device.native e in visible-valid v M ok range.0 range.1
owner-valid (sample reading) M fed ok e = sample-valid reading M ok fed

pub does-valid : (x : Step) (M : Machine) → Fed x → MachineValid M → first_failed (checks x M) ≡ 0 → MachineValid (does x M)
unfolding served
does-valid (take p m) M fed ok e =
    let pass = all_pass 8 (checks (take p m) M) (answers-numbered (take p m) M) e in
    port-changed p (request m) M ok (record { size = eqb-true (length m) mailbox_size pass.0; bytes = fed })
does-valid (serve s) M fed ok e =
    let p = s.port in
    let pass = all_pass 8 (checks (serve s) M) (answers-numbered (serve s) M) e in
    let m = held_bytes (M.ports p) in
    serve-valid p (decide s m M.device) M ok
    (decide-valid s m M.device ok.device_valid (request-held (M.ports p) pass.1.0 (ok.ports_valid p)))
does-valid (give p m) M fed ok e = port-changed p empty M ok tt
does-valid (work n) M fed ok e = work-valid n M ok
does-valid (owner x) M fed ok e = owner-valid x M fed ok (all_pass 8 (checks (owner x) M) (answers-numbered (owner x) M) e).0
does-valid (repair lba) M fed ok e =
    repair-valid lba M ok (ltb-true lba M.device.visible (all_pass 8 (checks (repair lba) M) (answers-numbered (repair lba) M) e).0)
does-valid (save image used) M fed ok e = ok
does-valid (power_on image used) M fed ok e =
    power-on-machine M.disk image used ok.disk_valid.sectors_valid.bytes ok.disk_valid.check_area_valid.bytes fed e

-- THEOREM: every step, refused or not, keeps the ranges.
pub step-valid : (x : Step) (M : Machine) → Fed x → MachineValid M → MachineValid (step x M).state
step-valid x M fed ok = go (first_failed (checks x M)) refl
  where
    go : (n : ℕ) → first_failed (checks x M) ≡ n → MachineValid (step x M).state
    go zero e = rw (step-done x M e) (does-valid x M fed ok e)
    go (suc n) e = rw (step-refused x M n e) ok

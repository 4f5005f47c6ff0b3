-- Laws of check bytes, in W-202's words: what an ordinary write leaves, byte by byte; that such a sector is read; and a sector whose check differs.
use mathlib.Core.Path.{◌≡◌, refl, sym, ap, ◌∙◌}
use mathlib.Core.Bool.{false}
use mathlib.Core.Logic.{◌⊎◌}
use Prim.Native.Nat.{ℕ, suc, ◌+◌, ◌-◌, ◌*◌, ◌/◌, ◌%◌, ◌≤◌, ◌<◌, min}
use native.Mathlib.Omega.{arith}
use mathlib.Core.List.{List, [], ◌∷◌}
use lib.ListN.{length, get_or, set, length-set}
use lib.Seq.{sets, get_or-set_same}
use Rattle.wire.specs.Numbers.{le, get, put}
use Rattle.wire.specs.Parts.{part, padded}
use Rattle.wire.specs.Layout.{form}
use Rattle.wire.proofs.NumbersLaws.{length-le, get-put, get_or_sets_before}
use Rattle.wire.proofs.PartsLaws.{length_part, part_same}
use Rattle.sector_check.specs.Check.{check_of}
use Rattle.sector_check.proofs.SectorLaws.{check-lt}
use Rattle.model.specs.Sizes.{port_count}
use Rattle.model.specs.Device.{idle, running, none, Device}
use Rattle.model.specs.Disk.{Disk}
use Rattle.model.specs.Registers.{Direction, read, write, sector_access, data_transfer, request_of, good, refused, refused_with, registers_bytes, reply_bytes}
use Rattle.model.specs.Update.{with_code}
use Rattle.model.specs.Fill.{nothing_pending, interrupt}
use Rattle.model.specs.Decide.{Serving, long_transfer}
use Rattle.model.specs.Machine.{request, reply, Machine}
use Rattle.model.specs.Step.{work, step}
use Rattle.model.specs.Valid.{MachineValid}
use Rattle.model.proofs.RequestLaws.{Serves, serve_on, serves-read, serves-damaged, serves-write, serves-data-refused, data-count-long}
use Rattle.model.proofs.OwnerLaws.{interrupt-quiet, interrupt-code-idle}
use Rattle.model.proofs.WorkLaws.{work-places, work-check-bytes}
use Rattle.model.proofs.HiddenLaws.{outside-stored}

-- ---- an ordinary write: "Every ordinary write sets them."

-- what 34h leaves of the request m: its sector, and the check of it in two bytes, low byte first; nothing else changes
pub record SectorWritten (m : List ℕ) (lba : ℕ) (before after : Disk) : Type 0 where
  pub content : part after.sectors (512 * lba) 512 ≡ part m 16 512
  pub low_byte : get_or after.check_area (2 * lba) 0 ≡ check_of (part m 16 512) % 256
  pub high_byte : get_or after.check_area (2 * lba + 1) 0 ≡ check_of (part m 16 512) / 256
  pub number : get 2 after.check_area (2 * lba) ≡ check_of (part m 16 512)
  pub other_sectors : (i : ℕ) → (i < 512 * lba) ⊎ (512 * lba + 512 ≤ i) → get_or after.sectors i 0 ≡ get_or before.sectors i 0
  pub other_check_bytes : (i : ℕ) → (i < 2 * lba) ⊎ (2 * lba + 2 ≤ i) → get_or after.check_area i 0 ≡ get_or before.check_area i 0

-- a number of 16 bits stored in two bytes, low byte first
two_bytes : (l : List ℕ) (at v : ℕ) → at + 2 ≤ length l → v < 65536 → (get_or (put 2 l at v) at 0 ≡ v % 256) × (get_or (put 2 l at v) (at + 1) 0 ≡ v / 256)
unfolding put le
two_bytes l at v fits small =
    let high = v / 256 % 256 in
    let above : high ≡ v / 256 = high_byte_lem v small in
    let next : at + 1 ≡ suc at = omega arith in (
      get_or_sets_before (high ∷ []) (set l at (v % 256)) (suc at) at (omega arith) ∙ get_or-set_same l at (v % 256) 0 (omega arith),
      rw next (get_or-set_same (set l at (v % 256)) (suc at) high 0 (rw length-set (omega arith)) ∙ above),
    )
  where
    high_byte_lem : (v : ℕ) → v < 65536 → v / 256 % 256 ≡ v / 256
    high_byte_lem v h = omega arith

sector-written : (m : List ℕ) (lba : ℕ) (disk : Disk) → length m ≡ 1040 → 512 * lba + 512 ≤ length disk.sectors → 2 * lba + 2 ≤ length disk.check_area
    → SectorWritten m lba disk (record { sectors = sets disk.sectors (512 * lba) (part m 16 512); check_area = put 2 disk.check_area (2 * lba) (check_of (part m 16 512)) })
unfolding put
sector-written m lba disk whole fits check_fits =
    let sector = part m 16 512 in
    let check = check_of sector in
    let small : check < 65536 = omega (arith, check-lt sector) in
    let size : length sector ≡ 512 = length_part m 16 512 (omega (arith, whole)) in
    let bytes = two_bytes disk.check_area (2 * lba) check check_fits small in
    record {
      content = part_same sector disk.sectors (512 * lba) 512 size fits;
      low_byte = bytes.0;
      high_byte = bytes.1;
      number = get-put 2 disk.check_area (2 * lba) check check_fits (omega (arith, small));
      other_sectors = λ i h. outside-stored sector disk.sectors (512 * lba) (512 * lba + 512) i (omega (arith, size)) h;
      other_check_bytes = λ i h. outside-stored (le 2 check) disk.check_area (2 * lba) (2 * lba + 2) i (omega (arith, length-le 2 check)) h;
    }

-- the disk has the sector at an LBA, and its check bytes
disk-fits : (M : Machine) (lba : ℕ) → MachineValid M → lba < M.device.visible
    → (512 * lba + 512 ≤ length M.disk.sectors) × (2 * lba + 2 ≤ length M.disk.check_area)
disk-fits M lba ok low =
    let n = ok.device_valid.sizes.1 in
    (omega (arith, low, n, ok.disk_valid.sectors_valid.size), omega (arith, low, n, ok.disk_valid.check_area_valid.size))

module _ (s : Serving) (M : Machine) (m : List ℕ) (port : s.port < port_count) (held : M.ports s.port ≡ request m) (ok : MachineValid M)
    (unlocked : M.device.locked ≡ false) (lba : ℕ) (low : lba < M.device.visible) (whole : length m ≡ 1040) where
  pub sector-write : request_of m ≡ sector_access write 1 lba → SectorWritten m lba M.disk (serve_on s M).state.disk
  sector-write e =
      let fits = disk-fits M lba ok low in
      rw (serves-write s M m port held lba unlocked low e).disk_after (sector-written m lba M.disk whole fits.0 fits.1)

  -- THEOREM: a sector that 34h wrote is read: on any machine that has the disk that the write left, 24h of this LBA has Status 50h and the sector.
  pub written-is-read : request_of m ≡ sector_access write 1 lba → (t : Serving) (N : Machine) (n : List ℕ) → t.port < port_count → N.ports t.port ≡ request n
      → N.device.locked ≡ false → lba < N.device.visible → request_of n ≡ sector_access read 1 lba → N.disk ≡ (serve_on s M).state.disk
      → (serve_on t N).state.ports t.port ≡ reply (reply_bytes (good 0 0) (part m 16 512))
  written-is-read e t N n port' held' unlocked' low' asks same =
      let w = sector-write e in
      let content : part N.disk.sectors (512 * lba) 512 ≡ part m 16 512 = ap (λ (disk : Disk). part disk.sectors (512 * lba) 512) same ∙ w.content in
      let stored : get 2 N.disk.check_area (2 * lba) ≡ check_of (part m 16 512) = ap (λ (disk : Disk). get 2 disk.check_area (2 * lba)) same ∙ w.number in
      (serves-read t N n port' held' lba unlocked' low' asks (stored ∙ ap check_of (sym content))).replied
      ∙ ap (λ (l : List ℕ). reply (reply_bytes (good 0 0) l)) content

-- THEOREM: so is every sector that work wrote.
pub filled-is-read : (n : ℕ) (M : Machine) (first next end : ℕ) (runs : M.device.command.fill ≡ running first next end) (some : next < end) (whole : length M.sector ≡ 512)
    → 512 * end ≤ length M.disk.sectors → 2 * end ≤ length M.disk.check_area → (j : ℕ) → j < min n (end - next)
    → (t : Serving) (N : Machine) (m : List ℕ) → t.port < port_count → N.ports t.port ≡ request m → N.device.locked ≡ false → next + j < N.device.visible
    → request_of m ≡ sector_access read 1 (next + j) → N.disk ≡ (step (work n) M).state.disk
    → (serve_on t N).state.ports t.port ≡ reply (reply_bytes (good 0 0) M.sector)
filled-is-read n M first next end runs some whole fits check_fits j h t N m port held unlocked low asks same =
    let lba = next + j in
    let content : part N.disk.sectors (512 * lba) 512 ≡ M.sector =
    ap (λ (disk : Disk). part disk.sectors (512 * lba) 512) same ∙ work-places n M first next end runs some whole j h fits in
    let stored : get 2 N.disk.check_area (2 * lba) ≡ check_of M.sector =
    ap (λ (disk : Disk). get 2 disk.check_area (2 * lba)) same ∙ work-check-bytes n M first next end runs some whole j h check_fits in
    (serves-read t N m port held lba unlocked low asks (stored ∙ ap check_of (sym content))).replied
    ∙ ap (λ (l : List ℕ). reply (reply_bytes (good 0 0) l)) content

-- ---- "a read of a sector whose check differs has Error 40h"

-- Status 51h, Error 40h, and every other byte 0
damaged-reply : reply_bytes (refused 0x40) [] ≡ form 1040 ((12, 1, 0x51) ∷ (13, 1, 0x40) ∷ [])
unfolding reply_bytes registers_bytes padded form put le
damaged-reply = refl

module _ (s : Serving) (M : Machine) (m : List ℕ) (port : s.port < port_count) (held : M.ports s.port ≡ request m) (unlocked : M.device.locked ≡ false) where
  pub damaged-read : (lba : ℕ) → lba < M.device.visible → request_of m ≡ sector_access read 1 lba
      → (get 2 M.disk.check_area (2 * lba) ≡ check_of (part M.disk.sectors (512 * lba) 512) → ⊥)
      → ((serve_on s M).state.ports s.port ≡ reply (form 1040 ((12, 1, 0x51) ∷ (13, 1, 0x40) ∷ [])))
      × ((serve_on s M).state.disk ≡ M.disk)
      × (M.device.command.fill ≡ idle → (serve_on s M).state.device.command.code ≡ M.device.command.code)
  damaged-read lba low e differs =
      let w = serves-damaged s M m port held lba unlocked low e differs in
      (w.replied ∙ ap reply damaged-reply, w.disk_after, λ none. ap (λ (d : Device). d.command.code) w.device_after ∙ interrupt-code-idle M.device none)

  -- ---- an E1h request of another count than 2 for a Long transfer: 0003h is stored, and afterwards nothing is pending

  pub long-count-refused : (dir : Direction) (count lba : ℕ) → request_of m ≡ data_transfer dir count
      → get_or M.device.command.pending s.port none ≡ long_transfer dir lba → (count ≡ 2 → ⊥)
      → Serves s M (reply_bytes (refused_with 0x0003 0) []) (with_code 0x0003 (interrupt M.device)) M.disk
      × ((serve_on s M).state.device.command.pending ≡ nothing_pending)
  long-count-refused dir count lba e pends ne =
      let w = serves-data-refused s M m port held dir count 0x0002 e (data-count-long s M m port held dir count lba unlocked pends ne) in
      (w, ap (λ (d : Device). d.command.pending) w.device_after ∙ (interrupt-quiet M.device).no_transfer)

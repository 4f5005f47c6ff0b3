-- Laws of the registers: which bytes encode which request, and which bytes are ignored.
use mathlib.Core.Path.{◌≡◌, refl, sym, ◌∙◌}
use mathlib.Core.Bool.{Bool, true, false, ◌&&◌, and-false}
use mathlib.Core.Logic.{◌⊎◌, inl, inr}
use Prim.Native.Nat.{ℕ, suc, ◌+◌, ◌*◌, ◌^◌, ◌<◌}
use native.Mathlib.Omega.{arith}
use mathlib.Core.List.{List, [], ◌∷◌}
use lib.ListN.{get_or}
use lib.Dec.{eqb}
use borrow.Author.Tests.{ne_eqb}
use Rattle.std.specs.Prelude.{if◌then◌else◌}
use Rattle.wire.specs.Numbers.{get}
use Rattle.wire.proofs.NumbersLaws.{get-agree}
use Rattle.model.specs.Registers.{Direction, read, write, status_read, key_sector, data_transfer, sector_access, other, features, count8, count16, lba_low, lba_mid, lba_mid16, lba_high, command_byte, lba48, log_page, smart_log, log_ext, request_of}

-- ---- SMART read log and write log

-- "B0h, Features D5h (read log) or D6h (write log), LBA Mid 4Fh, High C2h"
pub record Smart (function : ℕ) (m : List ℕ) : Type 0 where
  pub is_command : command_byte m ≡ 0xB0
  pub is_function : features m ≡ function
  pub is_mid : lba_mid m ≡ 0x4F
  pub is_high : lba_high m ≡ 0xC2

pub smart-read : (m : List ℕ) → Smart 0xD5 m → request_of m ≡ log_page read (lba_low m) (count8 m)
unfolding request_of smart_log
smart-read m s = rw (s.is_command, s.is_mid, s.is_high, s.is_function)

pub smart-write : (m : List ℕ) → Smart 0xD6 m → request_of m ≡ log_page write (lba_low m) (count8 m)
unfolding request_of smart_log
smart-write m s = rw (s.is_command, s.is_mid, s.is_high, s.is_function)

-- "or 2Fh (read) or 3Fh (write) with both LBA Mid bytes 0"
pub ext-read : (m : List ℕ) → command_byte m ≡ 0x2F → lba_mid16 m ≡ 0 → request_of m ≡ log_page read (lba_low m) (count16 m)
unfolding request_of log_ext
ext-read m c z = rw (c, z)

pub ext-write : (m : List ℕ) → command_byte m ≡ 0x3F → lba_mid16 m ≡ 0 → request_of m ≡ log_page write (lba_low m) (count16 m)
unfolding request_of log_ext
ext-write m c z = rw (c, z)

-- "Write E0h: key sector. Read E0h: status. E1h: data." "Sector Count is 1"
pub page-status : log_page read 0xE0 1 ≡ status_read
unfolding log_page
page-status = refl

pub page-key : log_page write 0xE0 1 ≡ key_sector
unfolding log_page
page-key = refl

pub page-data : (d : Direction) (count : ℕ) → log_page d 0xE1 count ≡ data_transfer d count
unfolding log_page
page-data d count = refl

-- "E0h with another count" is treated as all else
pub page-count : (d : Direction) (count : ℕ) → eqb count 1 ≡ false → log_page d 0xE0 count ≡ other
unfolding log_page
page-count d count e = rw e

-- ---- one sector

pub sector-read : (m : List ℕ) → command_byte m ≡ 0x24 → request_of m ≡ sector_access read (count16 m) (lba48 m)
unfolding request_of
sector-read m c = rw c

pub sector-write : (m : List ℕ) → command_byte m ≡ 0x34 → request_of m ≡ sector_access write (count16 m) (lba48 m)
unfolding request_of
sector-write m c = rw c

-- "the 48-bit LBA, previous bytes giving bits 24 to 47"
pub lba-bits : (m : List ℕ)
    → lba48 m ≡ get_or m 4 0 + 2 ^ 8 * get_or m 6 0 + 2 ^ 16 * get_or m 8 0 + 2 ^ 24 * get_or m 5 0 + 2 ^ 32 * get_or m 7 0 + 2 ^ 40 * get_or m 9 0
unfolding lba48 get
lba-bits m = omega arith

-- ---- "Input bytes 10 and 12 to 15 are ignored"

-- the named bytes are the same
pub record SameRegisters (m n : List ℕ) : Type 0 where
  pub named : (i : ℕ) → i < 10 → get_or m i 0 ≡ get_or n i 0
  pub is_command : get_or m 11 0 ≡ get_or n 11 0

pub ignored : (m n : List ℕ) → SameRegisters m n → request_of m ≡ request_of n
unfolding request_of smart_log log_ext lba48
ignored m n s =
    let b : (i : ℕ) → i < 10 → get_or m i 0 ≡ get_or n i 0 = s.named in
    let c : count16 m ≡ count16 n = get-agree 2 m n 2 2 (λ i h. b (2 + i) (omega arith)) in
    let z : lba_mid16 m ≡ lba_mid16 n = get-agree 2 m n 6 6 (λ i h. b (6 + i) (omega arith)) in
    rw (
      s.is_command,
      c,
      z,
      b 0 (omega arith),
      b 2 (omega arith),
      b 4 (omega arith),
      b 5 (omega arith),
      b 6 (omega arith),
      b 7 (omega arith),
      b 8 (omega arith),
      b 9 (omega arith),
    )

-- ---- "for B0h so are the previous bytes, and so is every register that a rule below doesn't name"

-- two mailboxes have the same bytes at these places
abbrev pub SameAt : List ℕ → List ℕ → List ℕ → Type 0
SameAt [] m n = Unit {0}
SameAt (i ∷ is) m n = (get_or m i 0 ≡ get_or n i 0) × SameAt is m n

pub smart-named : (m n : List ℕ) → get_or m 11 0 ≡ 0xB0 → SameAt (0 ∷ 2 ∷ 4 ∷ 6 ∷ 8 ∷ 11 ∷ []) m n → request_of m ≡ request_of n
unfolding request_of smart_log
smart-named m n c s = rw (c, s.0, s.1.0, s.1.1.0, s.1.1.1.0, s.1.1.1.1.0, sym s.1.1.1.1.1.0 ∙ c)

same-pair : (m n : List ℕ) (i : ℕ) → get_or m i 0 ≡ get_or n i 0 → get_or m (suc i) 0 ≡ get_or n (suc i) 0 → get 2 m i ≡ get 2 n i
unfolding get
same-pair m n i low high = rw (low, high)

pub ext-named : (m n : List ℕ) → (get_or m 11 0 ≡ 0x2F) ⊎ (get_or m 11 0 ≡ 0x3F) → SameAt (2 ∷ 3 ∷ 4 ∷ 6 ∷ 7 ∷ 11 ∷ []) m n → request_of m ≡ request_of n
unfolding request_of log_ext
ext-named m n c s = go c
  where
    count : count16 m ≡ count16 n
    count = same-pair m n 2 s.0 s.1.0

    mid : lba_mid16 m ≡ lba_mid16 n
    mid = same-pair m n 6 s.1.1.1.0 s.1.1.1.1.0

    go : (get_or m 11 0 ≡ 0x2F) ⊎ (get_or m 11 0 ≡ 0x3F) → request_of m ≡ request_of n
    go (inl e) = rw (e, count, mid, s.1.1.0, sym s.1.1.1.1.1.0 ∙ e)
    go (inr e) = rw (e, count, mid, s.1.1.0, sym s.1.1.1.1.1.0 ∙ e)

pub sector-named : (m n : List ℕ) → (get_or m 11 0 ≡ 0x24) ⊎ (get_or m 11 0 ≡ 0x34) → SameAt (2 ∷ 3 ∷ 4 ∷ 5 ∷ 6 ∷ 7 ∷ 8 ∷ 9 ∷ 11 ∷ []) m n → request_of m ≡ request_of n
unfolding request_of lba48
sector-named m n c s = go c
  where
    count : count16 m ≡ count16 n
    count = same-pair m n 2 s.0 s.1.0

    lba : lba48 m ≡ lba48 n
    lba = rw (s.1.1.0, s.1.1.1.0, s.1.1.1.1.0, s.1.1.1.1.1.0, s.1.1.1.1.1.1.0, s.1.1.1.1.1.1.1.0)

    go : (get_or m 11 0 ≡ 0x24) ⊎ (get_or m 11 0 ≡ 0x34) → request_of m ≡ request_of n
    go (inl e) = rw (e, count, lba, sym s.1.1.1.1.1.1.1.1.0 ∙ e)
    go (inr e) = rw (e, count, lba, sym s.1.1.1.1.1.1.1.1.0 ∙ e)

-- ---- "All else"

-- "Bytes: 0/1 Features current/previous, 2/3 Sector Count, 4/5 LBA Low, 6/7 LBA Mid, 8/9 LBA High, 10 Device, 11 Command"
pub record Places (m : List ℕ) : Type 0 where
  pub features_at : features m ≡ get_or m 0 0
  pub count_at : (count8 m ≡ get_or m 2 0) × (count16 m ≡ get_or m 2 0 + 256 * get_or m 3 0)
  pub low_at : lba_low m ≡ get_or m 4 0
  pub mid_at : (lba_mid m ≡ get_or m 6 0) × (lba_mid16 m ≡ get_or m 6 0 + 256 * get_or m 7 0)
  pub high_at : lba_high m ≡ get_or m 8 0
  pub command_at : command_byte m ≡ get_or m 11 0

pub places : (m : List ℕ) → Places m
unfolding get
places m =
    record { features_at = refl; count_at = (refl, omega arith); low_at = refl; mid_at = (refl, omega arith); high_at = refl; command_at = refl }

-- B0h without "LBA Mid 4Fh, High C2h", or with Features other than "D5h (read log) or D6h (write log)"
pub smart-mid : (m : List ℕ) → get_or m 11 0 ≡ 0xB0 → (get_or m 6 0 ≡ 0x4F → ⊥) → request_of m ≡ other
unfolding request_of smart_log
smart-mid m c ne = rw (c, ne_eqb (get_or m 6 0) 0x4F ne)

pub smart-high : (m : List ℕ) → get_or m 11 0 ≡ 0xB0 → (get_or m 8 0 ≡ 0xC2 → ⊥) → request_of m ≡ other
unfolding request_of smart_log
smart-high m c ne = rw (c, ne_eqb (get_or m 8 0) 0xC2 ne, and-false (eqb (get_or m 6 0) 0x4F))

pub smart-features : (m : List ℕ) → get_or m 11 0 ≡ 0xB0 → (get_or m 0 0 ≡ 0xD5 → ⊥) → (get_or m 0 0 ≡ 0xD6 → ⊥) → request_of m ≡ other
unfolding request_of smart_log
smart-features m c r w = rw (c, ne_eqb (get_or m 0 0) 0xD5 r, ne_eqb (get_or m 0 0) 0xD6 w) (go (eqb (get_or m 6 0) 0x4F && eqb (get_or m 8 0) 0xC2))
  where
    go : (b : Bool) → (if b then other else other) ≡ other
    go true = refl
    go false = refl

-- 2Fh or 3Fh without "both LBA Mid bytes 0"
pub ext-read-mid : (m : List ℕ) → get_or m 11 0 ≡ 0x2F → (get_or m 6 0 + 256 * get_or m 7 0 ≡ 0 → ⊥) → request_of m ≡ other
unfolding request_of log_ext
ext-read-mid m c ne = rw (c, ne_eqb (lba_mid16 m) 0 (λ e. ne (sym (places m).mid_at.1 ∙ e)))

pub ext-write-mid : (m : List ℕ) → get_or m 11 0 ≡ 0x3F → (get_or m 6 0 + 256 * get_or m 7 0 ≡ 0 → ⊥) → request_of m ≡ other
unfolding request_of log_ext
ext-write-mid m c ne = rw (c, ne_eqb (lba_mid16 m) 0 (λ e. ne (sym (places m).mid_at.1 ∙ e)))

-- "LBA Low (current) E0h or E1h"
pub page-other : (d : Direction) (page count : ℕ) → (page ≡ 0xE0 → ⊥) → (page ≡ 0xE1 → ⊥) → log_page d page count ≡ other
unfolding log_page
page-other d page count a b = rw (ne_eqb page 0xE0 a, ne_eqb page 0xE1 b)

-- a command other than B0h, 2Fh, 3Fh, 24h and 34h
pub record NoCommand (c : ℕ) : Type 0 where
  pub not_smart : c ≡ 0xB0 → ⊥
  pub not_read_log : c ≡ 0x2F → ⊥
  pub not_write_log : c ≡ 0x3F → ⊥
  pub not_read : c ≡ 0x24 → ⊥
  pub not_write : c ≡ 0x34 → ⊥

pub command-other : (m : List ℕ) → NoCommand (get_or m 11 0) → request_of m ≡ other
unfolding request_of
command-other m n =
    let c = get_or m 11 0 in
    rw (
      ne_eqb c 0xB0 n.not_smart,
      ne_eqb c 0x2F n.not_read_log,
      ne_eqb c 0x3F n.not_write_log,
      ne_eqb c 0x24 n.not_read,
      ne_eqb c 0x34 n.not_write,
    )

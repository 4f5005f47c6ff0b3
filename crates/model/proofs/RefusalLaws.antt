-- The answer table of document 01, row by row: a step that passes the rows above and fails this one has this answer.
use mathlib.Core.Path.{◌≡◌, ◌∙◌}
use mathlib.Core.Bool.{true, false, and-false}
use Prim.Native.Nat.{ℕ, ◌*◌, ◌/◌, ◌≤◌, ◌<◌}
use native.Mathlib.Omega.{arith}
use mathlib.Core.List.{List}
use lib.ListN.{length}
use borrow.Author.Tests.{eq-eqb, ne_eqb, lt-ltb, le-ltb, lt-leb, le-leb}
use Rattle.wire.specs.Choice.{first_failed}
use Rattle.model.specs.Sizes.{port_count, mailbox_size}
use Rattle.model.specs.Image.{readable_under, readable, same_disk, has_room, whole_sectors, well_sized, power_on_checks}
use Rattle.model.specs.Disk.{Disk}
use Rattle.model.specs.Machine.{Machine}
use Rattle.model.specs.Step.{lock, unlock, set_visible, sample, Step, take, serve, give, work, owner, save, is_empty, is_request, is_reply, step}
use Rattle.model.proofs.StepLaws.{answer-is}

abbrev pub answer_of : Step → Machine → ℕ
answer_of x M = (step x M).seen.answer

-- ---- take, serve, give

module _ (p : ℕ) (m : List ℕ) (M : Machine) where
  pub take-length : (length m ≡ mailbox_size → ⊥) → answer_of (take p m) M ≡ 2
  take-length ne = answer-is (take p m) M ∙ rw (ne_eqb (length m) mailbox_size ne)

  pub take-port : length m ≡ mailbox_size → 4 ≤ p → answer_of (take p m) M ≡ 1
  take-port e h = answer-is (take p m) M ∙ rw (eq-eqb (length m) mailbox_size e, le-ltb p port_count h)

  pub take-stage : length m ≡ mailbox_size → p < 4 → is_empty (M.ports p) ≡ false → answer_of (take p m) M ≡ 3
  take-stage e h s = answer-is (take p m) M ∙ rw (eq-eqb (length m) mailbox_size e, lt-ltb p port_count h, s)

  pub give-length : (length m ≡ mailbox_size → ⊥) → answer_of (give p m) M ≡ 2
  give-length ne = answer-is (give p m) M ∙ rw (ne_eqb (length m) mailbox_size ne)

  pub give-port : length m ≡ mailbox_size → 4 ≤ p → answer_of (give p m) M ≡ 1
  give-port e h = answer-is (give p m) M ∙ rw (eq-eqb (length m) mailbox_size e, le-ltb p port_count h)

  pub give-stage : length m ≡ mailbox_size → p < 4 → is_reply (M.ports p) ≡ false → answer_of (give p m) M ≡ 3
  give-stage e h s = answer-is (give p m) M ∙ rw (eq-eqb (length m) mailbox_size e, lt-ltb p port_count h, s)

  pub serve-port : 4 ≤ p → answer_of (serve (record { port = p })) M ≡ 1
  serve-port h = answer-is (serve (record { port = p })) M ∙ rw (le-ltb p port_count h)

  pub serve-stage : p < 4 → is_request (M.ports p) ≡ false → answer_of (serve (record { port = p })) M ≡ 3
  serve-stage h s = answer-is (serve (record { port = p })) M ∙ rw (lt-ltb p port_count h, s)

-- ---- work, lock, unlock and sample are never refused

pub work-answers : (n : ℕ) (M : Machine) → answer_of (work n) M ≡ 0
work-answers n M = answer-is (work n) M

pub lock-answers : (M : Machine) → (answer_of (owner lock) M ≡ 0) × (answer_of (owner unlock) M ≡ 0)
lock-answers M = (answer-is (owner lock) M, answer-is (owner unlock) M)

pub sample-answers : (reading : ℕ) (M : Machine) → answer_of (owner (sample reading)) M ≡ 0
sample-answers reading M = answer-is (owner (sample reading)) M

-- ---- set V: "V asked is 0 or above N"

pub visible-zero : (M : Machine) → answer_of (owner (set_visible 0)) M ≡ 5
visible-zero M = answer-is (owner (set_visible 0)) M

pub visible-above : (v : ℕ) (M : Machine) → M.device.native < v → answer_of (owner (set_visible v)) M ≡ 5
visible-above v M h = answer-is (owner (set_visible v)) M ∙ rw (le-leb 1 v (omega arith), lt-leb v M.device.native h)

-- ---- save and power-on

module _ (image : List ℕ) (used : ℕ) (M : Machine) where
  pub save-length : length image < used → answer_of (save image used) M ≡ 2
  save-length h = answer-is (save image used) M ∙ rw (lt-leb used (length image) h)

  module _ (fits : used ≤ length image) where
    pub save-unreadable : readable image used ≡ false → answer_of (save image used) M ≡ 6
    save-unreadable r = answer-is (save image used) M ∙ rw (le-leb used (length image) fits, r)

    pub save-other : readable image used ≡ true → same_disk M.device.native image used ≡ false → answer_of (save image used) M ≡ 7
    save-other r d = answer-is (save image used) M ∙ rw (le-leb used (length image) fits, r, d)

    pub save-full : readable image used ≡ true → same_disk M.device.native image used ≡ true → has_room image used ≡ false → answer_of (save image used) M ≡ 8
    save-full r d f = answer-is (save image used) M ∙ rw (le-leb used (length image) fits, r, d, f)

-- a first power-on, on any disk
module _ (disk : Disk) (image : List ℕ) (used : ℕ) where
  pub power-on-disk : whole_sectors (length disk.sectors) ≡ false → first_failed (power_on_checks disk image used) ≡ 2
  power-on-disk w = rw w

  -- "a check area of wrong length is answer 2"
  pub power-on-check-area : (length disk.check_area ≡ 2 * (length disk.sectors / 512) → ⊥) → first_failed (power_on_checks disk image used) ≡ 2
  power-on-check-area ne =
      rw (ne_eqb (length disk.check_area) (2 * (length disk.sectors / 512)) ne, and-false (whole_sectors (length disk.sectors)))

  pub power-on-length : well_sized disk ≡ true → length image < used → first_failed (power_on_checks disk image used) ≡ 2
  power-on-length w h = rw (w, lt-leb used (length image) h)

  module _ (whole : well_sized disk ≡ true) (fits : used ≤ length image) where
    pub power-on-unreadable : readable image used ≡ false → first_failed (power_on_checks disk image used) ≡ 6
    power-on-unreadable r = rw (whole, le-leb used (length image) fits, r)

    pub power-on-other : readable image used ≡ true → same_disk (length disk.sectors / 512) image used ≡ false → first_failed (power_on_checks disk image used) ≡ 7
    power-on-other r d = rw (whole, le-leb used (length image) fits, r, d)

  -- "Power-on from length 0" is never refused for its image
  pub power-on-empty : well_sized disk ≡ true → first_failed (power_on_checks disk image 0) ≡ 0
  unfolding readable_under
  power-on-empty whole = rw (whole, le-leb 0 (length image) (omega arith))

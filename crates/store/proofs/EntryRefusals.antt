-- The answer table at the entries: an entry that passes the checks above and fails this one has this answer.
use mathlib.Core.Path.{◌≡◌, refl, ◌∙◌}
use mathlib.Core.Bool.{Bool, true, false}
use Prim.Native.Nat.{ℕ, ◌*◌, ◌/◌, ◌≤◌, ◌<◌}
use native.Mathlib.Omega.{arith}
use mathlib.Core.List.{List}
use lib.ListN.{length}
use borrow.Author.Tests.{eq-eqb, ne_eqb, lt-ltb, le-ltb, lt-leb, le-leb}
use Rattle.wire.specs.Choice.{first_failed}
use Rattle.model.specs.Image.{readable, same_disk, has_room, whole_sectors, well_sized}
use Rattle.model.specs.Image.{power_on_checks as disk_checks}
use Rattle.model.specs.Step.{set_visible, Step, take, serve, give, work, owner, repair, save, power_on}
use Rattle.model.specs.Decide.{Serving}
use Rattle.model.specs.Disk.{HasSize}
use Rattle.model.proofs.RefusalLaws.{power-on-disk, power-on-check-area, power-on-length, power-on-unreadable, power-on-other}
use Rattle.model.specs.Sizes.{mailbox_size}
use Rattle.store.specs.Record.{empty, held, answered, is_stage, decode}
use Rattle.store.specs.Sound.{sound}
use Rattle.store.specs.Store.{Store, stage_for}
use Rattle.store.specs.OnStore.{on_store}
use Rattle.store.proofs.SoundLaws.{sound-parts}
use Rattle.store.proofs.ExitLaws.{sectors-other, sized-passes}
use Rattle.store.proofs.AnswerLaws.{entry-answer}
use Rattle.store.specs.Areas.{private_size, record_size}

abbrev pub answer_of : Step → Store → ℕ
answer_of x s = (on_store x s).seen.answer

-- ---- 4: "device record unsound"

-- "a record run of another size is .. 4 elsewhere"
pub other-size-unsound : (r : List ℕ) → (length r ≡ record_size → ⊥) → sound r ≡ false
other-size-unsound r ne = go (sound r) refl
  where
    go : (b : Bool) → sound r ≡ b → sound r ≡ false
    go true e = absurd (ne (sound-parts r e).size)
    go false e = e

-- every entry but power-on
abbrev pub JudgesRecord : Step → Type 0
JudgesRecord (take p m) = Unit {0}
JudgesRecord (serve x) = Unit {0}
JudgesRecord (give p m) = Unit {0}
JudgesRecord (work n) = Unit {0}
JudgesRecord (owner x) = Unit {0}
JudgesRecord (repair lba) = Unit {0}
JudgesRecord (save image used) = Unit {0}
JudgesRecord (power_on image used) = ⊥

pub unsound-record : (x : Step) (s : Store) → JudgesRecord x → sound s.record_area ≡ false → answer_of x s ≡ 4
unsound-record (take p m) s j e = entry-answer (take p m) s ∙ rw e
unsound-record (serve x) s j e = entry-answer (serve x) s ∙ rw e
unsound-record (give p m) s j e = entry-answer (give p m) s ∙ rw e
unsound-record (work n) s j e = entry-answer (work n) s ∙ rw e
unsound-record (owner x) s j e = entry-answer (owner x) s ∙ rw e
unsound-record (repair lba) s j e = entry-answer (repair lba) s ∙ rw e
unsound-record (save image used) s j e = entry-answer (save image used) s ∙ rw e
unsound-record (power_on image used) s j e = absurd j

-- ---- with a sound record

module _ (s : Store) (is_sound : sound s.record_area ≡ true) where
  -- 2: a mailbox whose length is not mailbox_size
  pub take-mailbox : (p : ℕ) (m : List ℕ) → (length m ≡ mailbox_size → ⊥) → answer_of (take p m) s ≡ 2
  take-mailbox p m ne = entry-answer (take p m) s ∙ rw (is_sound, ne_eqb (length m) mailbox_size ne)

  pub give-mailbox : (p : ℕ) (m : List ℕ) → (length m ≡ mailbox_size → ⊥) → answer_of (give p m) s ≡ 2
  give-mailbox p m ne = entry-answer (give p m) s ∙ rw (is_sound, ne_eqb (length m) mailbox_size ne)

  -- 2: a private area whose length is not 4,672 (W-202)
  module _ (other : length s.private_area ≡ private_size → ⊥) where
    pub take-private : (p : ℕ) (m : List ℕ) → length m ≡ mailbox_size → answer_of (take p m) s ≡ 2
    take-private p m e = entry-answer (take p m) s ∙ rw (is_sound, eq-eqb (length m) mailbox_size e, ne_eqb (length s.private_area) private_size other)

    pub serve-private : (x : Serving) → answer_of (serve x) s ≡ 2
    serve-private x = entry-answer (serve x) s ∙ rw (is_sound, ne_eqb (length s.private_area) private_size other)

    pub give-private : (p : ℕ) (m : List ℕ) → length m ≡ mailbox_size → answer_of (give p m) s ≡ 2
    give-private p m e = entry-answer (give p m) s ∙ rw (is_sound, eq-eqb (length m) mailbox_size e, ne_eqb (length s.private_area) private_size other)

    pub work-private : (n : ℕ) → answer_of (work n) s ≡ 2
    work-private n = entry-answer (work n) s ∙ rw (is_sound, ne_eqb (length s.private_area) private_size other)

  module _ (private : length s.private_area ≡ private_size) where
    -- 2: "the disk isn't N sectors"; "a check area of wrong length is answer 2"
    module _ (other : HasSize (decode s.record_area).device.native s.disk → ⊥) where
      pub serve-disk : (x : Serving) → answer_of (serve x) s ≡ 2
      serve-disk x = entry-answer (serve x) s ∙ rw (is_sound, eq-eqb (length s.private_area) private_size private, sectors-other (decode s.record_area).device.native s.disk other)

      pub work-disk : (n : ℕ) → answer_of (work n) s ≡ 2
      work-disk n = entry-answer (work n) s ∙ rw (is_sound, eq-eqb (length s.private_area) private_size private, sectors-other (decode s.record_area).device.native s.disk other)

    -- 1: "port above 3"; 3: "slot not in the stage the step needs"
    module _ (p : ℕ) (m : List ℕ) (mailbox : length m ≡ mailbox_size) where
      pub take-port : 4 ≤ p → answer_of (take p m) s ≡ 1
      take-port h = entry-answer (take p m) s ∙ rw (is_sound, eq-eqb (length m) mailbox_size mailbox, eq-eqb (length s.private_area) private_size private, le-ltb p 4 h)

      pub take-stage : p < 4 → is_stage empty (stage_for p (decode s.record_area)) ≡ false → answer_of (take p m) s ≡ 3
      take-stage h k = entry-answer (take p m) s ∙ rw (is_sound, eq-eqb (length m) mailbox_size mailbox, eq-eqb (length s.private_area) private_size private, lt-ltb p 4 h, k)

      pub give-port : 4 ≤ p → answer_of (give p m) s ≡ 1
      give-port h = entry-answer (give p m) s ∙ rw (is_sound, eq-eqb (length m) mailbox_size mailbox, eq-eqb (length s.private_area) private_size private, le-ltb p 4 h)

      pub give-stage : p < 4 → is_stage answered (stage_for p (decode s.record_area)) ≡ false → answer_of (give p m) s ≡ 3
      give-stage h k = entry-answer (give p m) s ∙ rw (is_sound, eq-eqb (length m) mailbox_size mailbox, eq-eqb (length s.private_area) private_size private, lt-ltb p 4 h, k)

    module _ (x : Serving) (whole : HasSize (decode s.record_area).device.native s.disk) where
      pub serve-port : 4 ≤ x.port → answer_of (serve x) s ≡ 1
      serve-port h =
          entry-answer (serve x) s
          ∙ rw (is_sound, eq-eqb (length s.private_area) private_size private, sized-passes (decode s.record_area).device.native s.disk whole, le-ltb x.port 4 h)

      pub serve-stage : x.port < 4 → is_stage held (stage_for x.port (decode s.record_area)) ≡ false → answer_of (serve x) s ≡ 3
      serve-stage h k =
          entry-answer (serve x) s
          ∙ rw (is_sound, eq-eqb (length s.private_area) private_size private, sized-passes (decode s.record_area).device.native s.disk whole, lt-ltb x.port 4 h, k)

  -- repair. 2: its disk or check area has another size; 5: "mending at or above V is answer 5"
  module _ (lba : ℕ) where
    pub repair-disk : (HasSize (decode s.record_area).device.native s.disk → ⊥) → answer_of (repair lba) s ≡ 2
    repair-disk other = entry-answer (repair lba) s ∙ rw (is_sound, sectors-other (decode s.record_area).device.native s.disk other)

    pub repair-hidden : HasSize (decode s.record_area).device.native s.disk → (decode s.record_area).device.visible ≤ lba → answer_of (repair lba) s ≡ 5
    repair-hidden whole h =
        entry-answer (repair lba) s
        ∙ rw (is_sound, sized-passes (decode s.record_area).device.native s.disk whole, le-ltb lba (decode s.record_area).device.visible h)

  -- 5: "V asked is 0 or above N"
  pub visible-zero : answer_of (owner (set_visible 0)) s ≡ 5
  visible-zero = entry-answer (owner (set_visible 0)) s ∙ rw is_sound

  pub visible-above : (v : ℕ) → (decode s.record_area).device.native < v → answer_of (owner (set_visible v)) s ≡ 5
  visible-above v h = entry-answer (owner (set_visible v)) s ∙ rw (is_sound, le-leb 1 v (omega arith), lt-leb v (decode s.record_area).device.native h)

  -- save. 2: "an image's used length exceeds its buffer"
  module _ (image : List ℕ) (used : ℕ) where
    pub save-used : length image < used → answer_of (save image used) s ≡ 2
    save-used h = entry-answer (save image used) s ∙ rw (is_sound, lt-leb used (length image) h)

    -- 6: "image not readable by the rules below"; 7: "newest entry's N is not this disk's"; 8: full
    module _ (fits : used ≤ length image) where
      pub save-unreadable : readable image used ≡ false → answer_of (save image used) s ≡ 6
      save-unreadable e = entry-answer (save image used) s ∙ rw (is_sound, le-leb used (length image) fits, e)

      module _ (read : readable image used ≡ true) where
        pub save-other : same_disk (decode s.record_area).device.native image used ≡ false → answer_of (save image used) s ≡ 7
        save-other e = entry-answer (save image used) s ∙ rw (is_sound, le-leb used (length image) fits, read, e)

        pub save-full : same_disk (decode s.record_area).device.native image used ≡ true → has_room image used ≡ false → answer_of (save image used) s ≡ 8
        save-full own e = entry-answer (save image used) s ∙ rw (is_sound, le-leb used (length image) fits, read, own, e)

-- ---- power-on: "a record run of another size is 2 there"

module _ (image : List ℕ) (used : ℕ) (s : Store) where
  pub on-record : (length s.record_area ≡ record_size → ⊥) → answer_of (power_on image used) s ≡ 2
  on-record ne = entry-answer (power_on image used) s ∙ rw (ne_eqb (length s.record_area) record_size ne)

  module _ (size : length s.record_area ≡ record_size) where
    pub on-private : (length s.private_area ≡ private_size → ⊥) → answer_of (power_on image used) s ≡ 2
    on-private ne = entry-answer (power_on image used) s ∙ rw (eq-eqb (length s.record_area) record_size size, ne_eqb (length s.private_area) private_size ne)

    module _ (private : length s.private_area ≡ private_size) where
      -- the answer is then the machine's: 2 for the disk and the used length, 6 and 7
      on-areas : answer_of (power_on image used) s ≡ first_failed (disk_checks s.disk image used)
      on-areas = entry-answer (power_on image used) s ∙ rw (eq-eqb (length s.record_area) record_size size, eq-eqb (length s.private_area) private_size private)

      pub on-disk : whole_sectors (length s.disk.sectors) ≡ false → answer_of (power_on image used) s ≡ 2
      on-disk e = on-areas ∙ power-on-disk s.disk image used e

      pub on-check-area : (length s.disk.check_area ≡ 2 * (length s.disk.sectors / 512) → ⊥) → answer_of (power_on image used) s ≡ 2
      on-check-area ne = on-areas ∙ power-on-check-area s.disk image used ne

      module _ (whole : well_sized s.disk ≡ true) where
        pub on-used : length image < used → answer_of (power_on image used) s ≡ 2
        on-used h = on-areas ∙ power-on-length s.disk image used whole h

        module _ (fits : used ≤ length image) where
          pub on-unreadable : readable image used ≡ false → answer_of (power_on image used) s ≡ 6
          on-unreadable e = on-areas ∙ power-on-unreadable s.disk image used whole fits e

          pub on-other : readable image used ≡ true → same_disk (length s.disk.sectors / 512) image used ≡ false → answer_of (power_on image used) s ≡ 7
          on-other read e = on-areas ∙ power-on-other s.disk image used whole fits read e

-- Save and power-on: what holds when their checks pass.
use mathlib.Core.Path.{◌≡◌, sym, ◌∙◌}
use mathlib.Core.Bool.{true}
use mathlib.Core.List.{List}
use Prim.Native.Nat.{ℕ, ◌+◌, ◌/◌, ◌%◌, ◌≤◌, ◌<◌}
use native.Mathlib.Omega.{arith}
use lib.ListN.{length}
use lib.Dec.{leb, ltb}
use borrow.Author.Tests.{eqb-true, leb-true, ltb-true}
use Rattle.wire.specs.Choice.{first_failed}
use Rattle.wire.proofs.ChoiceLaws.{and_left, and_right, all_pass, pass_all}
use Rattle.model.specs.Sizes.{entry_size, entry_limit}
use Rattle.model.specs.Disk.{Disk, native_size}
use Rattle.model.specs.Image.{entries, image_checks}
use Rattle.model.proofs.ImageLaws.{readable-parts}
use Rattle.store.specs.Areas.{record_size, private_size}
use Rattle.store.specs.Sound.{sound}
use Rattle.store.specs.Entries.{save_checks, power_on_checks}

pub record SavePassed (r image : List ℕ) (used : ℕ) : Type 0 where
  pub is_sound : sound r ≡ true
  pub room : used + entry_size ≤ length image
  pub whole : used % entry_size ≡ 0
  pub number : used / entry_size < entry_limit

pub save-passed : (r image : List ℕ) (used : ℕ) {n : ℕ} → n ≡ first_failed (save_checks r image used) → n ≡ 0 → SavePassed r image used
save-passed r image used e z =
    let all = all_pass 8 (save_checks r image used) (omega arith) (sym e ∙ z) in
    let room = all.1.1.1.1.0 in
    record {
      is_sound = all.0;
      room = leb-true (used + entry_size) (length image) (and_right (ltb (entries used) entry_limit) (leb (used + entry_size) (length image)) room);
      whole = (readable-parts image used all.1.1.0).multiple;
      number = ltb-true (entries used) entry_limit (and_left (ltb (entries used) entry_limit) (leb (used + entry_size) (length image)) room);
    }

pub record PowerOnPassed (r a : List ℕ) (disk : Disk) (image : List ℕ) (used : ℕ) : Type 0 where
  pub record_sized : length r ≡ record_size
  pub area_sized : length a ≡ private_size
  pub readable : first_failed (image_checks (native_size disk) image used) ≡ 0
  pub fits : used ≤ length image
  pub whole : used % entry_size ≡ 0

pub power-on-passed : (r a : List ℕ) (disk : Disk) (image : List ℕ) (used : ℕ) {n : ℕ} → n ≡ first_failed (power_on_checks r a disk image used) → n ≡ 0 → PowerOnPassed r a disk image used
power-on-passed r a disk image used e z =
    let all = all_pass 7 (power_on_checks r a disk image used) (omega arith) (sym e ∙ z) in
    record {
      record_sized = eqb-true (length r) record_size all.0;
      area_sized = eqb-true (length a) private_size all.1.0;
      readable = pass_all (image_checks (native_size disk) image used) all.1.1.1;
      fits = leb-true used (length image) all.1.1.1.0;
      whole = (readable-parts image used all.1.1.1.1.0).multiple;
    }

-- What a save stores, piece by piece, is the entry that it adds.
use mathlib.Core.Path.{◌≡◌, refl, sym, ap, ◌∙◌}
use mathlib.Core.Bool.{true}
use Prim.Native.Nat.{ℕ, suc, ◌+◌}
use native.Mathlib.Nat.{add-zero}
use native.Mathlib.Omega.{arith}
use mathlib.Core.List.{List, ◌++◌}
use lib.ListN.{length, length-append}
use lib.Seq.{sets}
use Rattle.wire.specs.Numbers.{put}
use Rattle.wire.specs.Parts.{part, zeros}
use Rattle.wire.specs.Layout.{stores, placed, form}
use Rattle.wire.specs.Bytes.{Bytes}
use Rattle.wire.proofs.PartsLaws.{length_part}
use Rattle.wire.proofs.LayoutLaws.{length-form}
use Rattle.wire.proofs.WithinLaws.{sets_then, form-within}
use Rattle.model.specs.Sizes.{sector_size, body_size}
use Rattle.model.specs.Image.{Saved, saved_from, head_size, sizes_of, features_of, timer_fields, head_fields, body_bytes, tag, previous_place, link_place, number_place, tag_place, trailer_fields, trailer_bytes, chain_form, saved_image, entries}
use Rattle.store.specs.Areas.{head_size as table_place}
use Rattle.store.specs.Record.{decode}
use Rattle.store.specs.Sound.{sound}
use Rattle.store.proofs.SoundLaws.{sound-parts}
use Rattle.store.proofs.RecordTestLaws.{sound-table}

module _ (l : List ℕ) (at : ℕ) where
  pub trailer-stored : (k : ℕ)
      → sets (put 4 (put 4 (put 4 (sets l at (zeros tag_place)) at body_size) (at + link_place) (previous_place k)) (at + number_place) k) (at + tag_place) tag ≡ sets l at (trailer_bytes k)
  unfolding trailer_bytes
  trailer-stored k =
      ap (λ (p : ℕ). sets (put 4 (put 4 (put 4 (sets l at (zeros tag_place)) p body_size) (at + link_place) (previous_place k)) (at + number_place) k) (at + tag_place) tag) (sym (add-zero at))
      ∙ ap (λ (m : List ℕ). sets m (at + tag_place) tag) (form-within tag_place (trailer_fields k) l at refl)
      ∙ sets_then (form tag_place (trailer_fields k)) tag l at 12 (length-form tag_place (trailer_fields k))

  -- the three groups of the head
  pub head-stored : (s : Saved)
      → stores (placed at (timer_fields s.timers)) (stores (placed at (features_of s)) (stores (placed at (sizes_of s)) (sets l at (zeros head_size)))) ≡ sets l at (form head_size (head_fields s))
  head-stored s = form-within head_size (head_fields s) l at refl

-- head, table and trailer together are the entry
pub entry-stored : (r image : List ℕ) (used k : ℕ) → Bytes r → sound r ≡ true → k ≡ suc (entries used)
    → let head = form head_size (head_fields (saved_from (chain_form image used) (decode r).device)) in
    sets (sets (sets image used head) (used + head_size) (part r table_place sector_size)) (used + body_size) (trailer_bytes k) ≡ saved_image (decode r).device image used
unfolding saved_image body_bytes saved_from
entry-stored r image used k b e n =
    let s = saved_from (chain_form image used) (decode r).device in
    let head = form head_size (head_fields s) in
    ap (λ (m : List ℕ). sets m (used + body_size) (trailer_bytes k)) (sets_then head (part r table_place sector_size) image used head_size (length-form head_size (head_fields s)))
    ∙ sets_then (head ++ part r table_place sector_size) (trailer_bytes k) image used body_size (length-append head (part r table_place sector_size) ∙ rw (length-form head_size (head_fields s), half))
    ∙ (λ j. sets image used ((head ++ sound-table r b e j) ++ trailer_bytes (n j)))
  where
    half : length (part r table_place sector_size) ≡ sector_size
    half = length_part r table_place sector_size (omega (arith, (sound-parts r e).size))

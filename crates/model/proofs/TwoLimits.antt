-- A handler of the old limit, 65,536 sectors, beside this one (W-207): "a handler of the old limit answers 6 to an entry above 65,536, and an entry at
-- or below it is the same bytes in both". It judges an image by the same definitions, with its own limit. That its disks have at most 65,536 sectors is
-- not looked at here.
use mathlib.Core.Path.{◌≡◌, refl, sym, ap, ap₂, ◌∙◌, subst}
use mathlib.Core.Bool.{Bool, true, false, ◌&&◌, and-false}
use Prim.Native.Nat.{ℕ, zero, suc, ◌+◌, ◌-◌, ◌*◌, ◌/◌, ◌%◌, ◌≤◌, ◌<◌}
use native.Mathlib.Omega.{arith}
use mathlib.Core.List.{List, [], ◌∷◌, ◌++◌}
use lib.ListN.{length}
use lib.Dec.{eqb, leb}
use borrow.Author.Tests.{eqb-true, ne_eqb, leb-true, leb-false, lt-leb, le-leb}
use Rattle.wire.specs.Choice.{first_failed, if_passed, Guarded, attempt}
use Rattle.wire.specs.Numbers.{get}
use Rattle.wire.specs.Bytes.{same}
use Rattle.wire.proofs.ChoiceLaws.{attempt-answer, all_pass}
use Rattle.model.specs.Sizes.{body_size, entry_size, entry_limit, image_full}
use Rattle.model.specs.Buffers.{Image}
use Rattle.model.specs.Device.{Device}
use Rattle.model.specs.Key.{states_named}
use Rattle.model.specs.Valid.{Valid}
use Rattle.model.specs.Machine.{Machine}
use Rattle.model.specs.Step.{Seen, save, unchanged, seen_done, guarded, step}
use Rattle.model.specs.Image.{Saved, saved_from, body_bytes, saved_at, in_range_under, in_range, body_holds_under, trailer_place, body_at, entry_holds_under, every, entries, newest_in, readable_under, readable, image_checks_under, image_checks, has_room, save_checks, saved_image, blank}
use Rattle.model.proofs.EntryLaws.{saved-at}
use Rattle.model.proofs.ImageLaws.{every-all, entry-held, Readable, readable-parts, other-disk}
use Rattle.model.proofs.SaveLaws.{SaveAccepted, save-accepted, readable-saved, newest-saved}
use Rattle.model.proofs.StepLaws.{answer-is}

-- ---- the values of an entry: a limit counts only where N is above it

-- those of new disks, at the borders of both limits
pub at-old-limit : (in_range_under 65536 (blank 65536) ≡ true) × (in_range_under 65536 (blank 65537) ≡ false)
unfolding in_range_under states_named
at-old-limit = (refl, refl)

pub at-new-limit : (in_range (blank 65536) ≡ true) × (in_range (blank 65537) ≡ true) × (in_range (blank 16777216) ≡ true) × (in_range (blank 16777217) ≡ false)
unfolding in_range_under states_named
at-new-limit = (refl, refl, refl, refl)

above-limit : (limit : ℕ) (s : Saved) → limit < s.native → in_range_under limit s ≡ false
unfolding in_range_under
above-limit limit s h = rw (lt-leb s.native limit h, and-false (leb 1 s.native))

within-limits : (a b : ℕ) (s : Saved) → s.native ≤ a → s.native ≤ b → in_range_under a s ≡ in_range_under b s
unfolding in_range_under
within-limits a b s h k = rw (le-leb s.native a h, le-leb s.native b k)

-- ---- an entry of an image: "N at 0 .. (8 bytes ..)"

abbrev pub entry_native : Image → ℕ → ℕ
entry_native image k = get 8 image (560 * (k - 1))

native-read : (image : List ℕ) (k : ℕ) → 1 ≤ k → (saved_at (body_at image k) 0).native ≡ entry_native image k
unfolding saved_at
native-read image k h = ap (λ (s : Saved). s.native) (saved-at image (trailer_place k - body_size)) ∙ ap (get 8 image) (omega arith)

entry-above : (limit : ℕ) (newest : Saved) (image : List ℕ) (k : ℕ) → 1 ≤ k → limit < entry_native image k → entry_holds_under limit newest image k ≡ false
unfolding entry_holds_under body_holds_under
entry-above limit newest image k low h =
    rw (
      above-limit limit (saved_at (body_at image k) 0) (rw (native-read image k low) h),
      and-false (same (body_bytes (saved_at (body_at image k) 0)) (body_at image k)),
    )

entry-within : (a b : ℕ) (newest : Saved) (image : List ℕ) (k : ℕ) → 1 ≤ k → entry_native image k ≤ a → entry_native image k ≤ b
    → entry_holds_under a newest image k ≡ entry_holds_under b newest image k
unfolding entry_holds_under body_holds_under
entry-within a b newest image k low h i =
    rw (within-limits a b (saved_at (body_at image k) 0) (rw (native-read image k low) h) (rw (native-read image k low) i))

-- ---- an image

every-same : (n : ℕ) (f g : ℕ → Bool) → ((k : ℕ) → 1 ≤ k → k ≤ n → f k ≡ g k) → every n f ≡ every n g
every-same zero f g h = refl
every-same (suc n) f g h = ap₂ (λ (x y : Bool). x && y) (h (suc n) (omega arith) (omega arith)) (every-same n f g (λ k low high. h k low (omega arith)))

every-fails : (n : ℕ) (f : ℕ → Bool) (k : ℕ) → 1 ≤ k → k ≤ n → f k ≡ false → every n f ≡ false
every-fails n f k low high e = go (every n f) refl
  where
    go : (b : Bool) → every n f ≡ b → b ≡ false
    go true h = sym (every-all n f h k low high) ∙ e
    go false h = refl

module _ (image : List ℕ) (used : ℕ) where
  -- all entries are of disks of at most so many sectors
  abbrev pub AtMost : ℕ → Type 0
  AtMost n = (k : ℕ) → 1 ≤ k → k ≤ used / 560 → entry_native image k ≤ n

  -- one entry is of a larger disk
  pub record Above (n : ℕ) : Type 0 where
    pub entry : ℕ
    pub low : 1 ≤ entry
    pub high : entry ≤ used / 560
    pub larger : n < entry_native image entry

  pub above-unreadable : (limit : ℕ) → Above limit → readable_under limit image used ≡ false
  unfolding readable_under
  above-unreadable limit a =
      rw (
        every-fails (entries used) (entry_holds_under limit (newest_in image used) image) a.entry a.low a.high
            (entry-above limit (newest_in image used) image a.entry a.low a.larger),
        and-false (eqb (used % entry_size) 0 && leb used (entry_size * entry_limit)),
      )

  pub within-alike : (a b : ℕ) → AtMost a → AtMost b → readable_under a image used ≡ readable_under b image used
  unfolding readable_under
  within-alike a b h i =
      rw (every-same (entries used) (entry_holds_under a (newest_in image used) image) (entry_holds_under b (newest_in image used) image)
      (λ k low high. entry-within a b (newest_in image used) image k low (h k low high) (i k low high)))

  -- what a handler reads is within its limit
  read-within : (limit : ℕ) → readable_under limit image used ≡ true → AtMost limit
  read-within limit r k low high = go (leb (entry_native image k) limit) refl
    where
      go : (b : Bool) → leb (entry_native image k) limit ≡ b → entry_native image k ≤ limit
      go true e = leb-true (entry_native image k) limit e
      go false e =
          let f : true ≡ false =
          sym r ∙ above-unreadable limit (record { entry = k; low = low; high = high; larger = leb-false (entry_native image k) limit e }) in
          absurd (let z : ◌≡◌ {A = ℕ} 0 1 = cc in omega arith)

  -- THEOREM: an image whose entries are of at most 65,536 sectors is readable under both limits or under neither.
  pub small-alike : AtMost 65536 → readable_under 65536 image used ≡ readable image used
  small-alike h = within-alike 65536 16777216 h (λ k low high. omega (arith, h k low high))

  -- THEOREM: an image that a handler of some limit reads, with an entry above 65,536 sectors and none above 16,777,216, is readable here, and not under
  -- the old limit.
  pub large-readable : (limit : ℕ) → readable_under limit image used ≡ true → Above 65536 → AtMost 16777216
      → (readable image used ≡ true) × (readable_under 65536 image used ≡ false)
  large-readable limit r large h = (within-alike 16777216 limit h (read-within limit r) ∙ r, above-unreadable 65536 large)

  -- ---- what a save and a power-on ask of an image (`image_checks`), on a disk of N sectors

  -- THEOREM: both answer the same where all entries are of at most 65,536 sectors.
  pub same-answers : (native : ℕ) → AtMost 65536 → first_failed (image_checks_under 65536 native image used) ≡ first_failed (image_checks native image used)
  same-answers native h = rw (small-alike h)

  module _ (native : ℕ) (fits : used ≤ length image) where
    unreadable-six : (limit : ℕ) → readable_under limit image used ≡ false → first_failed (image_checks_under limit native image used) ≡ 6
    unreadable-six limit r = rw (le-leb used (length image) fits, r)

    -- THEOREM: "a handler of the old limit answers 6 to an entry above 65,536"
    pub old-answers : Above 65536 → first_failed (image_checks_under 65536 native image used) ≡ 6
    old-answers a = unreadable-six 65536 (above-unreadable 65536 a)

    -- THEOREM: both answer 6 to an entry above 16,777,216.
    pub both-answer : Above 16777216 → (first_failed (image_checks_under 65536 native image used) ≡ 6) × (first_failed (image_checks native image used) ≡ 6)
    both-answer a = (
      old-answers (record { entry = a.entry; low = a.low; high = a.high; larger = omega (arith, a.larger) }),
      unreadable-six 16777216 (above-unreadable 16777216 a),
    )

    -- THEOREM: an image of a disk above 65,536 sectors, on a disk of at most 65,536: 7 now, 6 before.
    pub on-smaller-disk : native ≤ 65536 → 560 ≤ used → 65536 < get 8 image (used - 560) → readable image used ≡ true
        → (first_failed (image_checks native image used) ≡ 7) × (first_failed (image_checks_under 65536 native image used) ≡ 6)
    on-smaller-disk small some large r =
        let whole = (readable-parts image used r).multiple in (
          rw (le-leb used (length image) fits, r, other-disk native image used whole some (λ e. omega arith)),
          old-answers (record { entry = used / 560; low = omega arith; high = omega arith; larger = subst (λ (at : ℕ). 65536 < get 8 image at) (omega arith) large }),
        )

-- ---- a save

-- all entries of a readable image have the newest one's N
each-native : (image : List ℕ) (used : ℕ) → Readable image used → (k : ℕ) → 1 ≤ k → k ≤ used / 560 → entry_native image k ≡ (newest_in image used).native
each-native image used r k low high = sym (native-read image k low) ∙ (entry-held (newest_in image used) image k (r.each k low high)).1.same_native

-- a save by a handler of this limit, and what is seen of it: its answer, and the image after it
abbrev pub save_under : ℕ → Image → ℕ → Machine → Guarded Seen
save_under limit image used M =
    record {
      checks = image_checks_under limit M.device.native image used ++ ((has_room image used, image_full) ∷ []);
      done = seen_done (save image used) M;
      refused = unchanged (save image used);
    }

abbrev pub saves_under : ℕ → Image → ℕ → Machine → Seen
saves_under limit image used M = attempt (save_under limit image used M)

-- .. which with 16,777,216 is this handler's
pub saves-now : (image : List ℕ) (used : ℕ) (M : Machine) → saves_under 16777216 image used M ≡ (step (save image used) M).seen
unfolding step
saves-now image used M = go (first_failed (save_checks M.device.native image used))
  where
    go : (n : ℕ)
        → if_passed n (seen_done (save image used) M) (unchanged (save image used) n) ≡ (if_passed n (guarded (save image used) M).done ((guarded (save image used) M).refused n)).seen
    go zero = refl
    go (suc n) = refl

module _ (image : List ℕ) (used : ℕ) (M : Machine) where
  saves-alike : AtMost image used 65536 → saves_under 65536 image used M ≡ (step (save image used) M).seen
  saves-alike h = rw (small-alike image used h) (saves-now image used M)

  -- THEOREM: "an entry at or below it is the same bytes in both": a save of a disk of at most 65,536 sectors that answers 0 does the same under the old
  -- limit ..
  pub same_bytes : M.device.native ≤ 65536 → (step (save image used) M).seen.answer ≡ 0 → saves_under 65536 image used M ≡ (step (save image used) M).seen
  same_bytes small e = saves-alike (λ k low high. rw (each-native image used accepted.readable_before k low high) (rw (own-native (omega arith)) small))
    where
      accepted : SaveAccepted M.device.native image used
      accepted = save-accepted M.device.native image used (sym (answer-is (save image used) M) ∙ e)

      own-native : (used ≡ 0 → ⊥) → (newest_in image used).native ≡ M.device.native
      own-native some = eqb-true (newest_in image used).native M.device.native (rw (ne_eqb used 0 some) at accepted.own_disk)

  -- .. and so does one that answers 0 under the old limit here.
  pub same-bytes-old : (saves_under 65536 image used M).answer ≡ 0 → saves_under 65536 image used M ≡ (step (save image used) M).seen
  same-bytes-old e =
      let old = save_under 65536 image used M in
      let answer = attempt-answer old (λ (o : Seen). o.answer) refl (λ n. refl) in
      saves-alike (read-within image used 65536 (all_pass image_full old.checks (omega arith) (sym answer ∙ e)).1.0)

module _ (d : Device) (image : List ℕ) (used : ℕ) (valid : Valid d) (passed : first_failed (save_checks d.native image used) ≡ 0) where
  abbrev after : List ℕ
  after = saved_image d image used

  read : readable after (used + 560) ≡ true
  read = readable-saved d image used valid passed

  -- all entries of the image after a save are this disk's
  saved-native : (k : ℕ) → 1 ≤ k → k ≤ (used + 560) / 560 → entry_native after k ≡ d.native
  unfolding saved_from
  saved-native k low high =
      each-native after (used + 560) (readable-parts after (used + 560) read) k low high
      ∙ ap (λ (s : Saved). s.native) (newest-saved d image used valid passed)

  -- THEOREM: what is saved of a disk of at most 65,536 sectors is readable under both limits ..
  pub saved-small : d.native ≤ 65536 → (readable after (used + 560) ≡ true) × (readable_under 65536 after (used + 560) ≡ true)
  saved-small small = (read, small-alike after (used + 560) (λ k low high. rw (saved-native k low high) small) ∙ read)

  -- .. and of a larger one, which has at most 16,777,216, under this one alone.
  pub saved-large : 65536 < d.native → (readable after (used + 560) ≡ true) × (readable_under 65536 after (used + 560) ≡ false)
  saved-large large = (
    read,
    above-unreadable after (used + 560) 65536
        (record { entry = 1; low = omega arith; high = omega arith; larger = rw (saved-native 1 (omega arith) (omega arith)) large }),
  )

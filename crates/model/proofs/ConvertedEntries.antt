-- Laws of the entries of a converted image (W-204): each is an entry again, and saves what it saved before, its timers in the form asked for.
use mathlib.Core.Path.{◌≡◌, refl, sym, ap, ap₂, ◌∙◌, subst}
use mathlib.Core.Bool.{Bool, true, false, ◌&&◌, ◌||◌}
use Prim.Native.Nat.{ℕ, ◌≤◌}
use native.Mathlib.Omega.{arith}
use mathlib.Core.List.{List, [], ◌∷◌, ◌++◌}
use lib.Dec.{eqb}
use borrow.Author.Tests.{eqb-true}
use Rattle.std.specs.Prelude.{if◌then◌else◌}
use Rattle.wire.specs.Parts.{zeros}
use Rattle.wire.specs.Layout.{stores, form}
use Rattle.wire.proofs.ChoiceLaws.{and_left, and_right}
use Rattle.wire.proofs.LayoutLaws.{length-form, stores-front}
use Rattle.wire.proofs.WithinLaws.{field-set}
use Rattle.model.specs.Temperature.{table_bytes}
use Rattle.model.specs.Image.{SavedTimers, left_out, stored, form_of, timers_in, timers_meant, Saved, head_size, sizes_of, features_of, timer_numbers, timer_fields, head_fields, body_bytes, saved_at, in_range, trailer_bytes, body_at}
use Rattle.model.specs.ImageForm.{TimersFit, SavedFits, EntryForm}
use Rattle.model.specs.Convert.{in_form, converted, fits_form, entry_timers}
use Rattle.model.proofs.EntryLaws.{by_form, length-body, TimersRanged, range-parts, parts-range}
use Rattle.model.proofs.ImageLaws.{form-saved}
use Rattle.model.proofs.EntryTimers.{timers-of, form-timers}
use Rattle.model.proofs.PowerOnLaws.{timers-valid, timer-words}
use Rattle.model.proofs.ConvertedBytes.{entry-stored}

-- ---- one body, one entry

abbrev pub with_timers : SavedTimers → Saved → Saved
with_timers t s =
    record {
      native = s.native;
      visible = s.visible;
      initialized = s.initialized;
      life_maximum = s.life_maximum;
      write_cache = s.write_cache;
      reordering = s.reordering;
      log_interval = s.log_interval;
      history = s.history;
      index = s.index;
      timers = t;
    }

-- what an entry saves, its timers in this form
abbrev pub saved_in : ℕ → Saved → Saved
saved_in entry_form s = with_timers (in_form entry_form s.timers) s

-- the head of a body, with other timers stored over it
head-stored : (s : Saved) (t : SavedTimers) → stores (timer_fields t) (form head_size (head_fields s)) ≡ form head_size (head_fields (with_timers t s))
unfolding form
head-stored s t =
    let front = sizes_of s ++ features_of s in
    let old = timer_numbers s.timers in
    let new = timer_numbers t in
    ap (λ (l : List ℕ). stores ((26, 2, new.1) ∷ (28, 2, new.2) ∷ []) l)
    (field-set front ((26, 2, old.1) ∷ (28, 2, old.2) ∷ []) 30 1 25 old.0 new.0 (zeros head_size) refl)
    ∙ ap (λ (l : List ℕ). stores ((28, 2, new.2) ∷ []) l)
    (field-set (front ++ (25, 1, new.0) ∷ []) ((28, 2, old.2) ∷ []) 30 2 26 old.1 new.1 (zeros head_size) refl)
    ∙ field-set (front ++ (25, 1, new.0) ∷ (26, 2, new.1) ∷ []) [] 30 2 28 old.2 new.2 (zeros head_size) refl

-- THE LAW of a body, which serves every entry of a chain: timers stored over the body of some values give the body of these values with the new timers.
pub body-stored : (s : Saved) (t : SavedTimers) → stores (timer_fields t) (body_bytes s) ≡ body_bytes (with_timers t s)
unfolding body_bytes
body-stored s t =
    let head = form head_size (head_fields s) in
    let table = table_bytes s.log_interval.state s.index s.history in
    stores-front (timer_fields t) 25 30 head table refl (rw (length-form head_size (head_fields s)) (omega arith))
    ∙ ap (λ (l : List ℕ). l ++ table) (head-stored s t)

-- ---- timers in a form

-- timers in range are in range in either form, since 70 is ..
ranged-in : (entry_form : ℕ) (t : SavedTimers) → TimersRanged t → TimersRanged (in_form entry_form t)
ranged-in entry_form t r = by_form TimersRanged entry_form (timers_meant t).0 (timers_meant t).1 tt (timers-valid t r)

-- .. and timers that fit their places fit them in either form
timers-fit-in : (entry_form : ℕ) (t : SavedTimers) → TimersFit t → TimersFit (in_form entry_form t)
timers-fit-in entry_form t w = by_form TimersFit entry_form (timers_meant t).0 (timers_meant t).1 (omega arith, omega arith) (timer-words t w)

-- "A chain may not mix forms": the form after a conversion is the one asked for, whatever was before
form_in : (entry_form : ℕ) (t u : SavedTimers) → form_of (in_form entry_form t) ≡ form_of (in_form entry_form u)
form_in entry_form t u = go (eqb entry_form 1)
  where
    go : (b : Bool)
        → form_of (if b then left_out else stored (timers_meant t).0 (timers_meant t).1) ≡ form_of (if b then left_out else stored (timers_meant u).0 (timers_meant u).1)
    go true = refl
    go false = refl

-- "Form 1 .. means 70 and 70.": a conversion that is not refused keeps what the timers mean
pub meant-same : (entry_form : ℕ) (t : SavedTimers) → fits_form entry_form t ≡ true → timers_meant (in_form entry_form t) ≡ timers_meant t
meant-same entry_form t h = go (eqb entry_form 1) refl
  where
    go : (b : Bool) → eqb entry_form 1 ≡ b → timers_meant (if b then left_out else stored (timers_meant t).0 (timers_meant t).1) ≡ timers_meant t
    go true e =
        let one = eqb-true entry_form 1 e in
        let seventy : (eqb (timers_meant t).0 70 && eqb (timers_meant t).1 70) ≡ true = subst (λ (x : ℕ). fits_form x t ≡ true) one h in
        let first = eqb-true (timers_meant t).0 70 (and_left (eqb (timers_meant t).0 70) (eqb (timers_meant t).1 70) seventy) in
        let second = eqb-true (timers_meant t).1 70 (and_right (eqb (timers_meant t).0 70) (eqb (timers_meant t).1 70) seventy) in
        λ i. (sym first i, sym second i)
    go false e = refl

-- timers stay as they are in the form that they are of, and can be in it
pub own-form : (entry_form : ℕ) (t : SavedTimers) → form_of t ≡ entry_form → in_form entry_form t ≡ t
own-form entry_form left_out e = ap (λ (x : ℕ). in_form x left_out) (sym e)
own-form entry_form (stored for_read for_write) e = ap (λ (x : ℕ). in_form x (stored for_read for_write)) (sym e)

own-fits : (entry_form : ℕ) (t : SavedTimers) → form_of t ≡ entry_form → fits_form entry_form t ≡ true
own-fits entry_form left_out e = ap (λ (x : ℕ). fits_form x left_out) (sym e)
own-fits entry_form (stored for_read for_write) e = ap (λ (x : ℕ). fits_form x (stored for_read for_write)) (sym e)

-- "going there and back": the timers are the same, and the way back is not refused
pub there_back : (entry_form back : ℕ) (t : SavedTimers) → fits_form entry_form t ≡ true → form_of t ≡ back → in_form back (in_form entry_form t) ≡ t
there_back entry_form back t h e =
    ap (λ (m : ℕ × ℕ). timers_in back m.0 m.1) (meant-same entry_form t h) ∙ own-form back t e

pub back_fits : (entry_form back : ℕ) (t : SavedTimers) → fits_form entry_form t ≡ true → form_of t ≡ back → fits_form back (in_form entry_form t) ≡ true
back_fits entry_form back t h e =
    ap (λ (m : ℕ × ℕ). eqb back 2 || (eqb m.0 70 && eqb m.1 70)) (meant-same entry_form t h) ∙ own-fits back t e

-- ---- an entry of the converted image

range-in : (entry_form : ℕ) (s : Saved) → in_range s ≡ true → in_range (saved_in entry_form s) ≡ true
range-in entry_form s h =
    let r = range-parts s h in
    parts-range (saved_in entry_form s)
    (
    record {
      native = r.native;
      visible = r.visible;
      write_cache = r.write_cache;
      reordering = r.reordering;
      log_interval = r.log_interval;
      index = r.index;
      timers = ranged-in entry_form s.timers r.timers;
    }
    )

fits_in : (entry_form : ℕ) (s : Saved) → SavedFits s → SavedFits (saved_in entry_form s)
fits_in entry_form s f =
    record {
      native = f.native;
      visible = f.visible;
      life_maximum = f.life_maximum;
      write_cache = f.write_cache;
      reordering = f.reordering;
      log_interval = f.log_interval;
      index = f.index;
      whole = f.whole;
      readings = f.readings;
      timers = timers-fit-in entry_form s.timers f.timers;
    }

module _ (entry_form : ℕ) (newest : Saved) (image : List ℕ) (n k : ℕ) (low : 1 ≤ k) (high : k ≤ n) (e : EntryForm newest image k) where
  -- THEOREM: entry k of the converted image is an entry again, and what it saves is what it saved before, its timers in the form asked for.
  pub converted-entry : EntryForm (saved_in entry_form newest) (converted entry_form image n) k
  converted-entry =
      let s = e.saved in
      let new = in_form entry_form s.timers in
      record {
        saved = saved_in entry_form s;
        fits = fits_in entry_form s e.fits;
        ranged = range-in entry_form s e.ranged;
        like = record { same_native = e.like.same_native; same_form = form_in entry_form s.timers newest.timers };
        bytes =
            entry-stored entry_form image n k low high
            ∙ ap₂ (λ (t : SavedTimers) (w : List ℕ). stores (timer_fields (in_form entry_form t)) w) (form-timers newest image k low e) e.bytes
            ∙ stores-front (timer_fields new) 25 30 (body_bytes s) (trailer_bytes k) refl (rw (length-body s e.fits.whole) (omega arith))
            ∙ ap (λ (l : List ℕ). l ++ trailer_bytes k) (body-stored s new);
      }

  pub converted-saved : saved_at (body_at (converted entry_form image n) k) 0 ≡ saved_in entry_form (saved_at (body_at image k) 0)
  unfolding converted-entry
  converted-saved =
      form-saved (saved_in entry_form newest) (converted entry_form image n) k low converted-entry
      ∙ sym (ap (saved_in entry_form) (form-saved newest image k low e))

  pub converted-timers : entry_timers (converted entry_form image n) k ≡ in_form entry_form (entry_timers image k)
  converted-timers =
      sym (timers-of (converted entry_form image n) k low)
      ∙ ap (λ (s : Saved). s.timers) converted-saved
      ∙ ap (in_form entry_form) (timers-of image k low)

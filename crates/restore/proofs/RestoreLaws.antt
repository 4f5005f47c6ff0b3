-- The device after power-on, and its record.
use Rattle.std.specs.Prelude.{if◌then◌else◌}
use mathlib.Core.Path.{◌≡◌, sym, ap, ◌∙◌, subst}
use mathlib.Core.Bool.{Bool, true, false}
use Prim.Native.Nat.{ℕ, ◌+◌, ◌-◌, ◌%◌, ◌≤◌}
use native.Mathlib.Omega.{arith}
use mathlib.Core.List.{List}
use lib.ListN.{length, replicate}
use lib.Seq.{sets}
use lib.Dec.{eqb}
use borrow.Author.Tests.{eq-eqb, ne_eqb}
use Rattle.wire.specs.Choice.{first_failed}
use Rattle.wire.specs.Numbers.{get}
use Rattle.wire.specs.Parts.{part}
use Rattle.wire.proofs.PartsLaws.{length_part, part_same}
use Rattle.model.specs.Sizes.{port_count, history_size, missing, body_size, entry_size}
use Rattle.model.specs.Device.{idle, Settings, Device}
use Rattle.model.specs.Temperature.{table_head_size, empty_history, empty_index}
use Rattle.model.specs.Fill.{nothing_pending}
use Rattle.model.specs.Image.{Saved, interval_place, saved_at, image_checks, blank, power_on_settings, power_on_thermal, power_on, restored}
use Rattle.model.specs.Image.{head_size as body_head}
use Rattle.model.proofs.ImageLaws.{readable-parts, newest-at}
use Rattle.store.specs.Areas.{head_size}
use Rattle.store.specs.Record.{Stage, empty, encode}
use Rattle.store.specs.Entries.{restored_contents}
use Rattle.record.specs.DeviceMeaning.{history_of}
use Rattle.record_write.specs.Framed.{Framed}
use Rattle.record_write.specs.Blank.{blank_record}
use Rattle.record_write.proofs.FramedLaws.{history-stored}
use Rattle.record_write.proofs.BlankLaws.{blank-framed, blank-history}
use Rattle.image.proofs.ImageAnswers.{read-readable}

-- a device with these values, and everything else as power-on sets it
abbrev pub powered_device : ℕ → ℕ → Bool → ℕ → Settings → ℕ → List ℕ → Device
powered_device native visible initialized life settings index history =
    record {
      native = native;
      visible = visible;
      locked = false;
      initialized = initialized;
      command = record { code = 0; action = 0; function = 0; fill = idle; pending = nothing_pending };
      settings = settings;
      thermal = record { current = missing; cycle_maximum = missing; life_maximum = life; history = history; index = index; minutes = 0 };
    }

pub powered-is : (s : Saved) (native visible : ℕ) (initialized : Bool) (life : ℕ) (settings : Settings) (index : ℕ)
    → native ≡ s.native → visible ≡ s.visible → initialized ≡ s.initialized → life ≡ s.life_maximum → settings ≡ power_on_settings s
    → index ≡ (power_on_thermal s).index
    → powered_device native visible initialized life settings index (power_on_thermal s).history ≡ power_on s
unfolding power_on
powered-is s native visible initialized life settings index en ev ei el es ex =
    λ j. powered_device (en j) (ev j) (ei j) (el j) (es j) (ex j) (power_on_thermal s).history

-- the index that is kept, decided by the interval after power-on
pub index_kept : (s : Saved) (settings : Settings) (index : ℕ) → settings ≡ power_on_settings s
    → index ≡ (if eqb settings.log_interval.state s.log_interval.state then s.index else empty_index)
    → index ≡ (power_on_thermal s).index
index_kept s settings index es e =
    e ∙ ap (λ (t : Settings). if eqb t.log_interval.state s.log_interval.state then s.index else empty_index) es

-- .. and the history
pub history-kept : (s : Saved) (d : Device) (history : List ℕ) → d ≡ power_on s
    → history ≡ (if eqb d.settings.log_interval.state s.log_interval.state then s.history else empty_history)
    → history ≡ (power_on_thermal s).history
unfolding power_on
history-kept s d history ed e =
    e ∙ ap (λ (x : Device). if eqb x.settings.log_interval.state s.log_interval.state then s.history else empty_history) ed

-- ---- the history in the record

module _ (r image : List ℕ) (at interval : ℕ) where
  abbrev copied : List ℕ
  copied =
      if eqb interval (saved_at image at).log_interval.state then sets r (head_size + table_head_size) (saved_at image at).history else r

  pub history-copied : interval ≡ get 2 image (at + interval_place)
      → sets r (head_size + table_head_size) (part image (at + (body_head + table_head_size)) history_size) ≡ copied
  unfolding saved_at
  history-copied e = rw (eq-eqb interval (get 2 image (at + interval_place)) e)

  pub history-left : (interval ≡ get 2 image (at + interval_place) → ⊥) → r ≡ copied
  unfolding saved_at
  history-left ne = rw (ne_eqb interval (get 2 image (at + interval_place)) ne)

saved-history : (image : List ℕ) (at : ℕ) → at + body_size ≤ length image → length (saved_at image at).history ≡ history_size
unfolding saved_at
saved-history image at fits = length_part image (at + (body_head + table_head_size)) history_size (omega arith)

-- a blank record after the history is copied into it, or not
history-into : (b : Bool) (r h : List ℕ) → Framed r → history_of r ≡ empty_history → length h ≡ history_size
    → Framed (if b then sets r (head_size + table_head_size) h else r) × (history_of (if b then sets r (head_size + table_head_size) h else r) ≡ (if b then h else empty_history))
history-into true r h f none size =
    (history-stored r (head_size + table_head_size) h (omega arith) f, part_same h r (head_size + table_head_size) history_size size (omega (arith, f.size)))
history-into false r h f none size = (f, none)

pub history-after : (r after image : List ℕ) (at interval : ℕ) → at + body_size ≤ length image → r ≡ blank_record → after ≡ copied r image at interval
    → Framed after × (history_of after ≡ (if eqb interval (saved_at image at).log_interval.state then (saved_at image at).history else empty_history))
history-after r after image at interval fits blanks e =
    let into =
    history-into (eqb interval (saved_at image at).log_interval.state) r (saved_at image at).history
    (subst Framed (sym blanks) blank-framed)
    (ap history_of blanks ∙ blank-history)
    (saved-history image at fits) in
    (subst Framed (sym e) into.0, ap history_of e ∙ into.1)

-- ---- the record

pub restored-encoded : (d : Device) (stages : List Stage) (s : Saved) → d ≡ power_on s → stages ≡ replicate port_count empty
    → encode (record { device = d; stages = stages }) ≡ encode (restored_contents s)
restored-encoded d stages s ed es = λ j. encode (record { device = ed j; stages = es j })

module _ (native : ℕ) (image : List ℕ) (used : ℕ) where
  pub restored-blank : used ≡ 0 → blank native ≡ restored native image used
  unfolding restored
  restored-blank e = rw (eq-eqb used 0 e)

  pub restored_last : used % entry_size ≡ 0 → (used ≡ 0 → ⊥) → saved_at image (used - entry_size) ≡ restored native image used
  unfolding restored
  restored_last whole some = sym (rw (ne_eqb used 0 some) (newest-at image used whole (omega (arith, whole, some))))

  pub restored-newest : first_failed (image_checks native image used) ≡ 0 → (used ≡ 0 → ⊥) → saved_at image (used - entry_size) ≡ restored native image used
  restored-newest e some = restored_last (readable-parts image used (read-readable native image used e)).multiple some

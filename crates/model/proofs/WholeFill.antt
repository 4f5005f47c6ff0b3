-- A pattern fill of Start 0 and Count V (W-201): it is accepted, and when it is worked to its end the flag is set.
use mathlib.Core.Path.{◌≡◌, refl, sym, ap, ap₂, ◌∙◌}
use mathlib.Core.Bool.{true, false}
use Prim.Native.Nat.{ℕ, ◌≤◌, ◌<◌}
use native.Mathlib.Omega.{arith}
use mathlib.Core.List.{List}
use lib.ListN.{length}
use Rattle.wire.proofs.ChoiceLaws.{between-within}
use Rattle.wire.proofs.PartsLaws.{length_part, length-repeated}
use Rattle.model.specs.Sizes.{sector_size, registers_size, port_count, mailbox_size}
use Rattle.model.specs.Device.{running, Device}
use Rattle.model.specs.Update.{with_fill}
use Rattle.model.specs.Registers.{key_sector, data_of, request_of}
use Rattle.model.specs.Key.{word, start, count, fill_pattern, pattern_sector, accepted, action_of}
use Rattle.model.specs.Fill.{interrupt}
use Rattle.model.specs.Decide.{Serving}
use Rattle.model.specs.Machine.{request, Machine}
use Rattle.model.specs.Step.{work, step}
use Rattle.model.proofs.KeyTable.{Within, accepts-fill}
use Rattle.model.proofs.KeyLaws.{accepted-pattern, fill-end-count}
use Rattle.model.proofs.RequestLaws.{serve_on, keyed, key_judged, interrupt-kept, serves-pattern}
use Rattle.model.proofs.FillSector.{pattern-sector}
use Rattle.model.proofs.WorkLaws.{whole-fill-sets}

module _ (s : Serving) (M : Machine) (m : List ℕ) (port : s.port < port_count) (held : M.ports s.port ≡ request m) (size : length m ≡ mailbox_size) (is_key : request_of m ≡ key_sector) (unlocked : M.device.locked ≡ false) where
  abbrev k : List ℕ
  k = data_of m

  abbrev visible : ℕ
  visible = M.device.visible

  module _ (some : 1 ≤ visible) (fill : word k 0 ≡ 2) (pattern : word k 1 ≡ 1) (from_zero : start k ≡ 0) (to_v : count k ≡ visible) where
    -- the key is judged with the fill stopped, which changes neither lock nor V
    judged : key_judged s M m port held ≡ accepted (fill_pattern 0 visible (pattern_sector k))
    judged =
        let d = interrupt M.device in
        let open-now : d.locked ≡ false = rw (interrupt-kept M.device) unlocked in
        let same : d.visible ≡ visible = rw (interrupt-kept M.device) refl in
        let function : Within 1 (word k 1) 2 = between-within 1 (word k 1) 2 (omega arith) (omega arith) in
        let a = accepts-fill d k open-now fill function (omega (arith, same)) (omega (arith, same)) in
        a
        ∙ ap accepted
        (accepted-pattern d k (action_of d.visible k) fill pattern a
        ∙ ap₂ (λ (first end : ℕ). fill_pattern first end (pattern_sector k)) from_zero (fill-end-count d.visible k (λ z. omega (arith, z)) ∙ omega arith))

    -- "Start 0 with Count 64 at V = 64 is now accepted": the fill runs from 0 to V ..
    pub whole-starts : (serve_on s M).state.device ≡ with_fill (running 0 0 visible) 0xFFFF (keyed s M m port held)
    whole-starts = (serves-pattern s M m port held 0 visible (pattern_sector k) is_key judged).device_after

    -- ".. and sets the flag at its end"
    pub whole-sets-flag : (n : ℕ) → visible ≤ n → (step (work n) (serve_on s M).state).state.device.initialized ≡ true
    whole-sets-flag n h =
        let N = (serve_on s M).state in
        let runs : N.device.command.fill ≡ running 0 0 visible = ap (λ (d : Device). d.command.fill) whole-starts in
        let key_sized : length k ≡ sector_size = length_part m registers_size sector_size (omega arith) in
        let sector : length N.sector ≡ sector_size =
        rw (pattern-sector s M m port held 0 visible (pattern_sector k) is_key judged, length-repeated, length_part k 20 4 (omega arith)) in
        whole-fill-sets n N 0 0 visible runs (omega arith) sector (omega arith) refl (sym (ap (λ (d : Device). d.visible) whole-starts ∙ rw (interrupt-kept M.device) refl))

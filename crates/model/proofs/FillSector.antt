-- Which sector a fill writes: the pattern of its key, or the sector that came with its E1h request.
use mathlib.Core.Path.{◌≡◌, ap, ◌∙◌}
use mathlib.Core.Bool.{false}
use Prim.Native.Nat.{ℕ, ◌<◌}
use mathlib.Core.List.{List}
use lib.ListN.{get_or}
use borrow.Author.Tests.{lt-ltb}
use Rattle.wire.specs.Parts.{part}
use Rattle.wire.proofs.ChoiceLaws.{pass_all}
use Rattle.model.specs.Sizes.{port_count}
use Rattle.model.specs.Device.{running, none, fill_data}
use Rattle.model.specs.Update.{with_code}
use Rattle.model.specs.Registers.{write, status_read, key_sector, data_transfer, data_of, request_of, good}
use Rattle.model.specs.Key.{fill_pattern, accepted}
use Rattle.model.specs.Fill.{interrupt}
use Rattle.model.specs.Decide.{Serving, new_fill, status, writing, sending, Decision, decision, carry_out, decide_data, decide}
use Rattle.model.specs.Perform.{volume_after, fill_sector_after}
use Rattle.model.specs.Machine.{Port, request, Machine, while_running, held_bytes}
use Rattle.model.specs.Step.{serve, checks, served, serve_decided}
use Rattle.model.proofs.StepLaws.{step-done}
use Rattle.model.proofs.RequestLaws.{serve_on, key_judged, decided-accepted, decided-data, decided-status, interrupt-kept}

module _ (s : Serving) (M : Machine) (m : List ℕ) (port : s.port < port_count) (held : M.ports s.port ≡ request m) where
  abbrev p : ℕ
  p = s.port

  sector-after : (c : Decision) → decide s m M.device ≡ c
      → (serve_on s M).state.sector ≡ while_running (volume_after c M.disk).device.command.fill (fill_sector_after c.effect.writes M.sector)
  unfolding served serve_decided
  sector-after c e =
      let is = step-done (serve s) M (pass_all (checks (serve s) M) (lt-ltb p port_count port, (rw held, tt))) in
      let same : decide s (held_bytes (M.ports p)) M.device ≡ c = ap (λ (x : Port). decide s (held_bytes x) M.device) held ∙ e in
      rw (is, same)

  -- "Pattern fill starts at once": with the key's pattern
  pub pattern-sector : (first end : ℕ) (pattern : List ℕ) → request_of m ≡ key_sector → key_judged s M m port held ≡ accepted (fill_pattern first end pattern)
      → (serve_on s M).state.sector ≡ pattern
  unfolding carry_out
  pattern-sector first end pattern e j = sector-after _ (decided-accepted s M m port held e (fill_pattern first end pattern) j)

  -- a transfer that starts a fill brings its sector
  pub data-sector : (first end : ℕ) → request_of m ≡ data_transfer write 1 → M.device.locked ≡ false
      → get_or M.device.command.pending p none ≡ fill_data first end
      → (serve_on s M).state.sector ≡ part m 16 512
  unfolding decide_data
  data-sector first end e unlocked pends =
      sector-after (decision (with_code 0x0000 (interrupt M.device)) (good 0 0) (writing (new_fill first end (data_of m))))
      (decided-data s M m port held write 1 e ∙ rw (pends, interrupt-kept M.device, unlocked))

  -- a status read does not change the sector of a running fill
  pub status-sector : (first next end : ℕ) → request_of m ≡ status_read → M.device.locked ≡ false → M.device.command.fill ≡ running first next end
      → (serve_on s M).state.sector ≡ M.sector
  status-sector first next end e unlocked runs =
      sector-after (decision M.device (good 0 0) (sending status)) (decided-status s M m port held e unlocked) ∙ rw runs

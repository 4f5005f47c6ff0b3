-- The action and function that the device records from every key, and that stopping a fill does not change.
use mathlib.Core.Path.{◌≡◌, refl, ◌∙◌}
use Prim.Native.Nat.{ℕ, ◌<◌}
use native.Mathlib.Omega.{arith}
use mathlib.Core.List.{List}
use Rattle.wire.specs.Numbers.{get}
use Rattle.wire.proofs.PartsLaws.{get-part}
use Rattle.model.specs.Sizes.{port_count, registers_size, sector_size}
use Rattle.model.specs.Device.{Fill, idle, running, Device}
use Rattle.model.specs.Registers.{key_sector, data_of, request_of}
use Rattle.model.specs.Key.{word, FeatureName, write_cache, reordering, log_interval, access_long, fill_pattern, fill_sector, set_timer, return_timer, set_feature, return_state, return_option, send_table, Verdict, accepted, rejected}
use Rattle.model.specs.Fill.{stop_fill, interrupt}
use Rattle.model.specs.Decide.{Serving}
use Rattle.model.specs.Machine.{request, Machine}
use Rattle.model.proofs.RequestLaws.{serve_on, key_judged, serves-key-refused, serves-pattern, serves-fill-sector, serves-send-table, serves-access-long, serves-set-timer, serves-return-timer, serves-set-feature, serves-return-state, serves-return-option}

-- the device's action and function
pub record Recorded (d : Device) (action function : ℕ) : Type 0 where
  pub is_action : d.command.action ≡ action
  pub is_function : d.command.function ≡ function

module _ (s : Serving) (M : Machine) (m : List ℕ) (port : s.port < port_count) (held : M.ports s.port ≡ request m) where
  word-zero : word (data_of m) 0 ≡ get 2 m 16
  word-zero = get-part 2 m registers_size sector_size 0 (omega arith)

  word-one : word (data_of m) 1 ≡ get 2 m 18
  word-one = get-part 2 m registers_size sector_size 2 (omega arith)

  from : (d : Device) → (serve_on s M).state.device ≡ d → d.command.action ≡ word (data_of m) 0 → d.command.function ≡ word (data_of m) 1
      → Recorded (serve_on s M).state.device (get 2 m 16) (get 2 m 18)
  from d e a f = rw e (record { is_action = a ∙ word-zero; is_function = f ∙ word-one })

  -- "Words 0 and 1 are action and function; both are recorded from every key, accepted or not."
  pub key-recorded : request_of m ≡ key_sector → Recorded (serve_on s M).state.device (get 2 m 16) (get 2 m 18)
  key-recorded e = go (key_judged s M m port held) refl
    where
      set-feature : (f : FeatureName) (n : ℕ) (keep : _) → key_judged s M m port held ≡ accepted (set_feature f n keep)
          → Recorded (serve_on s M).state.device (get 2 m 16) (get 2 m 18)
      set-feature write_cache n keep j = from _ (serves-set-feature s M m port held write_cache n keep e j).device_after refl refl
      set-feature reordering n keep j = from _ (serves-set-feature s M m port held reordering n keep e j).device_after refl refl
      set-feature log_interval n keep j = from _ (serves-set-feature s M m port held log_interval n keep e j).device_after refl refl

      go : (v : Verdict) → key_judged s M m port held ≡ v → Recorded (serve_on s M).state.device (get 2 m 16) (get 2 m 18)
      go (rejected code named) j = from _ (serves-key-refused s M m port held code named e j).device_after refl refl
      go (accepted (access_long dir lba)) j = from _ (serves-access-long s M m port held dir lba e j).device_after refl refl
      go (accepted (fill_pattern first end sector)) j = from _ (serves-pattern s M m port held first end sector e j).device_after refl refl
      go (accepted (fill_sector first end)) j = from _ (serves-fill-sector s M m port held first end e j).device_after refl refl
      go (accepted (set_timer t n)) j = from _ (serves-set-timer s M m port held t n e j).device_after refl refl
      go (accepted (return_timer t)) j = from _ (serves-return-timer s M m port held t e j).device_after refl refl
      go (accepted (set_feature f n keep)) j = set-feature f n keep j
      go (accepted (return_state f)) j = from _ (serves-return-state s M m port held f e j).device_after refl refl
      go (accepted (return_option f)) j = from _ (serves-return-option s M m port held f e j).device_after refl refl
      go (accepted send_table) j = from _ (serves-send-table s M m port held e j).device_after refl refl

-- stopping a fill and dropping a transfer change neither
pub interrupt-recorded : (d : Device) → Recorded (interrupt d) d.command.action d.command.function
unfolding interrupt
interrupt-recorded d = record { is_action = a d.command.fill; is_function = f d.command.fill }
  where
    a : (g : Fill) → (stop_fill g d).command.action ≡ d.command.action
    a idle = refl
    a (running first next end) = refl

    f : (g : Fill) → (stop_fill g d).command.function ≡ d.command.function
    f idle = refl
    f (running first next end) = refl

-- The recovery timers: what they are after every power-on that answers 0 (W-203, W-204), which function 2 then returns; a timer set to 0 is off.
use mathlib.Core.Path.{◌≡◌, refl, sym, ap, ◌∙◌}
use mathlib.Core.Bool.{false}
use Prim.Native.Nat.{ℕ, ◌/◌, ◌<◌}
use native.Mathlib.Omega.{arith}
use mathlib.Core.List.{List, [], ◌∷◌}
use lib.ListN.{length}
use Rattle.wire.specs.Numbers.{le, get, put}
use Rattle.wire.specs.Parts.{padded}
use Rattle.wire.specs.Layout.{form}
use Rattle.model.specs.Sizes.{port_count, mailbox_size}
use Rattle.model.specs.Device.{Settings, Device}
use Rattle.model.specs.Registers.{Direction, read, write, key_sector, data_of, request_of, good, registers_bytes, reply_bytes}
use Rattle.model.specs.Key.{word, set_timer, accepted, action_of}
use Rattle.model.specs.Fill.{interrupt}
use Rattle.model.specs.Decide.{Serving, timer, with_timer}
use Rattle.model.specs.Image.{restored}
use Rattle.model.specs.Machine.{request, reply, Machine}
use Rattle.model.specs.Step.{take, give, power_on, Seen, answered_mailbox, checks, step}
use Rattle.model.proofs.StepLaws.{answer-is, answers-numbered, take-keeps, take-alone, give-delivers}
use Rattle.model.proofs.KeyTable.{accepts-timer, accepts-timer-return}
use Rattle.model.proofs.AcceptedLaws.{word-in-request, direction_number, direction-within, accepted-set-timer, accepted-return-timer}
use Rattle.model.proofs.RequestLaws.{serve_on, interrupt-kept, serves-set-timer, serves-return-timer}
use Rattle.model.proofs.PowerOnLaws.{kept-rules, TimersOn, timers-restored}
use Rattle.model.proofs.ImageSteps.{power-on-leaves}
use Rattle.wire.proofs.ChoiceLaws.{all_pass}

-- ---- replies: Status 50h, the value in Sector Count, and every other byte 0

plain-reply : reply_bytes (good 0 0) [] ≡ form 1040 ((12, 1, 0x50) ∷ [])
unfolding reply_bytes registers_bytes padded form put le
plain-reply = refl

seventy-reply : reply_bytes (good 70 0) [] ≡ form 1040 ((2, 1, 0x46) ∷ (12, 1, 0x50) ∷ [])
unfolding reply_bytes registers_bytes padded form put le
seventy-reply = refl

-- ---- a request of action 3: function in bytes 18 and 19, timer in 20 and 21, value in 22 and 23

abbrev pub other_timer : Direction → Direction
other_timer read = write
other_timer write = read

one-timer-set : (t : Direction) (n : ℕ) (s : Settings) → (timer t (with_timer t n s) ≡ n) × (timer (other_timer t) (with_timer t n s) ≡ timer (other_timer t) s)
one-timer-set read n s = (refl, refl)
one-timer-set write n s = (refl, refl)

module _ (s : Serving) (M : Machine) (m : List ℕ) (port : s.port < port_count) (held : M.ports s.port ≡ request m) (is_key : request_of m ≡ key_sector) (unlocked : M.device.locked ≡ false) (t : Direction) (action : get 2 m 16 ≡ 3) (named : get 2 m 20 ≡ direction_number t) where
  abbrev after : Machine
  after = (serve_on s M).state

  abbrev k : List ℕ
  k = data_of m

  abbrev stopped : Device
  stopped = interrupt M.device

  free : stopped.locked ≡ false
  free = ap (λ (d : Device). d.locked) (interrupt-kept M.device) ∙ unlocked

  same-settings : stopped.settings ≡ M.device.settings
  same-settings = ap (λ (d : Device). d.settings) (interrupt-kept M.device)

  three : word k 0 ≡ 3
  three = word-in-request m 0 (omega arith) ∙ action

  two : word k 2 ≡ direction_number t
  two = word-in-request m 2 (omega arith) ∙ named

  -- "2 return": the timer that it names
  pub returns-timer : get 2 m 18 ≡ 2 → after.ports s.port ≡ reply (reply_bytes (good (timer t M.device.settings) 0) [])
  returns-timer function =
      let returns : word k 1 ≡ 2 = word-in-request m 1 (omega arith) ∙ function in
      let accepts = accepts-timer-return stopped k free three returns (rw two (direction-within t)) in
      let judged = accepts ∙ ap accepted (accepted-return-timer stopped k (action_of stopped.visible k) accepts t three returns two) in
      (serves-return-timer s M m port held t is_key judged).replied ∙ ap (λ (c : Settings). reply (reply_bytes (good (timer t c) 0) [])) same-settings

  -- "Setup tools that relied on 0 must set 0 themselves": unlocked, a set of 0 is accepted, the timer is off, and the other timer keeps its value.
  pub switches-off : get 2 m 18 ≡ 1 → get 2 m 22 ≡ 0
      → (after.ports s.port ≡ reply (form 1040 ((12, 1, 0x50) ∷ []))) × (timer t after.device.settings ≡ 0)
      × (timer (other_timer t) after.device.settings ≡ timer (other_timer t) M.device.settings)
  switches-off function off =
      let sets : word k 1 ≡ 1 = word-in-request m 1 (omega arith) ∙ function in
      let zero : word k 3 ≡ 0 = word-in-request m 3 (omega arith) ∙ off in
      let accepts = accepts-timer stopped k free three sets (rw two (direction-within t)) (rw zero refl) in
      let judged =
      accepts
      ∙ ap accepted (accepted-set-timer stopped k (action_of stopped.visible k) accepts t three sets two ∙ ap (set_timer t) zero) in
      let w = serves-set-timer s M m port held t 0 is_key judged in
      let changed = one-timer-set t 0 stopped.settings in
      (w.replied ∙ ap reply plain-reply, rw w.device_after changed.0, rw w.device_after changed.1 ∙ ap (timer (other_timer t)) same-settings)

-- ---- the timers at power-on

module _ (image : List ℕ) (used : ℕ) (M : Machine) (answers : (step (power_on image used) M).seen.answer ≡ 0) where
  abbrev on : Machine
  on = (step (power_on image used) M).state

  -- THEOREM: the timers after every power-on that answers 0, from the image's bytes.
  pub timers-on : TimersOn image used on.device.settings.read_timer on.device.settings.write_timer
  timers-on =
      let passed = all_pass 8 (checks (power_on image used) M) (answers-numbered (power_on image used) M) (sym (answer-is (power_on image used) M) ∙ answers) in
      rw (power-on-leaves image used M answers).device (timers-restored (length M.disk.sectors / 512) image used passed.1.1.0)

  -- a request that asks for either timer, taken straight after the power-on and served
  module _ (s : Serving) (m : List ℕ) (port : s.port < port_count) (size : length m ≡ mailbox_size) (is_key : request_of m ≡ key_sector) (t : Direction) (action : get 2 m 16 ≡ 3) (function : get 2 m 18 ≡ 2) (named : get 2 m 20 ≡ direction_number t) where
    abbrev served : Machine
    served = (serve_on s (step (take s.port m) on).state).state

    replied-timer : served.ports s.port ≡ reply (reply_bytes (good (timer t on.device.settings) 0) [])
    replied-timer =
        let is = power-on-leaves image used M answers in
        let taken = take-keeps s.port m on port size (is.ports s.port) in
        let same = (take-alone s.port m on (ap (λ (o : Seen). o.answer) taken.0)).device in
        let unlocked = ap (λ (d : Device). d.locked) (same ∙ is.device) ∙ (kept-rules (restored (length M.disk.sectors / 512) image used)).unlocked in
        returns-timer s (step (take s.port m) on).state m port taken.1 is_key unlocked t action named function
        ∙ ap (λ (d : Device). reply (reply_bytes (good (timer t d.settings) 0) [])) same

    -- THEOREM: the give answers 0, and the mailbox then has the timer that power-on left ..
    pub returns-timer-on : (n : List ℕ) → length n ≡ mailbox_size
        → (step (give s.port n) served).seen ≡ answered_mailbox 0 (reply_bytes (good (timer t on.device.settings) 0) [])
    returns-timer-on n whole = (give-delivers s.port n _ served port whole replied-timer).0

    -- .. and a timer of 70 as 0046h: 46h in Sector Count, 0 in LBA Low, Status 50h, and every other byte 0.
    pub returns-seventy : (n : List ℕ) → length n ≡ mailbox_size → timer t on.device.settings ≡ 70
        → (step (give s.port n) served).seen ≡ answered_mailbox 0 (form 1040 ((2, 1, 0x46) ∷ (12, 1, 0x50) ∷ []))
    returns-seventy n whole seventy =
        returns-timer-on n whole ∙ ap (λ (v : ℕ). answered_mailbox 0 (reply_bytes (good v 0) [])) seventy ∙ ap (answered_mailbox 0) seventy-reply

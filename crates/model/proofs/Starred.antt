-- The starred examples of document 01 hold for the definitions.
use mathlib.Core.Path.{◌≡◌, refl}
use Prim.Native.Nat.{ℕ, ◌*◌}
use mathlib.Core.List.{List, [], ◌∷◌, map}
use Rattle.wire.specs.Numbers.{le, get, put}
use Rattle.wire.specs.Parts.{zeros, padded, repeated}
use Rattle.wire.specs.Layout.{form}
use Rattle.model.specs.Registers.{log_page, smart_log, request_of, registers_bytes, reply_bytes}
use Rattle.model.specs.Key.{key_checks, action_of, judge_key}
use Rattle.model.specs.Temperature.{new_maximum, sampled}
use Rattle.model.specs.Fill.{interrupt, work_count, work, sector_step, write_sector}
use Rattle.model.specs.Decide.{carry_out, decide_key, decide}
use Rattle.model.specs.Owner.{sample}
use Rattle.model.specs.Image.{power_on, restored}
use Rattle.model.specs.Machine.{Machine}
use Rattle.model.specs.Step.{take, serve, give, Outcome, step, trace, served, serve_decided, powered_on, answer_only, answered_mailbox}
use Rattle.model.specs.Examples.{Example, evaluate, starred, key_mailbox, fill_key}
use Rattle.model.specs.Sizes.{mailbox_size, sector_size, check_size}

-- THEOREM: every starred example has the outcome that 01 states.
pub starred-hold : map (λ (e : Example × List ℕ). evaluate e.0) starred ≡ map (λ (e : Example × List ℕ). e.1) starred
unfolding evaluate le get put form log_page smart_log request_of key_checks action_of judge_key repeated new_maximum sampled interrupt work_count work sector_step write_sector carry_out decide_key decide sample power_on
starred-hold = refl

-- "Start 64, Count 0: 0002h", with word 2, from the mailbox through take, serve and give to the mailbox of the reply
pub end_to_end : map (λ (o : Outcome Machine). o.seen)
    (trace step (take 0 (key_mailbox (fill_key 64 0)) ∷ serve (record { port = 0 }) ∷ give 0 (zeros mailbox_size) ∷ []) (powered_on (record { sectors = zeros (sector_size * 64); check_area = zeros (check_size * 64) }) [] 0))
    ≡ answered_mailbox 0 (key_mailbox (fill_key 64 0))
    ∷ answer_only 0
    ∷ answered_mailbox 0 (form mailbox_size ((2, 1, 0x02) ∷ (6, 1, 2) ∷ (12, 1, 0x51) ∷ (13, 1, 0x04) ∷ []))
    ∷ []
unfolding le get put form padded log_page smart_log request_of registers_bytes reply_bytes key_checks action_of judge_key interrupt carry_out decide_key decide power_on restored step served serve_decided powered_on
end_to_end = refl

use mathlib.Core.Path.{◌≡◌, refl, sym, ap, ◌∙◌}
use mathlib.Core.Bool.{Bool, true, false, not}
use borrow.Author.Tests.{le-ltb, lt-ltb}
use Rattle.store.specs.Record.{is_stage, decode}
use Rattle.store.specs.Store.{stage_for}
use Rattle.store.proofs.StageLaws.{stage-read}
use Rattle.record.specs.declared.device.Stage.{Stage}
use Rattle.record.specs.declared.device.Stage.TheVariants.{Empty, Held, Answered}
use Rattle.record.specs.contracts.device.Stage.{the_type}
use Rattle.record.specs.DeviceMeaning.{as_stage}
use Rattle.refusals.proofs.refusal.slot_checks.Goals as goal
use Rattle.refusals.proofs.refusal.slot_checks.Goals.{After-ne}
use denote.Enum.Bare.{sameb}

-- the derived equality is that of the stages
same-stage : (a b : Stage) → sameb the_type a b ≡ is_stage (as_stage b) (as_stage a)
same-stage Empty Empty = refl
same-stage Empty Held = refl
same-stage Empty Answered = refl
same-stage Held Empty = refl
same-stage Held Held = refl
same-stage Held Answered = refl
same-stage Answered Empty = refl
same-stage Answered Held = refl
same-stage Answered Answered = refl

pub returns-then-port-ge-PORTS_U32 : goal.returns-then-port-ge-PORTS_U32
returns-then-port-ge-PORTS_U32 c = rw (le-ltb c.args.port 4 c.if-port-ge-PORTS_U32.true)

-- what is compared is the slot's stage in the record
compared : (c : After-ne) → let a = c.args in c.ne.result ≡ not (is_stage (as_stage a.needed) (stage_for a.port (decode a.device.now)))
compared c =
    let a = c.args in
    c.ne.ensures ∙ ap not (same-stage c.stage_at.result a.needed ∙ ap (is_stage (as_stage a.needed)) (c.stage_at.ensures ∙ sym (stage-read a.device.now a.port c.if-port-ge-PORTS_U32.false)))

not-true : (b : Bool) → not b ≡ true → b ≡ false
not-true true e = cc
not-true false e = refl

not-false : (b : Bool) → not b ≡ false → b ≡ true
not-false true e = refl
not-false false e = cc

pub returns-then-ne : goal.returns-then-ne
returns-then-ne c =
    rw (lt-ltb c.args.port 4 c.if-port-ge-PORTS_U32.false, not-true _ (sym (compared (goal.at.returns-then-ne c).After-ne) ∙ c.if-ne.true))

pub returns : goal.returns
returns c =
    rw (lt-ltb c.args.port 4 c.if-port-ge-PORTS_U32.false, not-false _ (sym (compared (goal.at.returns c).After-ne) ∙ c.if-ne.false))

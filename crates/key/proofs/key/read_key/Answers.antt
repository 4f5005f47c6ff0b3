use Rattle.wire.proofs.ChoiceLaws.{told}
use mathlib.Core.Path.{◌∙◌, sym}
use native.Mathlib.Omega.{arith}
use Rattle.wire.specs.Parts.{part}
use Rattle.wire.proofs.PartsLaws.{number_of, number-first}
use Rattle.model.specs.Sizes.{sector_size}
use Rattle.key.proofs.VerdictLaws.{with-lock, with-action, with-long, with-fill, with-timer, with-feature, with-table}
use Rattle.key.proofs.key.read_key.Goals as goal

pub returns-then-locked : goal.returns-then-locked
returns-then-locked c =
    let a = c.args in
    λ d lock size.
    with-lock a.locked a.visible (part a.area.now a.at sector_size) d lock size c.if-locked.true

pub returns-then-not-between : goal.returns-then-not-between
returns-then-not-between c =
    let a = c.args in
    λ d lock size.
    with-action a.locked a.visible (part a.area.now a.at sector_size) d lock size c.if-locked.false
    (rw (number-first 2 a.area.now a.at sector_size (omega arith) c.get-action.ensures) (told c.between.ensures c.if-not-between.true))

pub returns-then-action-eq-ACTION_LONG : goal.returns-then-action-eq-ACTION_LONG
returns-then-action-eq-ACTION_LONG c =
    let a = c.args in
    let k = part a.area.now a.at sector_size in
    λ d lock size.
    c.long_key.ensures k (number_of 2 a.area.now a.at sector_size 2 (omega arith) c.get-function.ensures)
    (number_of 8 a.area.now a.at sector_size 4 (omega arith) c.get.ensures)
    ∙ with-long a.locked a.visible k d lock size c.if-locked.false (number-first 2 a.area.now a.at sector_size (omega arith) c.get-action.ensures ∙ c.if-action-eq-ACTION_LONG.true)

pub returns-then-action-eq-ACTION_FILL : goal.returns-then-action-eq-ACTION_FILL
returns-then-action-eq-ACTION_FILL c =
    let a = c.args in
    let k = part a.area.now a.at sector_size in
    λ d lock size.
    c.fill_key.ensures k (number_of 2 a.area.now a.at sector_size 2 (omega arith) c.get-function.ensures)
    (number_of 8 a.area.now a.at sector_size 4 (omega arith) c.get-then-action-eq-ACTION_FILL.ensures)
    (number_of 8 a.area.now a.at sector_size 12 (omega arith) c.get-then-action-eq-ACTION_FILL-2.ensures)
    ∙ with-fill a.locked a.visible k d lock size c.if-locked.false (number-first 2 a.area.now a.at sector_size (omega arith) c.get-action.ensures ∙ c.if-action-eq-ACTION_FILL.true)

pub returns-then-action-eq-ACTION_TIMER : goal.returns-then-action-eq-ACTION_TIMER
returns-then-action-eq-ACTION_TIMER c =
    let a = c.args in
    let k = part a.area.now a.at sector_size in
    λ d lock size.
    c.timer_key.ensures k (number_of 2 a.area.now a.at sector_size 2 (omega arith) c.get-function.ensures) (number_of 2 a.area.now a.at sector_size 4 (omega arith) c.get-name.ensures) (number_of 2 a.area.now a.at sector_size 6 (omega arith) c.get-value.ensures)
    ∙ with-timer a.locked a.visible k d lock size c.if-locked.false (number-first 2 a.area.now a.at sector_size (omega arith) c.get-action.ensures ∙ c.if-action-eq-ACTION_TIMER.true)

pub returns-then-action-eq-ACTION_FEATURE : goal.returns-then-action-eq-ACTION_FEATURE
returns-then-action-eq-ACTION_FEATURE c =
    let a = c.args in
    let k = part a.area.now a.at sector_size in
    λ d lock size.
    c.feature_key.ensures k (number_of 2 a.area.now a.at sector_size 2 (omega arith) c.get-function.ensures) (number_of 2 a.area.now a.at sector_size 4 (omega arith) c.get-name.ensures) (number_of 2 a.area.now a.at sector_size 6 (omega arith) c.get-value.ensures)
    (number_of 2 a.area.now a.at sector_size 8 (omega arith) c.get-then-action-eq-ACTION_FEATURE.ensures)
    ∙ with-feature a.locked a.visible k d lock size c.if-locked.false (number-first 2 a.area.now a.at sector_size (omega arith) c.get-action.ensures ∙ c.if-action-eq-ACTION_FEATURE.true)

pub returns : goal.returns
returns c =
    let a = c.args in
    let k = part a.area.now a.at sector_size in
    let w = number-first 2 a.area.now a.at sector_size (omega arith) c.get-action.ensures in
    λ d lock size.
    c.table_key.ensures k (number_of 2 a.area.now a.at sector_size 2 (omega arith) c.get-function.ensures) (number_of 2 a.area.now a.at sector_size 4 (omega arith) c.get-name.ensures)
    ∙ with-table a.locked a.visible k d lock size c.if-locked.false (rw w (told c.between.ensures c.if-not-between.false))
    (λ e. c.if-action-eq-ACTION_LONG.false (sym w ∙ e))
    (λ e. c.if-action-eq-ACTION_FILL.false (sym w ∙ e))
    (λ e. c.if-action-eq-ACTION_TIMER.false (sym w ∙ e))
    (λ e. c.if-action-eq-ACTION_FEATURE.false (sym w ∙ e))

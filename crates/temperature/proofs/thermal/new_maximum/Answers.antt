use mir.Syntax.{w8}
use mir.Val.{SFits}
use borrow.Author.Rules.{rules}
use Rattle.std.proofs.lemmas.Int.{to_z-of_z}
use borrow.Author.Tests.{eq-eqb, ne_eqb}
use Rattle.model.specs.Temperature.{new_maximum}
use Rattle.temperature.proofs.ThermalLaws.{maximum-old, maximum-sample}
use Rattle.temperature.proofs.thermal.new_maximum.Goals as goal

pub returns-then-sample-eq-MISSING : goal.returns-then-sample-eq-MISSING
unfolding new_maximum
returns-then-sample-eq-MISSING c = rw (eq-eqb c.args.sample 128 c.if-sample-eq-MISSING.true)

pub returns-then-old-eq-MISSING : goal.returns-then-old-eq-MISSING
unfolding new_maximum
returns-then-old-eq-MISSING c = rw (ne_eqb c.args.sample 128 c.if-sample-eq-MISSING.false, eq-eqb c.args.old 128 c.if-old-eq-MISSING.true)

pub returns-then-cast_signed : goal.returns-then-cast_signed
returns-then-cast_signed c =
    let new : SFits w8 c.cast_signed.result = search rules in
    let held : SFits w8 c.cast_signed-2.result = search rules in
    maximum-old c.args.sample c.args.old c.if-sample-eq-MISSING.false c.if-old-eq-MISSING.false
    (rw (to_z-of_z, to_z-of_z, c.cast_signed.ensures, c.cast_signed-2.ensures) at c.if-cast_signed.true)

pub returns : goal.returns
returns c =
    let new : SFits w8 c.cast_signed.result = search rules in
    let held : SFits w8 c.cast_signed-2.result = search rules in
    maximum-sample c.args.sample c.args.old c.if-sample-eq-MISSING.false c.if-old-eq-MISSING.false
    (rw (to_z-of_z, to_z-of_z, c.cast_signed.ensures, c.cast_signed-2.ensures) at c.if-cast_signed.false)

use mathlib.Core.Path.{sym, ◌∙◌}
use mathlib.Core.Bool.{true, false}
use Rattle.model.proofs.ImageLaws.{readable-parts}
use Rattle.image.proofs.ImageAnswers.{read-long, read-bad, read-disk}
use Rattle.image.proofs.UsedLaws.{readable-used, whole-used, disk-used}
use Rattle.image.proofs.refusal.image_checks.Goals as goal

pub returns-then-used-image : goal.returns-then-used-image
returns-then-used-image c = let a = c.args in read-long a.native a.image.now a.used c.if-used-image.true

pub returns-then-not-readable : goal.returns-then-not-readable
returns-then-not-readable c =
    let a = c.args in
    read-bad a.native a.image.now a.used c.if-used-image.false
    (sym (readable-used a.image.now a.used c.if-used-image.false) ∙ sym c.readable.ensures ∙ c.if-not-readable.true)

pub same_disk-requires : goal.same_disk-requires
same_disk-requires c =
    let a = c.args in
    let fits = c.if-used-image.false in
    let reads = sym (readable-used a.image.now a.used fits) ∙ sym c.readable.ensures ∙ c.if-not-readable.false in
    whole-used a.image.now a.used fits (readable-parts a.image.now a.used reads).multiple

pub returns-then-not-same_disk : goal.returns-then-not-same_disk
returns-then-not-same_disk c =
    let a = c.args in
    let fits = c.if-used-image.false in
    let reads = sym (readable-used a.image.now a.used fits) ∙ sym c.readable.ensures ∙ c.if-not-readable.false in
    read-disk a.native a.image.now a.used fits reads false
    (sym (disk-used a.image.now a.used fits a.native (readable-parts a.image.now a.used reads).multiple) ∙ sym c.same_disk.ensures ∙ c.if-not-same_disk.true)

pub returns : goal.returns
returns c =
    let a = c.args in
    let fits = c.if-used-image.false in
    let reads = sym (readable-used a.image.now a.used fits) ∙ sym c.readable.ensures ∙ c.if-not-readable.false in
    read-disk a.native a.image.now a.used fits reads true
    (sym (disk-used a.image.now a.used fits a.native (readable-parts a.image.now a.used reads).multiple) ∙ sym c.same_disk.ensures ∙ c.if-not-same_disk.false)

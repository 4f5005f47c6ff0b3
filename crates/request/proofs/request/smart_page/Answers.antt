use borrow.Author.Tests.{eq-eqb, ne_eqb}
use Rattle.model.specs.Registers.{smart_log}
use Rattle.request.proofs.request.smart_page.Goals as goal

pub returns-then-mid-ne-SMART_LBA_MID : goal.returns-then-mid-ne-SMART_LBA_MID
unfolding smart_log
returns-then-mid-ne-SMART_LBA_MID c = λ m f n p d h. rw (d, ne_eqb _ _ c.if-mid-ne-SMART_LBA_MID.true)

pub returns-then-high-ne-SMART_LBA_HIGH : goal.returns-then-high-ne-SMART_LBA_HIGH
unfolding smart_log
returns-then-high-ne-SMART_LBA_HIGH c = λ m f n p d h. rw (d, eq-eqb _ _ c.if-mid-ne-SMART_LBA_MID.false, h, ne_eqb _ _ c.if-high-ne-SMART_LBA_HIGH.true)

pub returns-then-feature-eq-SMART_READ_LOG : goal.returns-then-feature-eq-SMART_READ_LOG
unfolding smart_log
returns-then-feature-eq-SMART_READ_LOG c = λ m f n p d h.
    rw (d, eq-eqb _ _ c.if-mid-ne-SMART_LBA_MID.false, h, eq-eqb _ _ c.if-high-ne-SMART_LBA_HIGH.false, f, eq-eqb _ _ c.if-feature-eq-SMART_READ_LOG.true, p, n) c.log_page.ensures

pub returns-then-feature-eq-SMART_WRITE_LOG : goal.returns-then-feature-eq-SMART_WRITE_LOG
unfolding smart_log
returns-then-feature-eq-SMART_WRITE_LOG c = λ m f n p d h.
    rw (d, eq-eqb _ _ c.if-mid-ne-SMART_LBA_MID.false, h, eq-eqb _ _ c.if-high-ne-SMART_LBA_HIGH.false, f, ne_eqb _ _ c.if-feature-eq-SMART_READ_LOG.false, eq-eqb _ _ c.if-feature-eq-SMART_WRITE_LOG.true, p, n) c.log_page-then-feature-eq-SMART_WRITE_LOG.ensures

pub returns : goal.returns
unfolding smart_log
returns c = λ m f n p d h.
    rw (d, eq-eqb _ _ c.if-mid-ne-SMART_LBA_MID.false, h, eq-eqb _ _ c.if-high-ne-SMART_LBA_HIGH.false, f, ne_eqb _ _ c.if-feature-eq-SMART_READ_LOG.false, ne_eqb _ _ c.if-feature-eq-SMART_WRITE_LOG.false)

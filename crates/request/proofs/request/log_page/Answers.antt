use borrow.Author.Tests.{eq-eqb, ne_eqb}
use Rattle.model.specs.Registers.{log_page}
use Rattle.request.proofs.request.log_page.Goals as goal

pub returns-then-count-eq1 : goal.returns-then-count-eq1
unfolding log_page
returns-then-count-eq1 c = rw (eq-eqb _ _ c.if-page-eq-SCT_STATUS_LOG.true, eq-eqb _ _ c.if-count-eq1.true) c.control.ensures

pub returns-then-page-eq-SCT_STATUS_LOG : goal.returns-then-page-eq-SCT_STATUS_LOG
unfolding log_page
returns-then-page-eq-SCT_STATUS_LOG c = rw (eq-eqb _ _ c.if-page-eq-SCT_STATUS_LOG.true, ne_eqb _ _ c.if-count-eq1.false)

pub returns-then-page-eq-SCT_DATA_LOG : goal.returns-then-page-eq-SCT_DATA_LOG
unfolding log_page
returns-then-page-eq-SCT_DATA_LOG c = rw (ne_eqb _ _ c.if-page-eq-SCT_STATUS_LOG.false, eq-eqb _ _ c.if-page-eq-SCT_DATA_LOG.true)

pub returns : goal.returns
unfolding log_page
returns c = rw (ne_eqb _ _ c.if-page-eq-SCT_STATUS_LOG.false, ne_eqb _ _ c.if-page-eq-SCT_DATA_LOG.false)

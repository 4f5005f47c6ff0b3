use borrow.Author.Tests.{eq-eqb, ne_eqb}
use native.Mathlib.Omega.{arith}
use Rattle.model.specs.Registers.{request_of}
use Rattle.request.proofs.RequestBytes.{byte_of}
use Rattle.request.proofs.request.request_of.Goals as goal

pub returns-then-command : goal.returns-then-command
unfolding request_of
returns-then-command c =
    let a = c.args in
    rw (byte_of a.area.now a.at 11 (omega arith) c.get-command.ensures, eq-eqb _ _ c.if-command.true) c.smart_log.ensures

pub returns-then-command-eq-READ_LOG_EXT : goal.returns-then-command-eq-READ_LOG_EXT
unfolding request_of
returns-then-command-eq-READ_LOG_EXT c =
    let a = c.args in
    rw (byte_of a.area.now a.at 11 (omega arith) c.get-command.ensures, ne_eqb _ _ c.if-command.false, eq-eqb _ _ c.if-command-eq-READ_LOG_EXT.true) c.log_ext.ensures

pub returns-then-command-eq-WRITE_LOG_EXT : goal.returns-then-command-eq-WRITE_LOG_EXT
unfolding request_of
returns-then-command-eq-WRITE_LOG_EXT c =
    let a = c.args in
    rw (
      byte_of a.area.now a.at 11 (omega arith) c.get-command.ensures,
      ne_eqb _ _ c.if-command.false,
      ne_eqb _ _ c.if-command-eq-READ_LOG_EXT.false,
      eq-eqb _ _ c.if-command-eq-WRITE_LOG_EXT.true,
    )
    c.log_ext-then-command-eq-WRITE_LOG_EXT.ensures

pub returns-then-command-eq-READ_SECTORS_EXT : goal.returns-then-command-eq-READ_SECTORS_EXT
unfolding request_of
returns-then-command-eq-READ_SECTORS_EXT c =
    let a = c.args in
    rw (
      byte_of a.area.now a.at 11 (omega arith) c.get-command.ensures,
      ne_eqb _ _ c.if-command.false,
      ne_eqb _ _ c.if-command-eq-READ_LOG_EXT.false,
      ne_eqb _ _ c.if-command-eq-WRITE_LOG_EXT.false,
      eq-eqb _ _ c.if-command-eq-READ_SECTORS_EXT.true,
    )
    c.sector.ensures

pub returns-then-command-eq-WRITE_SECTORS_EXT : goal.returns-then-command-eq-WRITE_SECTORS_EXT
unfolding request_of
returns-then-command-eq-WRITE_SECTORS_EXT c =
    let a = c.args in
    rw (
      byte_of a.area.now a.at 11 (omega arith) c.get-command.ensures,
      ne_eqb _ _ c.if-command.false,
      ne_eqb _ _ c.if-command-eq-READ_LOG_EXT.false,
      ne_eqb _ _ c.if-command-eq-WRITE_LOG_EXT.false,
      ne_eqb _ _ c.if-command-eq-READ_SECTORS_EXT.false,
      eq-eqb _ _ c.if-command-eq-WRITE_SECTORS_EXT.true,
    )
    c.sector-then-command-eq-WRITE_SECTORS_EXT.ensures

pub returns : goal.returns
unfolding request_of
returns c =
    let a = c.args in
    rw (
      byte_of a.area.now a.at 11 (omega arith) c.get-command.ensures,
      ne_eqb _ _ c.if-command.false,
      ne_eqb _ _ c.if-command-eq-READ_LOG_EXT.false,
      ne_eqb _ _ c.if-command-eq-WRITE_LOG_EXT.false,
      ne_eqb _ _ c.if-command-eq-READ_SECTORS_EXT.false,
      ne_eqb _ _ c.if-command-eq-WRITE_SECTORS_EXT.false,
    )

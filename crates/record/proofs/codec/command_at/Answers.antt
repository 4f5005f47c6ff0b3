use Rattle.store.specs.Record.{decode}
use Rattle.record.proofs.codec.command_at.Goals as goal

pub returns : goal.returns
unfolding decode
returns c = record {
  code = c.code_at-code.ensures;
  action = c.get-action.ensures;
  function = c.get-function.ensures;
  fill = c.fill_at-fill.ensures;
}

use mathlib.Core.Path.{ap, ◌∙◌}
use mathlib.Core.List.{[], ◌∷◌}
use Prim.Native.Nat.{ℕ, ◌+◌}
use Rattle.wire.specs.Numbers.{get}
use Rattle.model.specs.Valid.{pending_count}
use Rattle.store.specs.Record.{slot_at, transfer_of}
use Rattle.record_check.proofs.clauses.port_count.Goals as goal

pub returns : goal.returns
returns c =
    let r = c.args.device.now in
    let at = slot_at c.args.i in
    let first = get 8 r (at + 8) in
    let end = get 8 r (at + 16) in
    record {
      value = c.count_of.ensures.by_index first end ∙ ap (λ (kind : ℕ). pending_count (transfer_of kind first end ∷ [])) c.get.ensures;
      small = c.count_of.ensures.small;
    }

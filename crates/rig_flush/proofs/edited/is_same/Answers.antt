use Rattle.std.proofs.Common.{sym, ap, ◌∙◌}
use Rattle.rig_flush.proofs.SameByEq.{by_eq}
use Rattle.rig_flush.proofs.SameRows.{both_marks}
use Rattle.rig_flush.proofs.edited.is_same.Goals as goal

pub returns-then-eq : goal.returns-then-eq
returns-then-eq c =
    both_marks c.args.old_nodes.now c.args.new_nodes.now c.args.old c.args.new c.op.result.now c.op-2.result.now c.op.ensures c.op-2.ensures
    (ap (λ same. same c.op.result.now c.op-2.result.now) (sym by_eq) ∙ sym c.eq.ensures ∙ c.if-eq.true)

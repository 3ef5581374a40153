use Rattle.std.proofs.Common.{sym, ◌∙◌}
use Rattle.rig_kernel.proofs.SameOperation.{same-operation}
use Rattle.rig_kernel.proofs.output.set_operation.Goals as goal

pub returns-then-eq : goal.returns-then-eq
returns-then-eq c = same-operation c.args.place.now c.args.op.now (sym c.eq.ensures ∙ c.if-eq.true)

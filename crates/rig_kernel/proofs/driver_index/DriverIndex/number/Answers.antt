use Rattle.std.proofs.Common.{◌≡◌, Some, Contains, slice_get, sym, subst}
use Rattle.std.specs.Prelude.{IfNone}
use Rattle.rig_kernel.proofs.OperationIndex.{at_number, no_number}
use Rattle.rig_kernel.proofs.driver_index.DriverIndex.number.Goals as goal

pub returns-in_err-index-clause-none : goal.returns-in_err-index-clause-none
returns-in_err-index-clause-none c =
    subst (λ r. IfNone r (Contains c.args.self.now c.args.op.now → ⊥)) (sym c.from_residual.ensures)
    (subst (λ ops. Contains ops c.args.op.now → ⊥) c.self.view_is (no_number c.self.inside.ops.keys c.args.op.now (sym c.in_err-index.ensures.found)))

pub returns-clause-some : goal.returns-clause-some
returns-clause-some c =
    subst (λ ops. slice_get ops c.in_ok-index.index ≡ Some c.args.op.now) c.self.view_is
    (at_number c.self.inside.ops.keys c.args.op.now c.in_ok-index.index (sym c.in_ok-index.ensures.index))

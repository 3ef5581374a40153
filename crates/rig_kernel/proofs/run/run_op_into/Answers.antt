use Rattle.std.proofs.Common.{◌≡◌, ◌∙◌, Some, false, ap, subst, w32}
use Rattle.std.proofs.lemmas.Int.{to_z-of_z}
use Rattle.rig_laws.specs.Kernel.{kernel}
use Rattle.rig_kernel.specs.Values.{value_of}
use Rattle.rig_kernel.proofs.Timed.{timed}
use Rattle.rig_laws.specs.OperationValue.{operation_value}
use Rattle.std.proofs.lemmas.Result.{IfOk-weaker}
use Rattle.rig_laws.specs.Follows.{value_from_inputs}
use Rattle.rig_kernel.specs.Values.{value_of}
use Rattle.rig_kernel.proofs.run.run_op_into.Goals as goal

pub new-requires : goal.new-requires
new-requires g c =
    let a = c.args in
    let inputs = g.I.Inputs.list a.inputs.now in
    let value = value_of c.in_ok-value.value in
    timed a.scene.now a.mode a.frame a.op.now inputs value c.requires.frame
    (subst (λ frame. kernel a.scene.now a.mode frame a.op.now inputs ≡ Some value) (to_z-of_z w32 a.frame c.ranges.frame) c.in_ok-value.ensures)

pub returns-clause-from_scratch : goal.returns-clause-from_scratch
returns-clause-from_scratch g c taken =
    let a = c.args in
    let inputs = g.I.Inputs.list a.inputs.now in
    let value = value_of c.in_ok-value.value in
    let given : kernel a.scene.now a.mode a.frame a.op.now inputs ≡ Some value =
    subst (λ frame. kernel a.scene.now a.mode frame a.op.now inputs ≡ Some value) (to_z-of_z w32 a.frame c.ranges.frame) c.in_ok-value.ensures in
    IfOk-weaker c.new.result (λ out. out ≡ record { op = a.op.now; value = value; is_rest = false })
    (λ out. out.value ≡ operation_value a.scene.now a.mode a.frame a.op.now)
    (λ out is. ap (λ o. o.value) is ∙ value_from_inputs a.scene.now c.conditions.ensures a.mode a.frame a.op.now inputs value c.requires.op taken given)
    c.new.ensures

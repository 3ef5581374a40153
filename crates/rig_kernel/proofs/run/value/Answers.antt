use Rattle.std.proofs.Common.{◌≡◌, Some, to_z, of_z, w32}
use Rattle.std.proofs.lemmas.Int.{to_z-of_z}
use Rattle.std.proofs.lemmas.Result.{IfOk-weaker}
use Rattle.rig_laws.specs.Kernel.{kernel}
use Rattle.rig_laws.specs.Output.{time_value}
use Rattle.rig_kernel.specs.Values.{value_of}
use Rattle.rig_kernel.specs.declared.value.Value.{Value}
use Rattle.rig_kernel.proofs.Timed.{time_is}
use Rattle.rig_kernel.proofs.run.value.Goals as goal

pub returns-in-Time : goal.returns-in-Time
returns-in-Time g c =
    let a = c.args in
    let inputs = g.I.Inputs.list a.inputs.now in
    let passed = to_z w32 (of_z w32 a.frame) in
    IfOk-weaker c.time.result (λ (v : Value). value_of v ≡ time_value passed) (λ (v : Value). kernel a.scene.now a.mode a.frame a.op.now inputs ≡ Some (value_of v))
    (λ v is. time_is a.scene.now a.mode a.frame passed a.op.now inputs (value_of v) c.in-Time.is (to_z-of_z w32 a.frame c.ranges.frame) is)
    c.time.ensures

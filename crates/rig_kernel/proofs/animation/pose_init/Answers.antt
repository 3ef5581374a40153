use Rattle.std.proofs.Common.{◌≡◌, Some, ℤ}
use Rattle.std.proofs.lemmas.Result.{IfOk-weaker}
use Rattle.rig_scene.specs.declared.modifier.Mode.{Mode}
use Rattle.rig_scene.specs.declared.operation.OpId.TheVariants.{PoseInit}
use Rattle.rig_scene.specs.Value.{Numbers}
use Rattle.rig_laws.specs.Kernel.{kernel}
use Rattle.rig_laws.specs.Output.{numbers_at}
use Rattle.rig_kernel.proofs.ActionOf.{posed_object, pose_init_is}
use Rattle.rig_kernel.proofs.animation.pose_init.Goals as goal

pub returns : goal.returns
returns g c =
    let s = c.args.scene.now in
    let o = c.args.o in
    let inputs = g.I.Inputs.list c.args.inputs.now in
    let object = posed_object s c.conditions.ensures o c.requires.op in
    IfOk-weaker c.copy_of_numbers.result (λ numbers. numbers ≡ numbers_at inputs 0)
    (λ numbers. (mode : Mode) (frame : ℤ) → kernel s mode frame (PoseInit o) inputs ≡ Some (Numbers numbers))
    (λ numbers is mode frame. pose_init_is s mode frame o inputs object.0 numbers object.1 c.requires.inputs is)
    c.copy_of_numbers.ensures

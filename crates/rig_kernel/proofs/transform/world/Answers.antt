use Rattle.std.proofs.Common.{ap, sym, ◌∙◌}
use Rattle.std.specs.Prelude.{Some, option_map}
use Rattle.rig_fixed.specs.Transform.{Transform as TransformRecord}
use Rattle.rig_scene.specs.declared.object.Object.{Object}
use Rattle.rig_scene.specs.declared.operation.OpId.TheVariants.{World}
use Rattle.rig_scene.specs.Value.{Transform}
use Rattle.rig_laws.specs.HasOperation.{operation_has}
use Rattle.rig_laws.specs.Kernel.{kernel, world_transform}
use Rattle.rig_kernel.proofs.transform.world.Goals as goal

pub object_of-requires : goal.object_of-requires
object_of-requires g c = λ met. operation_has c.args.scene.now met (World c.args.o) c.requires.op

pub returns : goal.returns
unfolding kernel
returns g c = λ mode frame.
    ap (option_map (λ (object : Object). Transform (world_transform object (g.I.Inputs.list c.args.inputs.now)))) c.object_of.ensures.object
    ∙ ap (λ (t : TransformRecord). Some (Transform t)) (sym c.world_transform.ensures)

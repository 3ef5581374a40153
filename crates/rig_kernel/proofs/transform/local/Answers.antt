use Rattle.std.proofs.Common.{ap, drop, sym, ◌∙◌}
use Rattle.std.specs.Prelude.{Some, option_map}
use Rattle.rig_fixed.specs.Transform.{Transform as TransformRecord}
use Rattle.rig_scene.specs.declared.channel.Channels.{Channels}
use Rattle.rig_scene.specs.declared.object.Object.{Object}
use Rattle.rig_scene.specs.declared.operation.OpId.TheVariants.{Local}
use Rattle.rig_scene.specs.Pose.{transform_of}
use Rattle.rig_scene.specs.Value.{Transform}
use Rattle.rig_laws.specs.HasOperation.{operation_has}
use Rattle.rig_kernel.specs.Driven.{channels_from}
use Rattle.rig_laws.specs.Kernel.{kernel, local_transform}
use Rattle.rig_kernel.proofs.NumbersOf.{local_is}
use Rattle.rig_kernel.proofs.transform.local.Goals as goal

pub object_of-object-requires : goal.object_of-object-requires
object_of-object-requires g c = λ met. operation_has c.args.scene.now met (Local c.args.o) c.requires.op

pub returns : goal.returns
unfolding kernel
returns g c = λ mode frame.
    let outs = g.I.Inputs.list c.args.inputs.now in
    let object = c.object_of-object.result.now in
    ap (option_map (λ (object : Object). Transform (local_transform c.args.scene.now object outs))) c.object_of-object.ensures.object
    ∙ ap (λ (t : TransformRecord). Some (Transform t))
    (sym
    (c.local_of.ensures ∙ ap (λ (channels : Channels). transform_of channels) c.channels_from.ensures
    ∙ (λ i. transform_of (channels_from (λ channel. c.own_curves-curves.ensures channel i) c.animation_numbers-numbers.result.now
    (c.driver_count-drivers.ensures.count i) (drop c.animation_count-from.result outs) object.own))
    ∙ local_is c.args.scene.now c.args.tables.now c.requires.tables c.args.o object c.object_of-object.ensures.object outs c.requires.inputs
    c.animation_numbers-numbers.result.now c.animation_numbers-numbers.ensures c.animation_count-from.result c.animation_count-from.ensures.count))

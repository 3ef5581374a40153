use Rattle.std.proofs.Common.{◌<◌, length, ap, arith}
use Rattle.rig_scene.specs.Scene.{SceneRecord}
use Rattle.rig_kernel.proofs.There.{geometry_object, is_there, same_found, no_other, pencil_within}
use Rattle.rig_kernel.proofs.geometry.pencil_of.Goals as goal

pub object_of-requires : goal.object_of-requires
object_of-requires c = λ met. is_there c.args.scene.now c.args.o 0 (geometry_object c.args.scene.now met c.args.o c.requires)

pub get-requires : goal.get-requires
get-requires c =
    let s = c.args.scene.now in
    let p = geometry_object s c.object_of.ensures.scene c.args.o c.requires in
    let within : c.in-Pencil.pencil < length s.pencils = pencil_within s c.args.o 0 p c.object_of.result.now c.object_of.ensures.object c.in-Pencil.pencil _ c.in-Pencil.is in
    omega (arith, within, ap (λ (s : SceneRecord). length s.pencils) c.scene.view_is)

pub unreachable-requires : goal.unreachable-requires
unreachable-requires c =
    let s = c.args.scene.now in
    let p = geometry_object s c.object_of.ensures.scene c.args.o c.requires in
    no_other c.object_of.result.now.kind p.pencil p.modifiers (same_found s c.args.o 0 p c.object_of.result.now c.object_of.ensures.object) c.in-Empty.is

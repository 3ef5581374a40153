use Rattle.std.proofs.Common.{◌≤◌, length, arith}
use Rattle.rig_kernel.proofs.There.{modifier_object, is_there, same_found, no_other, modifiers_enough}
use Rattle.rig_kernel.proofs.geometry.modifier_of.Goals as goal

pub object_of-requires : goal.object_of-requires
object_of-requires c = λ met. is_there c.args.scene.now c.args.o c.args.i (modifier_object c.args.scene.now met c.args.o c.args.i c.requires).1

pub overflow_sub-i : goal.overflow_sub-i
overflow_sub-i c = (modifier_object c.args.scene.now c.object_of.ensures.scene c.args.o c.args.i c.requires).0

pub get-requires : goal.get-requires
get-requires c =
    let s = c.args.scene.now in
    let p = modifier_object s c.object_of.ensures.scene c.args.o c.args.i c.requires in
    let enough : c.args.i ≤ length c.in-Pencil.modifiers = modifiers_enough s c.args.o c.args.i p.1 c.object_of.result.now c.object_of.ensures.object _ c.in-Pencil.modifiers c.in-Pencil.is in
    omega (arith, enough, p.0)

pub unreachable-requires : goal.unreachable-requires
unreachable-requires c =
    let s = c.args.scene.now in
    let p = modifier_object s c.object_of.ensures.scene c.args.o c.args.i c.requires in
    no_other c.object_of.result.now.kind p.1.pencil p.1.modifiers (same_found s c.args.o c.args.i p.1 c.object_of.result.now c.object_of.ensures.object) c.in-Empty.is

pub returns-clause-positive : goal.returns-clause-positive
returns-clause-positive c = omega (arith, (modifier_object c.args.scene.now c.object_of.ensures.scene c.args.o c.args.i c.requires).0)

use Rattle.std.proofs.Common.{◌≡◌, Some, ap, sym, subst, ◌∙◌, ◌<◌, length, ⊎_elim}
use Rattle.std.specs.Prelude.{slice_get}
use Rattle.std.proofs.lemmas.Option.{same_Some, slice_get_within}
use Rattle.rig_fixed.specs.Transform.{Transform as TransformRecord, compose}
use Rattle.rig_scene.specs.declared.armature.ArmatureData.{ArmatureData}
use Rattle.rig_scene.specs.Pose.{carried_by}
use Rattle.rig_scene.specs.Scene.{SceneRecord}
use Rattle.rig_scene.specs.Value.{Transform}
use Rattle.rig_kernel.proofs.PosedBones.{posed_bone, has_posed_object, not_empty, not_pencil, at_rest, same_rest, pose_is, bone_found, bone_gives}
use Rattle.rig_kernel.proofs.pose.bone.Goals as goal

pub object_of-object-requires : goal.object_of-object-requires
object_of-object-requires g c = λ met. has_posed_object c.args.scene.now met c.args.o c.args.b c.requires.op

pub returns-in-Empty : goal.returns-in-Empty
returns-in-Empty g c =
    let not_here = not_empty c.args.scene.now c.object_of-object.ensures.scene c.args.o c.args.b c.requires.op c.object_of-object.result.now c.object_of-object.ensures.object in
    let nor_here = not_pencil c.args.scene.now c.object_of-object.ensures.scene c.args.o c.args.b c.requires.op c.object_of-object.result.now c.object_of-object.ensures.object in
    ⊎_elim (λ e. absurd (not_here e)) (λ e. absurd (nor_here e.0 e.1 e.2)) c.in-Empty.is

pub get-data-requires : goal.get-data-requires
get-data-requires g c =
    let p = posed_bone c.args.scene.now c.object_of-object.ensures.scene c.args.o c.args.b c.requires.op c.object_of-object.result.now c.object_of-object.ensures.object
    c.in-Armature.armature c.in-Armature.pose c.in-Armature.is in
    subst (λ (s : SceneRecord). c.in-Armature.armature < length s.armatures) (sym c.scene.view_is) (slice_get_within c.args.scene.now.armatures c.in-Armature.armature p.armature p.is_armature)

pub get-bone-requires : goal.get-bone-requires
get-bone-requires g c =
    let p = posed_bone c.args.scene.now c.object_of-object.ensures.scene c.args.o c.args.b c.requires.op c.object_of-object.result.now c.object_of-object.ensures.object
    c.in-Armature.armature c.in-Armature.pose c.in-Armature.is in
    let same : p.armature ≡ c.get-data.result.now = same_Some p.armature c.get-data.result.now
    (sym p.is_armature ∙ ap (λ (s : SceneRecord). slice_get s.armatures c.in-Armature.armature) (sym c.scene.view_is) ∙ c.get-data.ensures) in
    subst (λ (a : ArmatureData). c.args.b < length a.bones) same p.here

pub rest-rest-requires : goal.rest-rest-requires
rest-rest-requires g c =
    at_rest c.args.scene.now c.args.tables.now c.requires.tables c.in-Armature.armature c.args.b c.get-data.result.now
    (ap (λ (s : SceneRecord). slice_get s.armatures c.in-Armature.armature) (sym c.scene.view_is) ∙ c.get-data.ensures) c.get-bone.result.now c.get-bone.ensures

pub get-requires : goal.get-requires
get-requires g c =
    (posed_bone c.args.scene.now c.object_of-object.ensures.scene c.args.o c.args.b c.requires.op c.object_of-object.result.now c.object_of-object.ensures.object
    c.in-Armature.armature c.in-Armature.pose c.in-Armature.is).posed

pub returns-in-Armature : goal.returns-in-Armature
returns-in-Armature g c = λ mode frame.
    let s = c.args.scene.now in
    let outs = g.I.Inputs.list c.args.inputs.now in
    let object = c.object_of-object.result.now in
    let index = c.in-Armature.armature in
    let armature = c.get-data.result.now in
    let bone = c.get-bone.result.now in
    let is_armature = ap (λ (s : SceneRecord). slice_get s.armatures c.in-Armature.armature) (sym c.scene.view_is) ∙ c.get-data.ensures in
    let parent = c.as_ref.ensures.value ∙ c.parent_of.ensures in
    let rest = same_rest s c.args.tables.now c.requires.tables index c.args.b armature is_armature bone c.get-bone.ensures c.rest-rest.result c.rest-rest.ensures in
    bone_gives s c.args.o object c.object_of-object.ensures.object index c.in-Armature.pose c.in-Armature.is armature is_armature c.args.b bone c.get-bone.ensures c.get.result.now c.get.ensures mode frame outs
    ∙ ap (λ (t : TransformRecord). Some (Transform t))
    (sym
    (c.bone_of.ensures
    ∙ (λ i. carried_by (parent i) (compose (rest i) (c.pose_of-posed.ensures i)))
    ∙ pose_is s c.args.tables.now c.requires.tables c.args.o object c.object_of-object.ensures.object c.args.b bone
    (bone_found s c.args.o object c.object_of-object.ensures.object index c.in-Armature.pose c.in-Armature.is armature is_armature c.args.b bone c.get-bone.ensures) outs c.requires.inputs c.get.result.now))

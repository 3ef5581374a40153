use Rattle.std.proofs.Common.{[], ◌∷◌, ◌++◌, length, map, sym, ap, ◌∙◌, arith}
use Rattle.std.specs.List.{flat_map, range_with_len}
use Rattle.rig_scene.specs.declared.operation.OpId.TheVariants.{PoseInit, Bone, PoseDone}
use Rattle.rig_scene.specs.Operations.{kind_operations}
use Rattle.rig_links.specs.Numbers.{numbered_links}
use Rattle.rig_links.proofs.OfKind.{armature_within, poses_are, pose_is, pencil_within, few_modifiers}
use Rattle.rig_links.proofs.Pushed.{one_pushed}
use Rattle.rig_links.proofs.scene_links.push_kind.Goals as goal

pub armature-requires : goal.armature-requires
armature-requires c = armature_within c.args.scene.now c.requires.scene c.args.object.now c.requires.object c.in-Armature.armature c.in-Armature.pose c.in-Armature.is

pub push_pose-requires-clause-pose : goal.push_pose-requires-clause-pose
push_pose-requires-clause-pose c =
    pose_is c.args.scene.now c.requires.scene c.args.object.now c.requires.object c.in-Armature.armature c.in-Armature.pose c.in-Armature.is c.armature.result.now c.armature.ensures.armature

pub push_pencil_object-requires-clause-pencil : goal.push_pencil_object-requires-clause-pencil
push_pencil_object-requires-clause-pencil c =
    pencil_within c.args.scene.now c.requires.scene c.args.object.now c.requires.object c.in-Pencil.pencil c.in-Pencil.modifiers c.in-Pencil.is

pub push_pencil_object-requires-clause-few : goal.push_pencil_object-requires-clause-few
push_pencil_object-requires-clause-few c =
    omega (arith, few_modifiers c.args.scene.now c.requires.scene c.args.object.now c.requires.object c.in-Pencil.pencil c.in-Pencil.modifiers c.in-Pencil.is, ap length c.as_slice.ensures)

pub returns-in-Armature : goal.returns-in-Armature
returns-in-Armature c =
    let o = c.args.object.now in
    one_pushed c.push_pose.result _ _ _ _
    (ap (flat_map (numbered_links c.args.scene.now))
    (ap (λ n. PoseInit o.id ∷ (map (Bone o.id) (range_with_len 0 n) ++ PoseDone o.id ∷ []))
    (sym (poses_are c.args.scene.now c.requires.scene o c.requires.object c.in-Armature.armature c.in-Armature.pose c.in-Armature.is c.armature.result.now c.armature.ensures.armature))
    ∙ ap (kind_operations o.id) (sym c.in-Armature.is)))
    c.push_pose.ensures

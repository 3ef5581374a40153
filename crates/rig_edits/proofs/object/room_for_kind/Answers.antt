use Rattle.std.proofs.Common.{arith}
use Rattle.rig_scene.specs.FactsHold.{scene_facts}
use Rattle.rig_edits.proofs.object.room_for_kind.Goals as goal

pub pose_bone_count-requires : goal.pose_bone_count-requires
pose_bone_count-requires c = (scene_facts _ c.scene.invariant.is_scene).objects.pose_bones

pub room_for-requires-clause-count : goal.room_for-requires-clause-count
room_for-requires-clause-count c = let room = (scene_facts _ c.scene.invariant.is_scene).objects.pose_bones in omega arith

pub room_for-requires-in-Pencil-clause-count : goal.room_for-requires-in-Pencil-clause-count
room_for-requires-in-Pencil-clause-count c = let room = (scene_facts _ c.scene.invariant.is_scene).objects.pencil_objects in omega arith

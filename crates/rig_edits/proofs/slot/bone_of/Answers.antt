use Rattle.rig_edits.proofs.SlotFacts.{armature_within}
use Rattle.rig_edits.proofs.slot.bone_of.Goals as goal

pub get-requires-2 : goal.get-requires-2
get-requires-2 c =
    armature_within _ c.scene.invariant.is_scene c.args.object c.get.result.now c.get.ensures c.in-Armature.armature c.in-Armature.pose c.in-Armature.is

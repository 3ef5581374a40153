use Rattle.std.proofs.Common.{length, ap}
use Rattle.rig_links.proofs.PoseNumbers.{pose_in_turn}
use Rattle.rig_links.proofs.Pushed.{three_pushed}
use Rattle.rig_links.proofs.pose.push_pose.Goals as goal

pub returns : goal.returns
returns c =
    three_pushed c.push_pose_done.result _ _ _ _ _ _ _ _ c.in_ok-push_pose_init.ensures c.in_ok-push_bones.ensures
    (pose_in_turn c.args.scene.now c.requires.scene c.args.object c.pose_start-start.result (length c.args.armature.now.bones) (length c.as_slice-bones.result.now) c.pose_start-start.ensures (ap length c.as_slice-bones.ensures) c.requires.pose)
    c.push_pose_done.ensures

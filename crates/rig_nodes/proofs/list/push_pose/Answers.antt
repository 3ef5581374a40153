use Rattle.std.proofs.Common.{arith}
use Rattle.rig_nodes.proofs.Pushed.{one_more}
use Rattle.rig_nodes.proofs.list.push_pose.Goals as goal

pub loop-bone-preserved : goal.loop-bone-preserved
loop-bone-preserved c = one_more _ 0 c.loop-bone.bone c.loop-bone.bone _ _ _ (omega arith) c.loop-bone.invariant c.in_ok-push-2.ensures.items

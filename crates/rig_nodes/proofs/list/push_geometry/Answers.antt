use Rattle.std.proofs.Common.{◌+◌, arith}
use Rattle.rig_nodes.proofs.Pushed.{one_more}
use Rattle.rig_nodes.proofs.list.push_geometry.Goals as goal

pub loop-before-preserved : goal.loop-before-preserved
loop-before-preserved c = one_more _ 1 c.loop-before.before (c.loop-before.before + 1) _ _ _ (omega arith) c.loop-before.invariant c.in_ok-push-2.ensures.items

use Rattle.std.proofs.Common.{arith}
use Rattle.rig_nodes.proofs.Pushed.{one_more}
use Rattle.rig_nodes.proofs.list.push_layers.Goals as goal

pub loop-layer-preserved : goal.loop-layer-preserved
loop-layer-preserved c = one_more _ 0 c.loop-layer.layer c.loop-layer.layer _ _ _ (omega arith) c.loop-layer.invariant c.in_ok-push.ensures.items

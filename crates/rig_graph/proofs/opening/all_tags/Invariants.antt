use Rattle.std.proofs.Common.{◌≡◌, ◌++◌, drop}
use Rattle.rig_graph.proofs.opening.all_tags.Given as goal

abbrev pub invariant-loop-op : goal.invariant-loop-op
invariant-loop-op l = l.tags ++ drop l.op-index l.op-items ≡ l.nodes

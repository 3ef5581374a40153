use Rattle.std.proofs.Common.{◌≡◌, take}
use Rattle.rig_flush.specs.Search.{with_nodes}
use Rattle.rig_flush.proofs.reached.add_all.Given as goal

abbrev pub invariant-loop-node : goal.invariant-loop-node
invariant-loop-node l = record {
  count : l.set.count ≡ l.initial.set.count;
  members : l.set.members ≡ with_nodes l.initial.set.members (take l.node-index l.nodes);
}

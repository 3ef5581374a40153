use Rattle.std.proofs.Common.{◌≡◌, ◌++◌, drop}
use Rattle.rig_graph.proofs.scene_copy.add_each.Given as goal

abbrev pub invariant-loop-n : goal.invariant-loop-n
invariant-loop-n l = record {
  count : l.set.count ≡ l.initial.set.count;
  members : l.set.members ++ drop l.n-index l.numbers ≡ l.initial.set.members ++ l.numbers;
}

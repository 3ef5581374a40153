use Rattle.std.proofs.Common.{◌≡◌, [], length, take}
use Rattle.rig_flush.specs.Search.{with_nodes}
use Rattle.rig_flush.specs.Tables.{numbers_of}
use Rattle.rig_flush.proofs.reached.add_tagged.Given as goal

abbrev pub invariant-loop-index : goal.invariant-loop-index
invariant-loop-index l = record {
  count : l.set.count ≡ length l.nodes;
  members : l.set.members ≡ with_nodes [] (numbers_of l.nodes (take l.index l.tags));
}

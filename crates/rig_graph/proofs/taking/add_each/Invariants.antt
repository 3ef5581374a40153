use Rattle.std.proofs.Common.{◌≡◌, take, length}
use Rattle.rig_graph.specs.Taking.{with_tags}
use Rattle.rig_graph.proofs.taking.add_each.Given as goal

abbrev pub invariant-loop-op : goal.invariant-loop-op
invariant-loop-op l = record {
  rest : with_tags l.nodes l.tags l.op-iterator.rest.items ≡ with_tags l.nodes l.fn.tags l.fn.ops;
  behind : take (length l.fn.tags) l.tags ≡ l.fn.tags;
}

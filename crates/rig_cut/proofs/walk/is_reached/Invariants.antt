use Rattle.std.proofs.Common.{◌≡◌, ◌-◌}
use Rattle.rig_cut.specs.Search.{IsSearched}
use Rattle.rig_cut.proofs.walk.is_reached.Given as goal

abbrev pub invariant-loop-next : goal.invariant-loop-next
invariant-loop-next l = record {
  count : l.found.count ≡ l.graph.nodes;
  searched : IsSearched l.graph l.cuts l.start l.found.members l.next;
}

abbrev pub decreases-loop-next : goal.decreases-loop-next
decreases-loop-next l = l.graph.nodes - l.next

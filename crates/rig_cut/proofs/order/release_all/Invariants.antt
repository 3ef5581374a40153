use Rattle.std.proofs.Common.{◌≡◌, ◌-◌}
use Rattle.rig_cut.specs.Release.{IsReleased}
use Rattle.rig_cut.proofs.order.release_all.Given as goal

abbrev pub invariant-loop-next : goal.invariant-loop-next
invariant-loop-next l = record {
  count : l.order.count ≡ l.graph.nodes;
  released : IsReleased l.graph l.cuts l.pending l.order.members l.next;
}

abbrev pub decreases-loop-next : goal.decreases-loop-next
decreases-loop-next l = l.graph.nodes - l.next

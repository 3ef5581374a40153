use Rattle.std.proofs.Common.{◌≡◌, ◌-◌}
use Rattle.rig_flush.specs.Search.{IsSpread}
use Rattle.rig_flush.proofs.reached.add_readers.Given as goal

abbrev pub invariant-loop-next : goal.invariant-loop-next
invariant-loop-next l = record {
  count : l.set.count ≡ l.initial.set.count;
  spread : IsSpread l.links.ins l.initial.set.members l.set.members l.next;
}

abbrev pub decreases-loop-next : goal.decreases-loop-next
decreases-loop-next l = l.set.count - l.next

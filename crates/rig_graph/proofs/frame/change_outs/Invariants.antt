use Rattle.std.proofs.Common.{◌≡◌, ◌<◌, length}
use Rattle.std.specs.List.{All}
use Rattle.std.specs.Vec.Iter.{into_iter_items}
use Rattle.rig_graph.specs.Parts.{changed}
use Rattle.rig_graph.proofs.frame.change_outs.Given as goal

abbrev pub invariant-loop-change : goal.invariant-loop-change
invariant-loop-change l = record {
  next : (goal.iterator-loop-change).can_next l.change-iterator;
  finite : (goal.iterator-loop-change).is_finite l.change-iterator;
  changed : changed l.outs (into_iter_items l.change-iterator) ≡ changed l.initial.outs (into_iter_items l.initial.change-iterator);
  within : All (λ c. c.place < length l.outs) (into_iter_items l.change-iterator);
}

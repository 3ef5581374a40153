use Rattle.std.proofs.Common.{◌≡◌, drop}
use Rattle.serde_json.specs.View.{items_view}
use Rattle.rig_scenejson.specs.Tests.{first, items_faults, items_after}
use Rattle.rig_scenejson.proofs.test.test_items.Given as goal

abbrev pub invariant-loop-index : goal.invariant-loop-index
invariant-loop-index g l = record {
  first : first (items_faults (g.T.Test.faults l.test) (g.T.Test.next l.test) 0 l.initial.before (items_view l.items)) ≡ first (items_faults (g.T.Test.faults l.test) (g.T.Test.next l.test) l.index l.before (items_view (drop l.index l.items)));
  next : items_after (g.T.Test.next l.test) l.initial.before (items_view l.items) ≡ items_after (g.T.Test.next l.test) l.before (items_view (drop l.index l.items));
}

use Rattle.std.proofs.Common.{◌≡◌, ◌++◌, length, drop}
use Rattle.serde_json.specs.View.{items_view}
use Rattle.rig_scenejson.specs.Given.{values}
use Rattle.rig_scenejson.specs.Tests.{first, items_faults, items_after}
use Rattle.rig_scriptjson.proofs.lists.read_items.Given as goal

abbrev pub invariant-loop-index : goal.invariant-loop-index
invariant-loop-index g l = record {
  read : l.list.items ++ values g.R.ItemReader.gives (items_view (drop l.index l.items)) ≡ values g.R.ItemReader.gives (items_view l.items);
  found : first (items_faults (g.R.ItemReader.faults l.reader) g.R.ItemReader.next l.index l.before (items_view (drop l.index l.items))) ≡ first (items_faults (g.R.ItemReader.faults l.reader) g.R.ItemReader.next 0 l.fn.before (items_view l.items));
  next : items_after g.R.ItemReader.next l.before (items_view (drop l.index l.items)) ≡ items_after g.R.ItemReader.next l.fn.before (items_view l.items);
  count : length l.list.items ≡ l.index;
}

use Rattle.std.proofs.Common.{◌≡◌, ◌++◌, drop}
use Rattle.serde_json.specs.View.{items_view}
use Rattle.rig_scenejson.specs.Tests.{first}
use Rattle.rig_scenejson.specs.Given.{values_from}
use Rattle.rig_scenejson.specs.PassTwo.{each_from}
use Rattle.rig_scenejson.proofs.reader.read_items.Given as goal

abbrev pub invariant-loop-index : goal.invariant-loop-index
invariant-loop-index g l = record {
  read : l.list.items ++ values_from (g.R.Reader.gives l.reader) l.index (items_view (drop l.index l.items)) ≡ values_from (g.R.Reader.gives l.reader) 0 (items_view l.items);
  found : first (each_from (g.R.Reader.faults l.reader) (g.R.Reader.next l.reader) l.index l.before (items_view (drop l.index l.items))) ≡ first (each_from (g.R.Reader.faults l.reader) (g.R.Reader.next l.reader) 0 l.fn.before (items_view l.items));
}

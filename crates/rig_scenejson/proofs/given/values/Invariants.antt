use Rattle.std.proofs.Common.{◌≡◌, ◌++◌, length, drop, vec_len, vec_capacity}
use Rattle.serde_json.specs.View.{items_view}
use Rattle.rig_scenejson.specs.Given.{values}
use Rattle.rig_scenejson.proofs.given.values.Given as goal

abbrev pub invariant-loop-item : goal.invariant-loop-item
invariant-loop-item g l = record {
  items : l.list.items ++ values g.T.Plain.given (items_view (drop l.item-index l.items)) ≡ values g.T.Plain.given (items_view l.items);
  len : vec_len l.list ≡ l.item-index;
  room : vec_capacity l.list ≡ length l.items;
}

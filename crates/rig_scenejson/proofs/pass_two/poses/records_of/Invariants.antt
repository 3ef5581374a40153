use Rattle.std.proofs.Common.{◌≡◌, ℕ, List, length, drop}
use Rattle.serde_json.specs.View.{items_view}
use Rattle.rig_scenejson.specs.Given.{pose_of_bone}
use Rattle.rig_scenejson.specs.Poses.{kept}
use Rattle.rig_scenejson.proofs.pass_two.poses.records_of.Given as goal

abbrev pub invariant-loop-item : goal.invariant-loop-item
invariant-loop-item l = record {
  long : length l.records.names ≡ length l.records.channels;
  kept : (bone : List ℕ) → kept l.records.names l.records.channels (pose_of_bone (items_view (drop l.item-index l.items)) bone) bone ≡ pose_of_bone (items_view l.items) bone;
}

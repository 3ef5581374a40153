use Rattle.std.proofs.Common.{◌≡◌, map, take}
use Rattle.rig_scenejson.specs.Given.{at_rest}
use Rattle.rig_scenejson.specs.Poses.{kept}
use Rattle.rig_scenejson.proofs.pass_two.poses.channels_of_each.Given as goal

abbrev pub invariant-loop-index : goal.invariant-loop-index
invariant-loop-index l = l.pose.items ≡ map (kept l.records.names l.records.channels at_rest) (take l.index l.bones)

use Rattle.std.proofs.Common.{◌≡◌, ◌≤◌, ◌+◌, drop}
use Rattle.rig_scene.specs.declared.limits.TheConstants.{MAX_RESULT_POINTS}
use Rattle.rig_scene.specs.Layer.{stroke_points}
use Rattle.rig_modifiers.proofs.count.point_count.Given as goal

abbrev pub invariant-loop-stroke : goal.invariant-loop-stroke
invariant-loop-stroke l = record {
  whole : l.count + stroke_points (drop l.stroke-index l.strokes) ≡ stroke_points l.strokes;
  within : l.count ≤ MAX_RESULT_POINTS;
}

use Rattle.std.proofs.Common.{◌≡◌, ◌≤◌, ◌+◌, drop}
use Rattle.rig_scene.specs.Layer.{stroke_points}
use Rattle.rig_kernel.proofs.geometry.point_count.Given as goal

abbrev pub invariant-loop-stroke : goal.invariant-loop-stroke
invariant-loop-stroke l = record {
  whole : l.count + stroke_points (drop l.stroke-index l.strokes) ≡ stroke_points l.strokes;
  within : l.count ≤ l.most;
}

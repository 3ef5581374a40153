use Rattle.std.proofs.Common.{◌≡◌, length, take, vec_len, vec_capacity}
use Rattle.rig_points.specs.Change.{point_under}
use Rattle.rig_scene.specs.Layer.{map_points}
use Rattle.rig_strokes.proofs.layer.strokes_under.Given as goal

abbrev pub invariant-loop-index : goal.invariant-loop-index
invariant-loop-index l = record {
  items : l.new.items ≡ map_points (point_under l.change) (take l.index l.strokes);
  len : vec_len l.new ≡ l.index;
  room : vec_capacity l.new ≡ length l.strokes;
}

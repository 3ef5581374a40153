use Rattle.std.proofs.Common.{◌≡◌, ◌*◌, length, map, take, vec_len, vec_capacity}
use Rattle.rig_points.specs.Shift.{point_on}
use Rattle.rig_points.proofs.shift.points_on.Given as goal

abbrev pub invariant-loop-pair : goal.invariant-loop-pair
invariant-loop-pair l = record {
  items : l.new.items ≡ map (point_on l.lines) (take (2 * l.pair) l.points);
  len : vec_len l.new ≡ 2 * l.pair;
  room : vec_capacity l.new ≡ length l.points;
}

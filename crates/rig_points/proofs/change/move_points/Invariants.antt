use Rattle.std.proofs.Common.{◌≡◌, ◌++◌, map, take, drop}
use Rattle.rig_fixed.specs.Vector.{v3_sum}
use Rattle.rig_points.proofs.change.move_points.Given as goal

abbrev pub invariant-loop-point : goal.invariant-loop-point
invariant-loop-point l =
    l.points ≡ map (λ p. v3_sum p l.offset) (take l.point-index l.initial.points) ++ drop l.point-index l.initial.points

use Rattle.std.proofs.Common.{◌≡◌, ◌++◌, map, take, drop}
use Rattle.rig_points.specs.Change.{reflection_over}
use Rattle.rig_points.proofs.change.reflect_points.Given as goal

abbrev pub invariant-loop-point : goal.invariant-loop-point
invariant-loop-point l =
    l.points ≡ map (reflection_over l.axes l.centre) (take l.point-index l.initial.points) ++ drop l.point-index l.initial.points

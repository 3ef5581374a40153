use Rattle.std.proofs.Common.{◌<◌, ◌^◌, ◌↔◌, drop}
use Rattle.rig_points.specs.Near.{AreNear}
use Rattle.rig_points.proofs.near.are_near.Given as goal

abbrev pub invariant-loop-point : goal.invariant-loop-point
invariant-loop-point l = ((l.bits < 2 ^ 40) × AreNear (drop l.point-index l.points)) ↔ AreNear l.points

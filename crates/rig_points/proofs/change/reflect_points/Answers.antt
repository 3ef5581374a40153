use Rattle.std.proofs.Common.{length, ◌<◌, arith}
use Rattle.rig_points.specs.Change.{reflection_over}
use Rattle.rig_points.proofs.InPlace.{changed_more}
use Rattle.rig_points.proofs.change.reflect_points.Goals as goal

pub loop-point-preserved : goal.loop-point-preserved
loop-point-preserved c =
    let within : c.loop-point.point-index < length c.args.points.now = omega arith in
    changed_more (reflection_over c.args.axes.now c.args.centre.now) c.args.points.now c.loop-point.points c.loop-point.point-index c.point-item.result _ within c.loop-point.invariant c.point-item.is c.reflection_over.ensures

use Rattle.std.proofs.Common.{length, ◌<◌, ◌∙◌, ap, arith}
use Rattle.rig_fixed.specs.Transform.{carry}
use Rattle.rig_fixed.specs.Vector.{v3_sum}
use Rattle.rig_points.proofs.InPlace.{changed_more}
use Rattle.rig_points.proofs.change.deform_points.Goals as goal

pub loop-point-preserved : goal.loop-point-preserved
loop-point-preserved c =
    let within : c.loop-point.point-index < length c.args.points.now = omega arith in
    changed_more (λ p. carry c.args.transform.now (v3_sum p c.args.offset.now)) c.args.points.now c.loop-point.points c.loop-point.point-index c.point-item.result _ within c.loop-point.invariant c.point-item.is (c.carry.ensures ∙ ap (carry c.args.transform.now) c.sum.ensures)

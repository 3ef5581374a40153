use Rattle.std.proofs.Common.{◌∙◌}
use Rattle.rig_points.specs.Change.{point_under}
use Rattle.rig_modifiers.proofs.Fewer.{fewer-map, after-err}
use Rattle.rig_modifiers.proofs.append.append_changed.Goals as goal

pub returns-in_err-points-clause-err : goal.returns-in_err-points-clause-err
returns-in_err-points-clause-err c =
    after-err _ c.from_residual.result (fewer-map (point_under c.args.change.now) c.args.strokes.now c.args.new.now.items c.loop-stroke.new.items c.loop-stroke.stroke-index c.loop-stroke-test.true c.loop-stroke.invariant)

pub returns-in_err-push-clause-err : goal.returns-in_err-push-clause-err
returns-in_err-push-clause-err c =
    after-err _ c.from_residual-in_err-push.result (fewer-map (point_under c.args.change.now) c.args.strokes.now c.args.new.now.items c.push.new.self.items c.loop-stroke.stroke-index c.loop-stroke-test.true (c.in_err-push.ensures.items ∙ c.loop-stroke.invariant))

use Rattle.std.proofs.Common.{◌∙◌}
use Rattle.rig_modifiers.proofs.Fewer.{after-err}
use Rattle.rig_modifiers.proofs.append.append_copies.Goals as goal

pub returns-in_err-copy-clause-err : goal.returns-in_err-copy-clause-err
returns-in_err-copy-clause-err c =
    after-err _ c.from_residual.result record { count = c.loop-stroke.stroke-index; fewer = c.loop-stroke-test.true; added = c.loop-stroke.invariant }

pub returns-in_err-push-clause-err : goal.returns-in_err-push-clause-err
returns-in_err-push-clause-err c =
    after-err _ c.from_residual-in_err-push.result record { count = c.loop-stroke.stroke-index; fewer = c.loop-stroke-test.true; added = c.in_err-push.ensures.items ∙ c.loop-stroke.invariant }

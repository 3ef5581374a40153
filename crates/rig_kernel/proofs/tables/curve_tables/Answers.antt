use Rattle.std.proofs.Common.{◌+◌, sym, subst, map, take}
use Rattle.std.specs.List.{AllZip}
use Rattle.rig_scene.specs.declared.action.Action.{Action}
use Rattle.rig_kernel.specs.declared.action_curves.ActionCurves.{ActionCurves}
use Rattle.rig_kernel.specs.Tables.{AreCurvesOf}
use Rattle.rig_kernel.proofs.TableRows.{one_more}
use Rattle.rig_kernel.proofs.tables.curve_tables.Goals as goal

abbrev Rows : ActionCurves → Action → Type 0
Rows t a = AreCurvesOf t (map (λ c. c.path) a.curves)

pub loop-action-preserved : goal.loop-action-preserved
loop-action-preserved c =
    subst (λ ts. AllZip Rows ts (take (c.loop-action.action-index + 1) c.args.actions.now)) (sym c.in_ok-push.ensures.ok)
    (one_more Rows c.loop-action.tables c.args.actions.now c.loop-action.action-index c.in_ok-action_curves.field-0 c.action-item.result
    c.loop-action.invariant c.loop-action-test.true c.action-item.is
    (subst (λ curves. AreCurvesOf c.in_ok-action_curves.field-0 (map (λ c. c.path) curves)) c.as_slice.ensures c.in_ok-action_curves.ensures))

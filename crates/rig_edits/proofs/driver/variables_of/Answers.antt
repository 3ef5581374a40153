use Rattle.std.proofs.Common.{ap, ◌∙◌, ◌++◌, drop, ◌+◌}
use Rattle.rig_edits.specs.Edited.{variables_of}
use Rattle.rig_edits.proofs.DriverFacts.{none_more, built_more, stopped}
use Rattle.rig_edits.proofs.driver.variables_of.Goals as goal

pub returns-in_err-variable_of : goal.returns-in_err-variable_of
returns-in_err-variable_of c =
    stopped c.from_residual.result _ _ _ _ c.from_residual.ensures.1 c.in_err-variable_of.ensures
    (none_more c.args.scene.now c.as_slice-variable-items.result.now c.loop-variable.variable-index c.variable-item.result c.loop-variable-test.true
    c.variable-item.is c.loop-variable.invariant.none).0

pub loop-variable-preserved : goal.loop-variable-preserved
loop-variable-preserved c = record {
  built =
      ap (λ xs. xs ++ variables_of c.args.scene.now (drop (c.loop-variable.variable-index + 1) c.as_slice-variable-items.result.now)) c.in_ok-push.ensures.ok
      ∙ built_more c.args.scene.now c.as_slice-variable-items.result.now c.loop-variable.variable-index c.variable-item.result c.loop-variable-test.true
      c.variable-item.is c.loop-variable.found c.in_ok-variable_of.field-0 c.in_ok-variable_of.ensures
      ∙ c.loop-variable.invariant.built;
  none =
      (none_more c.args.scene.now c.as_slice-variable-items.result.now c.loop-variable.variable-index c.variable-item.result c.loop-variable-test.true
      c.variable-item.is c.loop-variable.invariant.none).1;
}

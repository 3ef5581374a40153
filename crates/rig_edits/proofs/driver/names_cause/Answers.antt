use Rattle.std.proofs.Common.{ap, ◌∙◌, drop, ◌+◌}
use Rattle.rig_edits.specs.DriverCauses.{earlier, variables_causes}
use Rattle.rig_edits.proofs.DriverFacts.{causes_more}
use Rattle.rig_edits.proofs.driver.names_cause.Goals as goal

pub loop-variable-preserved : goal.loop-variable-preserved
loop-variable-preserved c =
    ap (λ f. earlier f (variables_causes c.args.scene.now (drop (c.loop-variable.variable-index + 1) c.as_slice-variable-items.result.now)))
    (c.first_of-found.ensures ∙ ap (earlier c.loop-variable.found) c.variable_cause.ensures)
    ∙ causes_more c.args.scene.now c.as_slice-variable-items.result.now c.loop-variable.variable-index c.variable-item.result c.loop-variable-test.true
    c.variable-item.is c.loop-variable.found
    ∙ c.loop-variable.invariant

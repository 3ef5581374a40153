use Rattle.std.proofs.Common.{◌≡◌, drop}
use Rattle.rig_edits.specs.DriverCauses.{earlier, channel_causes, variables_causes}
use Rattle.rig_edits.proofs.driver.names_cause.Given as goal

abbrev pub invariant-loop-variable : goal.invariant-loop-variable
invariant-loop-variable l =
    earlier l.found (variables_causes l.scene (drop l.variable-index l.variable-items))
    ≡ earlier (channel_causes l.scene l.id l.path) (variables_causes l.scene l.variables)

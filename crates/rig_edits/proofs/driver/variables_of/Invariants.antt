use Rattle.std.proofs.Common.{◌≡◌, ◌++◌, drop, None}
use Rattle.rig_edits.specs.DriverCauses.{variables_causes}
use Rattle.rig_edits.specs.Edited.{variables_of}
use Rattle.rig_edits.proofs.driver.variables_of.Given as goal

abbrev pub invariant-loop-variable : goal.invariant-loop-variable
invariant-loop-variable l = record {
  built : l.found ++ variables_of l.scene (drop l.variable-index l.variable-items) ≡ variables_of l.scene l.variables;
  none : variables_causes l.scene (drop l.variable-index l.variable-items) ≡ None;
}

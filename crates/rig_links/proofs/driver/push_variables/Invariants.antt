use Rattle.std.proofs.Common.{◌≡◌, ◌++◌, drop}
use Rattle.std.specs.List.{flat_map}
use Rattle.rig_links.specs.Parts.{of_variable}
use Rattle.rig_links.proofs.driver.push_variables.Given as goal

abbrev pub invariant-loop-variable : goal.invariant-loop-variable
invariant-loop-variable l =
    l.links.items ++ flat_map (of_variable l.scene l.reader) (drop l.variable-index l.variables)
    ≡ l.initial.links.items ++ flat_map (of_variable l.scene l.reader) l.variables

use Rattle.std.proofs.Common.{◌≡◌, ◌++◌, drop}
use Rattle.std.specs.List.{flat_map}
use Rattle.rig_scene.specs.Quantities.{variable_reads}
use Rattle.rig_quantities.proofs.read.variable_reads.Given as goal

abbrev pub invariant-loop-variable : goal.invariant-loop-variable
invariant-loop-variable l = l.list ++ flat_map (variable_reads l.scene) (drop l.variable-index l.variables) ≡ flat_map (variable_reads l.scene) l.variables

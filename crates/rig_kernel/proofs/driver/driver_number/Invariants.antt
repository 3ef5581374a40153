use Rattle.std.proofs.Common.{◌≡◌, ◌≤◌, ◌++◌, map, take, drop}
use Rattle.std.specs.List.{flat_map}
use Rattle.rig_scene.specs.declared.quantity.Quantity.TheVariants as quantity
use Rattle.rig_scene.specs.Operations.{variable_links}
use Rattle.rig_laws.specs.Kernel.{variable_numbers}
use Rattle.rig_laws.specs.Output.{link_of}
use Rattle.rig_kernel.proofs.driver.driver_number.Given as goal

abbrev pub invariant-loop-index : goal.invariant-loop-index
invariant-loop-index g l = record {
  links : map link_of (drop l.next (g.I.Inputs.list l.inputs)) ≡ flat_map (variable_links l.scene (quantity.Chan l.driver.id l.driver.path)) (drop l.index l.variables);
  numbers : take l.index l.numbers ++ variable_numbers l.scene (quantity.Chan l.driver.id l.driver.path) (drop l.index l.variables) (drop l.next (g.I.Inputs.list l.inputs))
      ≡ variable_numbers l.scene (quantity.Chan l.driver.id l.driver.path) l.variables (g.I.Inputs.list l.inputs);
  few : l.next ≤ l.index;
}

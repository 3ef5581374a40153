use Rattle.std.proofs.Common.{◌≡◌, ◌++◌, drop}
use Rattle.std.specs.List.{flat_map}
use Rattle.rig_nodes.specs.DriverRows.{drivers_at}
use Rattle.rig_scene.specs.declared.driver.Driver.{Driver as DriverRecord}
use Rattle.rig_scene.specs.declared.operation.OpId.TheVariants.{Driver}
use Rattle.rig_links.specs.Numbers.{numbered_links}
use Rattle.rig_links.proofs.driver.push_drivers.Given as goal

abbrev pub invariant-loop-index : goal.invariant-loop-index
invariant-loop-index l =
    l.links.items ++ flat_map (λ (d : DriverRecord). numbered_links l.scene (Driver d.id d.path)) (drivers_at l.scene.drivers (drop l.index-index l.row))
    ≡ l.initial.links.items ++ flat_map (λ (d : DriverRecord). numbered_links l.scene (Driver d.id d.path)) (drivers_at l.scene.drivers l.row)

use Rattle.std.proofs.Common.{◌≡◌, ◌++◌, map, take}
use Rattle.rig_scene.specs.declared.driver.Driver.{Driver as DriverRecord}
use Rattle.rig_scene.specs.declared.operation.OpId.TheVariants.{Driver}
use Rattle.rig_nodes.specs.DriverRows.{drivers_at}
use Rattle.rig_nodes.proofs.list.push_drivers.Given as goal

abbrev pub invariant-loop-index : goal.invariant-loop-index
invariant-loop-index l = l.ops.items ≡ l.initial.ops.items ++ map (λ (d : DriverRecord). Driver d.id d.path) (drivers_at l.drivers (take l.index-index l.row))

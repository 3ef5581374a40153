use Rattle.std.proofs.Common.{◌≡◌, map, take}
use Rattle.rig_scene.specs.declared.driver.Driver.{Driver}
use Rattle.rig_nodes.specs.Slots.{slot_of}
use Rattle.rig_nodes.proofs.drivers.driver_slots.Given as goal

abbrev pub invariant-loop-driver : goal.invariant-loop-driver
invariant-loop-driver l = l.slots.items ≡ map (λ (d : Driver). slot_of l.scene d.id) (take l.driver-index l.driver-items)

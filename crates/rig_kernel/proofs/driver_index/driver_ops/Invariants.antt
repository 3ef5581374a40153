use Rattle.std.proofs.Common.{◌≡◌, map, take}
use Rattle.rig_scene.specs.declared.operation.OpId.TheVariants.{Driver}
use Rattle.rig_kernel.proofs.driver_index.driver_ops.Given as goal

abbrev pub invariant-loop-driver : goal.invariant-loop-driver
invariant-loop-driver l = l.ops.items ≡ map (λ d. Driver d.id d.path) (take l.driver-index l.driver-items)

use Rattle.std.proofs.Common.{arith}
use Rattle.rig_nodes.proofs.Ids.{few_rows, few_drivers}
use Rattle.rig_nodes.proofs.list.operation_list.Goals as goal

pub overflow_add-at_least : goal.overflow_add-at_least
overflow_add-at_least c = omega (arith, few_rows _ c.scene.invariant.is_scene)

pub overflow_add-at_least-2 : goal.overflow_add-at_least-2
overflow_add-at_least-2 c = omega (arith, few_rows _ c.scene.invariant.is_scene)

pub overflow_add-at_least-3 : goal.overflow_add-at_least-3
overflow_add-at_least-3 c = omega (arith, few_rows _ c.scene.invariant.is_scene, few_drivers _ c.scene.invariant.is_scene)

pub overflow_mul-at_least : goal.overflow_mul-at_least
overflow_mul-at_least c = omega (arith, few_rows _ c.scene.invariant.is_scene)

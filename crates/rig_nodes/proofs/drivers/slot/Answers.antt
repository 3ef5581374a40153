use Rattle.std.proofs.Common.{◌<◌, subst, sym, arith}
use Rattle.std.specs.List.{AllPairs}
use Rattle.rig_scene.specs.declared.object.Object.{Object}
use Rattle.rig_scene.specs.FactsHold.{scene_facts}
use Rattle.rig_nodes.proofs.Ids.{index_fits}
use Rattle.rig_nodes.proofs.drivers.slot.Goals as goal

pub object_index-requires : goal.object_index-requires
object_index-requires c =
    subst (λ objects. AllPairs (λ (o p : Object). o.id.0 < p.id.0) objects) (sym c.as_slice.ensures) (scene_facts _ c.scene.invariant.is_scene).objects.ids_rise

pub overflow_add-result : goal.overflow_add-result
overflow_add-result c = omega (arith, index_fits _ c.scene.invariant.is_scene c.in-Object.object c.as_slice.result.now c.as_slice.ensures)

pub overflow_cast-result : goal.overflow_cast-result
overflow_cast-result c = omega (arith, index_fits _ c.scene.invariant.is_scene c.in-Object.object c.as_slice.result.now c.as_slice.ensures)

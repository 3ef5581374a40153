use Rattle.std.proofs.Common.{◌<◌, sym, subst}
use Rattle.std.specs.List.{AllPairs}
use Rattle.rig_scene.specs.declared.object.Object.{Object}
use Rattle.rig_scene.specs.FactsHold.{scene_facts}
use Rattle.rig_kernel.proofs.records.object_of.Goals as goal

pub object_with-requires-clause-rise : goal.object_with-requires-clause-rise
object_with-requires-clause-rise c =
    subst (λ objects. AllPairs (λ (o p : Object). o.id.0 < p.id.0) objects) (sym c.as_slice.ensures) (scene_facts _ c.scene.invariant.is_scene).objects.ids_rise

use Rattle.std.proofs.Common.{subst, sym}
use Rattle.rig_scene.specs.FactsHold.{scene_facts}
use Rattle.rig_text.proofs.Ids.{RiseById}
use Rattle.rig_text.proofs.names.object_of.Goals as goal

pub object_among-requires : goal.object_among-requires
object_among-requires c = subst RiseById (sym c.as_slice.ensures) (scene_facts _ c.scene.invariant.is_scene).objects.ids_rise

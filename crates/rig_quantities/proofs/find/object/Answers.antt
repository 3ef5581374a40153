use Rattle.std.proofs.Common.{◌∙◌, sym, ap, subst}
use Rattle.rig_scene.specs.Facts.{SceneFacts}
use Rattle.rig_scene.specs.FactsHold.{scene_facts}
use Rattle.rig_scene.specs.Scene.{SceneRecord}
use Rattle.rig_quantities.specs.Find.{object_at}
use Rattle.rig_quantities.proofs.SlotFacts.{index_finds}
use Rattle.rig_quantities.proofs.find.object.Goals as goal

pub returns : goal.returns
returns c =
    let facts = subst SceneFacts c.scene.view_is (scene_facts _ c.scene.invariant.is_scene) in
    c.object_at.ensures
    ∙ ap (λ objects. object_at objects c.object_index.result c.args.id) (c.as_slice.ensures ∙ ap (λ (s : SceneRecord). s.objects) c.scene.view_is)
    ∙ ap (λ i. object_at c.args.scene.now.objects i c.args.id) c.object_index.ensures
    ∙ sym (index_finds c.args.scene.now facts c.args.id)

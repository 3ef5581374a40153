use Rattle.std.proofs.Common.{subst, ap, ◌∙◌}
use Rattle.std.specs.Prelude.{slice_get}
use Rattle.rig_scene.specs.Facts.{SceneFacts}
use Rattle.rig_scene.specs.FactsHold.{scene_facts}
use Rattle.rig_scene.specs.Rising.{got}
use Rattle.rig_scene.specs.Scene.{SceneRecord}
use Rattle.rig_quantities.proofs.SlotFacts.{few_layers_if}
use Rattle.rig_quantities.proofs.find.pencil.Goals as goal

pub returns-clause-few_layers : goal.returns-clause-few_layers
returns-clause-few_layers c =
    let facts = subst SceneFacts c.scene.view_is (scene_facts _ c.scene.invariant.is_scene) in
    few_layers_if c.args.scene.now facts c.args.index c.get.result
    (got c.as_slice.result.now c.args.index c.get.result c.get.ensures.lookup.0 c.get.ensures.lookup.1
    ∙ ap (λ pencils. slice_get pencils c.args.index) (c.as_slice.ensures ∙ ap (λ (s : SceneRecord). s.pencils) c.scene.view_is))

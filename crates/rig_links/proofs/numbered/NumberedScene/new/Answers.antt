use Rattle.std.proofs.Common.{subst, ◌∙◌, ap}
use Rattle.std.specs.Prelude.{IsTrue}
use Rattle.rig_scene.specs.Scene.{SceneRecord}
use Rattle.rig_scene.specs.WellFormed.{is_scene}
use Rattle.rig_links.proofs.numbered.NumberedScene.new.Goals as goal

pub invariant_of-result : goal.invariant_of-result
invariant_of-result c = (
  subst (λ s. IsTrue (is_scene s)) c.scene.view_is c.scene.invariant.is_scene,
  c.requires,
  c.as_slice.ensures ∙ ap (λ (s : SceneRecord). s.drivers) c.scene.view_is,
)

use Rattle.std.proofs.Common.{sym, ap, ◌∙◌, subst}
use Rattle.std.specs.Prelude.{IsTrue, slice_get}
use Rattle.rig_scene.specs.Scene.{SceneRecord}
use Rattle.rig_scene.specs.WellFormed.{is_scene}
use Rattle.rig_edits.specs.declared.edit.NewKind.TheVariants as new
use Rattle.rig_edits.specs.declared.object.Data.TheVariants as block
use Rattle.rig_edits.specs.NewData.{IsDataOf}
use Rattle.rig_edits.proofs.NewObjects.{armature_found}
use Rattle.rig_edits.proofs.object.armature_named.Goals as goal

pub returns : goal.returns
returns c = (
  c.in_ok-index.ensures.found.0,
  subst (λ n. IsDataOf c.args.scene.now (new.Armature c.args.name.now) (block.Armature c.in_ok-index.index n)) (sym c.len.ensures)
      (armature_found c.args.scene.now (subst (λ s. IsTrue (is_scene s)) c.scene.view_is c.scene.invariant.is_scene) c.args.name.now c.in_ok-index.index
      c.get.result.now c.in_ok-index.ensures.found.1
      (ap (λ (s : SceneRecord). slice_get s.armatures c.in_ok-index.index) (sym c.scene.view_is) ∙ c.get.ensures)),
)

use Rattle.std.proofs.Common.{◌∙◌, slice_get, ap, subst}
use Rattle.std.specs.Prelude.{IsTrue}
use Rattle.rig_scene.specs.WellFormed.{is_scene}
use Rattle.rig_touch.proofs.Few.{few_bones_found}
use Rattle.rig_touch.proofs.find.armature_at.Goals as goal

pub returns-clause-few : goal.returns-clause-few
returns-clause-few c =
    let met = subst (λ s. IsTrue (is_scene s)) c.scene.view_is c.scene.invariant.is_scene in
    few_bones_found c.args.scene.now met (λ armature. armature.now) c.args.index c.armature_among.result
    (c.armature_among.ensures ∙ ap (λ armatures. slice_get armatures c.args.index) (c.as_slice.ensures ∙ ap (λ s. s.armatures) c.scene.view_is))

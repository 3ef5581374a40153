use Rattle.std.proofs.Common.{◌∙◌, slice_get, ap, subst}
use Rattle.std.specs.Prelude.{IsTrue}
use Rattle.rig_scene.specs.WellFormed.{is_scene}
use Rattle.rig_touch.proofs.Few.{few_layers_found}
use Rattle.rig_touch.proofs.find.pencil_at.Goals as goal

pub returns-clause-few : goal.returns-clause-few
returns-clause-few c =
    let met = subst (λ s. IsTrue (is_scene s)) c.scene.view_is c.scene.invariant.is_scene in
    few_layers_found c.args.scene.now met (λ pencil. pencil.now) c.args.index c.pencil_among.result
    (c.pencil_among.ensures ∙ ap (λ pencils. slice_get pencils c.args.index) (c.as_slice.ensures ∙ ap (λ s. s.pencils) c.scene.view_is))

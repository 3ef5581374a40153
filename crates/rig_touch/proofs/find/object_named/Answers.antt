use Rattle.std.proofs.Common.{◌∙◌, ap, subst}
use Rattle.std.specs.Prelude.{IsTrue}
use Rattle.std.specs.List.{find}
use Rattle.rig_scene.specs.Text.{same_text}
use Rattle.rig_scene.specs.WellFormed.{is_scene}
use Rattle.rig_touch.proofs.Few.{few_modifiers_found}
use Rattle.rig_touch.proofs.find.object_named.Goals as goal

pub returns-clause-few : goal.returns-clause-few
returns-clause-few c =
    let met = subst (λ s. IsTrue (is_scene s)) c.scene.view_is c.scene.invariant.is_scene in
    few_modifiers_found c.args.scene.now met (λ object. object.now) (λ o. same_text o.name c.args.name.now) c.named_object.result
    (c.named_object.ensures ∙ ap (find (λ o. same_text o.name c.args.name.now)) (c.as_slice.ensures ∙ ap (λ s. s.objects) c.scene.view_is))

use Rattle.std.proofs.Common.{◌≡◌, sym, ap, ◌∙◌, subst}
use Rattle.std.specs.Prelude.{slice_get}
use Rattle.std.proofs.lemmas.Option.{same_Some}
use Rattle.rig_scene.specs.declared.modifier.Modifier.{Modifier}
use Rattle.rig_scene.specs.declared.object.Object.{Object}
use Rattle.rig_scene.specs.Scene.{SceneRecord}
use Rattle.rig_scene.specs.Text.{same_text}
use Rattle.rig_edits.proofs.ModifierFacts.{modifier_cause-found}
use Rattle.rig_edits.specs.Modifiers.{stack_cause}
use Rattle.rig_edits.specs.Named.{modifiers_of}
use Rattle.rig_edits.specs.Steps.{FoundAt}
use Rattle.rig_edits.proofs.modifier.modifier_indices.Goals as goal

pub returns : goal.returns
returns c =
    let f = c.in_ok-object.ensures.1 in
    let g = c.in_ok-modifier.ensures in
    let name = c.args.modifier.now in
    let same : c.get.result.now ≡ f.element = same_Some c.get.result.now f.element
    (sym c.get.ensures ∙ ap (λ (s : SceneRecord). slice_get s.objects c.in_ok-object.object) c.scene.view_is ∙ f.is_at) in (
      modifier_cause-found c.args.scene.now c.args.object.now name f.element f.is_found ∙ ap (λ (o : Object). stack_cause o.kind name) (sym same) ∙ g.0,
      record {
        in_objects = f;
        in_stack = subst (λ (o : Object). FoundAt (λ (m : Modifier). same_text m.name name) (modifiers_of o.kind) c.in_ok-modifier.modifier) same g.1;
      },
    )

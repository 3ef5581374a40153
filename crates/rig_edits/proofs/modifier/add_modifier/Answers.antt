use Rattle.std.proofs.Common.{refl, sym, ◌∙◌, subst, ◌∷◌, ◌++◌, []}
use Rattle.std.specs.Prelude.{IsTrue}
use Rattle.rig_scene.specs.declared.modifier.Modifier.{Modifier}
use Rattle.rig_scene.specs.Scene.{SceneRecord}
use Rattle.rig_scene.specs.WellFormed.{is_scene}
use Rattle.rig_edits.specs.KeepsStacks.{keeps_add_modifier}
use Rattle.rig_edits.proofs.KeyCounts.{still_counted}
use Rattle.rig_edits.proofs.ModifierFacts.{objects_changed, add_cause, added}
use Rattle.rig_edits.specs.Modifiers.{stack_changed_at}
use Rattle.rig_edits.proofs.modifier.add_modifier.Goals as goal

pub invariant_of-scene-2 : goal.invariant_of-scene-2
invariant_of-scene-2 c =
    let s = c.args.scene.now in
    let object = c.args.object.now in
    let name = c.args.name.now in
    let viewport = c.args.viewport in
    let render = c.args.render in
    let effect = c.args.effect.now in
    let at = c.in_ok-object in
    let m : Modifier = record { name = c.in_ok-copy.field-0; viewport = viewport; render = render; effect = at.effect } in
    still_counted _ _ _ _ c.scene.invariant
    (subst (λ (t : SceneRecord). IsTrue (is_scene t))
    (sym (objects_changed c.scene.view_is (stack_changed_at (λ modifiers. modifiers ++ m ∷ []) at.object) c.push_modifier.new.objects
    c.in_ok-push_modifier.ensures.ok
    ∙ added s object name viewport render effect at.object m at.ensures.1 c.in_ok-copy.ensures refl refl))
    (keeps_add_modifier s object name viewport render effect (subst (λ (t : SceneRecord). IsTrue (is_scene t)) c.scene.view_is c.scene.invariant.is_scene)
    (add_cause s object name viewport render effect ∙ at.ensures.0))) refl refl

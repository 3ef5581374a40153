use Rattle.std.proofs.Common.{refl, sym, ◌∙◌, subst}
use Rattle.std.specs.Prelude.{IsTrue, remove}
use Rattle.rig_scene.specs.Scene.{SceneRecord}
use Rattle.rig_scene.specs.WellFormed.{is_scene}
use Rattle.rig_edits.specs.KeepsStacks.{keeps_remove_modifier}
use Rattle.rig_edits.proofs.KeyCounts.{still_counted}
use Rattle.rig_edits.proofs.ModifierFacts.{objects_changed, remove_cause, removed}
use Rattle.rig_edits.specs.Modifiers.{stack_changed_at}
use Rattle.rig_edits.proofs.modifier.remove_modifier.Goals as goal

pub invariant_of-scene : goal.invariant_of-scene
invariant_of-scene c =
    let s = c.args.scene.now in
    let at = c.in_ok-object in
    let is : IsTrue (is_scene s) = subst (λ (t : SceneRecord). IsTrue (is_scene t)) c.scene.view_is c.scene.invariant.is_scene in
    still_counted _ _ _ _ c.scene.invariant
    (subst (λ (t : SceneRecord). IsTrue (is_scene t))
    (sym (objects_changed c.scene.view_is (stack_changed_at (λ modifiers. remove modifiers at.modifier) at.object)
    c.drop_modifier.new.objects c.drop_modifier.ensures
    ∙ removed s c.args.object.now c.args.modifier.now at.object at.modifier at.ensures.1 is))
    (keeps_remove_modifier s c.args.object.now c.args.modifier.now is (remove_cause s c.args.object.now c.args.modifier.now ∙ at.ensures.0))) refl refl

pub returns : goal.returns
returns c =
    let s = c.args.scene.now in
    let at = c.in_ok-object in
    let is : IsTrue (is_scene s) = subst (λ (t : SceneRecord). IsTrue (is_scene t)) c.scene.view_is c.scene.invariant.is_scene in (
      remove_cause s c.args.object.now c.args.modifier.now ∙ at.ensures.0,
      objects_changed c.scene.view_is (stack_changed_at (λ modifiers. remove modifiers at.modifier) at.object)
          c.drop_modifier.new.objects c.drop_modifier.ensures
          ∙ removed s c.args.object.now c.args.modifier.now at.object at.modifier at.ensures.1 is,
    )

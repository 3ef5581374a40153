use Rattle.std.proofs.Common.{refl, sym, ◌∙◌, subst}
use Rattle.std.specs.Prelude.{IsTrue}
use Rattle.rig_scene.specs.Scene.{SceneRecord}
use Rattle.rig_scene.specs.WellFormed.{is_scene}
use Rattle.rig_edits.specs.Edited.{with_switch}
use Rattle.rig_edits.specs.KeepsStacks.{keeps_set_switch}
use Rattle.rig_edits.proofs.KeyCounts.{still_counted}
use Rattle.rig_edits.proofs.ModifierFacts.{objects_changed, switch_cause, switched}
use Rattle.rig_edits.specs.Modifiers.{stack_changed_at}
use Rattle.rig_edits.specs.Named.{update_at}
use Rattle.rig_edits.proofs.modifier.set_switch.Goals as goal

pub invariant_of-scene : goal.invariant_of-scene
invariant_of-scene c =
    let s = c.args.scene.now in
    let object = c.args.object.now in
    let modifier = c.args.modifier.now in
    let mode = c.args.mode in
    let on = c.args.on in
    let at = c.in_ok-object in
    still_counted _ _ _ _ c.scene.invariant
    (subst (λ (t : SceneRecord). IsTrue (is_scene t))
    (sym (objects_changed c.scene.view_is (stack_changed_at (update_at (with_switch mode on) at.modifier) at.object) c.switch.new.objects c.switch.ensures
    ∙ switched s object modifier at.object at.modifier at.ensures.1 mode on))
    (keeps_set_switch s object modifier mode on (subst (λ (t : SceneRecord). IsTrue (is_scene t)) c.scene.view_is c.scene.invariant.is_scene)
    (switch_cause s object modifier mode on ∙ at.ensures.0))) refl refl

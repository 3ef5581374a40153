use Rattle.std.proofs.Common.{refl, subst}
use Rattle.std.specs.Prelude.{IsTrue}
use Rattle.rig_scene.specs.WellFormed.{is_scene}
use Rattle.rig_edits.specs.KeepsAdded.{keeps_add_object}
use Rattle.rig_edits.proofs.KeyCounts.{still_counted}
use Rattle.rig_edits.proofs.NewObjects.{object_added}
use Rattle.rig_edits.proofs.object.add_object.Goals as goal

pub invariant_of-scene-2 : goal.invariant_of-scene-2
invariant_of-scene-2 c =
    let is = subst (λ s. IsTrue (is_scene s)) c.scene.view_is c.scene.invariant.is_scene in
    let kept = keeps_add_object c.args.scene.now c.args.name.now c.args.kind.now is c.in_ok-object_data.ensures.0 in
    still_counted _ _ _ _ c.scene.invariant
    (subst (λ s. IsTrue (is_scene s))
    (object_added _ c.args.scene.now c.args.name.now c.args.kind.now c.in_ok-object_data.object_data c.in_ok-object.object c.push.new.self
    c.scene.view_is c.in_ok-object_data.ensures.1 c.in_ok-object.ensures c.in_ok-push.ensures.ok) kept) refl refl

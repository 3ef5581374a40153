use Rattle.std.proofs.Common.{◌≡◌, Some, None, true, ap, ◌∙◌, sym, subst}
use Rattle.std.specs.Prelude.{IsTrue}
use Rattle.std.proofs.lemmas.Result.{err_from_is_err_and}
use Rattle.rig_scene.specs.Scene.{SceneRecord}
use Rattle.rig_scene.specs.Text.{same_text}
use Rattle.rig_scene.specs.WellFormed.{is_scene}
use Rattle.rig_scene.specs.declared.object.Object.{Object}
use Rattle.rig_scene.specs.declared.path.Path.TheVariants.{Bone}
use Rattle.rig_edits.specs.declared.edit.IdName.TheVariants as named
use Rattle.rig_edits.specs.declared.slot.Slot.TheVariants as slot
use Rattle.rig_edits.proofs.SlotFacts.{own_cause, own_slot, bone_cause, pose_slot}
use Rattle.rig_edits.specs.Slots.{channel_cause, IsSlotOf}
use Rattle.rig_edits.specs.Steps.{FoundAt}
use Rattle.rig_edits.proofs.slot.object_slot.Goals as goal

pub returns-in-Own : goal.returns-in-Own
returns-in-Own c =
    let is : IsTrue (is_scene c.args.scene.now) = subst (λ s. is_scene s ≡ true) c.scene.view_is c.scene.invariant.is_scene in
    let at : FoundAt (λ (o : Object). same_text o.name c.args.name.now) c.args.scene.now.objects c.in-Some.object =
    subst (λ os. FoundAt (λ (o : Object). same_text o.name c.args.name.now) os c.in-Some.object)
    (c.as_slice.ensures ∙ ap (λ (s : SceneRecord). s.objects) c.scene.view_is) c.in-Some.ensures in
    subst (λ path. (channel_cause c.args.scene.now (named.Object c.args.name.now) path ≡ None)
    × IsSlotOf c.args.scene.now (named.Object c.args.name.now) path (slot.Own c.in-Some.object c.in-Own.channel)) (sym c.in-Own.is) (
      own_cause c.args.scene.now is c.args.name.now c.in-Some.object at c.in-Own.channel,
      own_slot c.args.scene.now is c.args.name.now c.in-Some.object at c.in-Own.channel,
    )

pub returns-in_ok-bone-in-Bone : goal.returns-in_ok-bone-in-Bone
returns-in_ok-bone-in-Bone c =
    let is : IsTrue (is_scene c.args.scene.now) = subst (λ s. is_scene s ≡ true) c.scene.view_is c.scene.invariant.is_scene in
    let at : FoundAt (λ (o : Object). same_text o.name c.args.name.now) c.args.scene.now.objects c.in-Some.object =
    subst (λ os. FoundAt (λ (o : Object). same_text o.name c.args.name.now) os c.in-Some.object)
    (c.as_slice.ensures ∙ ap (λ (s : SceneRecord). s.objects) c.scene.view_is) c.in-Some.ensures in
    let bone = c.in_ok-bone-in-Bone.ensures at.element at.is_at in
    subst (λ path. (channel_cause c.args.scene.now (named.Object c.args.name.now) path ≡ None)
    × IsSlotOf c.args.scene.now (named.Object c.args.name.now) path (slot.Pose c.in-Some.object c.in_ok-bone-in-Bone.bone c.in-Bone.channel))
    (sym c.in-Bone.is) (
      bone_cause c.args.scene.now is c.args.name.now c.in-Some.object at c.in-Bone.bone c.in-Bone.channel ∙ bone.0,
      pose_slot c.args.scene.now is c.args.name.now c.in-Some.object at c.in-Bone.bone c.in-Bone.channel c.in_ok-bone-in-Bone.bone bone.1,
    )

pub returns-in_err-bone-in-Bone : goal.returns-in_err-bone-in-Bone
returns-in_err-bone-in-Bone c =
    let is : IsTrue (is_scene c.args.scene.now) = subst (λ s. is_scene s ≡ true) c.scene.view_is c.scene.invariant.is_scene in
    let at : FoundAt (λ (o : Object). same_text o.name c.args.name.now) c.args.scene.now.objects c.in-Some.object =
    subst (λ os. FoundAt (λ (o : Object). same_text o.name c.args.name.now) os c.in-Some.object)
    (c.as_slice.ensures ∙ ap (λ (s : SceneRecord). s.objects) c.scene.view_is) c.in-Some.ensures in
    let cause : channel_cause c.args.scene.now (named.Object c.args.name.now) (Bone c.in-Bone.bone c.in-Bone.channel) ≡ Some c.in_err-bone-in-Bone.field-0.0 =
    bone_cause c.args.scene.now is c.args.name.now c.in-Some.object at c.in-Bone.bone c.in-Bone.channel ∙ c.in_err-bone-in-Bone.ensures at.element at.is_at in
    let p = err_from_is_err_and c.from_residual.result c.from_residual.ensures.1 in
    rw (p.1, p.2, c.in-Bone.is) cause

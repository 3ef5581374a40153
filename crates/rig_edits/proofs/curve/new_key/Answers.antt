use Rattle.std.proofs.Common.{arith, ◌≡◌, None, Some, not, ap, ◌∙◌, subst, w32, w64, to_z, of_z}
use Rattle.std.proofs.lemmas.Int.{to_z-of_z}
use Rattle.rig_scene.specs.FactsHold.{scene_facts}
use Rattle.rig_scene.specs.Scene.{SceneRecord}
use Rattle.rig_scene.specs.WellFormed.{is_frame}
use Rattle.rig_edits.specs.declared.cause.EditCause.TheVariants.{OutOfRange}
use Rattle.rig_edits.specs.Conditions.{is_value, when}
use Rattle.rig_edits.proofs.CurvePlaceFacts.{set_key_cause}
use Rattle.rig_edits.specs.CurvePlaces.{room_cause}
use Rattle.rig_edits.proofs.KeyPlaceFacts.{frame_in_bits}
use Rattle.rig_edits.proofs.StepFacts.{refused}
use Rattle.rig_edits.proofs.curve.new_key.Goals as goal

pub room_for_key-requires-clause-within : goal.room_for_key-requires-clause-within
room_for_key-requires-clause-within c = omega (arith, c.scene.invariant.counts_keys, (scene_facts _ c.scene.invariant.is_scene).actions.keys)

pub returns-in_err-room_for_key : goal.returns-in_err-room_for_key
returns-in_err-room_for_key c =
    let s = c.args.scene.now in
    let action = c.args.action.now in
    let path = c.args.path.now in
    let at = c.in_ok-place in
    let frame : (when OutOfRange (not (is_frame c.args.frame)) ≡ None) × (c.in_ok-frame.frame ≡ c.args.frame) =
    subst (λ x. (when OutOfRange (not (is_frame x)) ≡ None) × (c.in_ok-frame.frame ≡ x)) (to_z-of_z w64 c.args.frame c.ranges.frame) c.in_ok-frame.ensures in
    let value : (when OutOfRange (not (is_value c.args.value)) ≡ None) × (c.in_ok-value.value ≡ c.args.value) =
    subst (λ x. (when OutOfRange (not (is_value x)) ≡ None) × (c.in_ok-value.value ≡ x)) (to_z-of_z w64 c.args.value c.ranges.value) c.in_ok-value.ensures in
    let room : room_cause s.actions at.place c.args.frame ≡ Some c.in_err-room_for_key.field-0.0 =
    subst (λ (s : SceneRecord). room_cause s.actions at.place c.args.frame ≡ Some c.in_err-room_for_key.field-0.0) c.scene.view_is
    (subst (λ f. room_cause c.scene.inside.actions at.place f ≡ Some c.in_err-room_for_key.field-0.0)
    (ap (λ f. to_z w32 (of_z w32 f)) frame.1 ∙ frame_in_bits c.args.frame frame.0) c.in_err-room_for_key.ensures) in
    refused c.from_residual-in_err-room_for_key.result _ c.in_err-room_for_key.field-0.0 _ c.from_residual-in_err-room_for_key.ensures.1
    (set_key_cause s action path at.place at.ensures.0 at.ensures.1 c.args.frame frame.0 c.args.value c.args.interp value.0 ∙ room)

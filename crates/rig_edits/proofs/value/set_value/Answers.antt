use Rattle.std.proofs.Common.{◌≡◌, None, not, refl, subst, w64}
use Rattle.std.proofs.lemmas.Int.{to_z-of_z}
use Rattle.rig_edits.specs.declared.cause.EditCause.TheVariants.{OutOfRange}
use Rattle.rig_edits.specs.declared.slot.Slot.TheVariants.{Own, Pose, Layer}
use Rattle.rig_edits.specs.Conditions.{is_value, when}
use Rattle.rig_edits.proofs.KeyCounts.{still_counted, layer_keys_kept}
use Rattle.rig_edits.proofs.ValueFacts.{value_kept}
use Rattle.rig_edits.proofs.value.set_value.Goals as goal

pub invariant_of-scene : goal.invariant_of-scene
invariant_of-scene c =
    let in_range : (when OutOfRange (not (is_value c.args.value)) ≡ None) × (c.in_ok-value.value ≡ c.args.value) =
    subst (λ x. (when OutOfRange (not (is_value x)) ≡ None) × (c.in_ok-value.value ≡ x)) (to_z-of_z w64 c.args.value c.ranges.value) c.in_ok-value.ensures in
    rw c.set_own.ensures (still_counted _ _ _ _ c.scene.invariant
    (value_kept _ c.args.scene.now c.scene.view_is c.scene.invariant.is_scene c.args.id.now c.args.path.now c.in_ok-slot.slot
    (Own c.in-Own.object c.in-Own.channel) c.in-Own.is c.in_ok-slot.ensures c.args.value c.in_ok-value.value in_range) refl refl)

pub invariant_of-scene-in-Pose : goal.invariant_of-scene-in-Pose
invariant_of-scene-in-Pose c =
    let in_range : (when OutOfRange (not (is_value c.args.value)) ≡ None) × (c.in_ok-value.value ≡ c.args.value) =
    subst (λ x. (when OutOfRange (not (is_value x)) ≡ None) × (c.in_ok-value.value ≡ x)) (to_z-of_z w64 c.args.value c.ranges.value) c.in_ok-value.ensures in
    rw c.set_pose.ensures (still_counted _ _ _ _ c.scene.invariant
    (value_kept _ c.args.scene.now c.scene.view_is c.scene.invariant.is_scene c.args.id.now c.args.path.now c.in_ok-slot.slot
    (Pose c.in-Pose.object c.in-Pose.bone c.in-Pose.channel) c.in-Pose.is c.in_ok-slot.ensures c.args.value c.in_ok-value.value in_range) refl refl)

pub invariant_of-scene-in-Layer : goal.invariant_of-scene-in-Layer
invariant_of-scene-in-Layer c =
    let in_range : (when OutOfRange (not (is_value c.args.value)) ≡ None) × (c.in_ok-value.value ≡ c.args.value) =
    subst (λ x. (when OutOfRange (not (is_value x)) ≡ None) × (c.in_ok-value.value ≡ x)) (to_z-of_z w64 c.args.value c.ranges.value) c.in_ok-value.ensures in
    rw c.set_offset.ensures (still_counted _ _ _ _ c.scene.invariant
    (value_kept _ c.args.scene.now c.scene.view_is c.scene.invariant.is_scene c.args.id.now c.args.path.now c.in_ok-slot.slot
    (Layer c.in-Layer.pencil c.in-Layer.layer c.in-Layer.axis) c.in-Layer.is c.in_ok-slot.ensures c.args.value c.in_ok-value.value in_range) refl
    (layer_keys_kept _ (λ l. refl) c.in-Layer.pencil c.in-Layer.layer c.scene.inside.pencils))

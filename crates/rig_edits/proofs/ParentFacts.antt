-- An object's parent is set at the index of the object.
use Rattle.std.proofs.Common.{◌≡◌, ℕ, ◌<◌, ◌≤◌, Bool, true, false, ◌||◌, List, [], length, slice_get, Option, Some, None, refl, sym, ap, ◌∙◌, subst, arith}
use Rattle.std.specs.Prelude.{IsTrue, option_and_then}
use Rattle.std.specs.List.{position}
use Rattle.std.specs.Option.{option_map_or, option_or}
use Rattle.std.proofs.lemmas.Option.{none-some}
use Rattle.rig_scene.specs.declared.armature.ArmatureData.{ArmatureData}
use Rattle.rig_scene.specs.declared.armature.RestBone.{RestBone}
use Rattle.rig_scene.specs.declared.limits.TheConstants.{MAX_BONES}
use Rattle.rig_scene.specs.declared.object.Kind.{Kind}
use Rattle.rig_scene.specs.declared.object.Kind.TheVariants.{Empty, Armature, Pencil}
use Rattle.rig_scene.specs.declared.object.Object.{Object}
use Rattle.rig_scene.specs.declared.object.Parent.{Parent}
use Rattle.rig_scene.specs.Facts.{ArmatureFacts}
use Rattle.rig_scene.specs.FactsHold.{scene_facts}
use Rattle.rig_scene.specs.Scene.{SceneRecord}
use Rattle.rig_scene.specs.Text.{same_text}
use Rattle.rig_scene.specs.WellFormed.{is_scene}
use Rattle.rig_edits.specs.declared.cause.EditCause.TheVariants.{UnknownId, WrongKind, UnknownPart}
use Rattle.rig_edits.specs.declared.edit.Edit.TheVariants.{SetParent}
use Rattle.rig_edits.specs.declared.edit.NewParent.{NewParent}
use Rattle.rig_edits.specs.Conditions.{lacks_object, has_no_bones, lacks_bone, when, first_cause}
use Rattle.rig_edits.specs.Edited.{parent_of}
use Rattle.rig_edits.specs.KeepsObjects.{keeps_set_parent}
use Rattle.rig_edits.specs.Named.{bone_index, update_at}
use Rattle.rig_edits.specs.Lists.{position_within}
use Rattle.rig_edits.specs.Replaced.{All-slice_get}
use Rattle.rig_edits.proofs.FirstPassing.{updated_first}
use Rattle.rig_edits.specs.Steps.{FoundAt}

-- a bone's index is below the most bones of an armature
pub bone_below : (s : SceneRecord) → IsTrue (is_scene s) → (kind : Kind) (name : List ℕ) (bone : ℕ) → bone_index s kind name ≡ Some bone → bone < MAX_BONES
bone_below s is Empty name bone e = absurd (none-some bone e)
bone_below s is (Armature armature pose) name bone e = by (slice_get s.armatures armature) refl e
  where
    by : (r : Option ArmatureData) → slice_get s.armatures armature ≡ r
        → position (λ (b : RestBone). same_text b.name name) (option_map_or (λ (a : ArmatureData). a.bones) r []) ≡ Some bone → bone < MAX_BONES
    by None here e = absurd (none-some bone e)
    by (Some a) here e =
        let within : bone < length a.bones = position_within (λ (b : RestBone). same_text b.name name) a.bones bone e in
        let most : length a.bones ≤ MAX_BONES = (All-slice_get ArmatureFacts s.armatures armature a here (scene_facts s is).armatures.each).count in
        omega arith
bone_below s is (Pencil pencil modifiers) name bone e = absurd (none-some bone e)

-- the object, or nothing, that carries an object is found
abbrev pub IsParent : SceneRecord → Option NewParent → Option Parent → Type 0
IsParent s None parent = parent ≡ None
IsParent s (Some new) parent =
    (option_or (when UnknownId (lacks_object s new.object)) (option_or (when WrongKind (has_no_bones s new.object new.bone))
    (when UnknownPart (lacks_bone s new.object new.bone))) ≡ None) × (parent_of s new ≡ parent)

-- where the object is found, and so is what carries it, no cause holds
none_holds : (a b c d : Bool) → when UnknownId a ≡ None → option_or (when UnknownId b) (option_or (when WrongKind c) (when UnknownPart d)) ≡ None
    → option_or (when UnknownId (a || b)) (option_or (when WrongKind c) (option_or (when UnknownPart d) None)) ≡ None
none_holds true b c d e none = cc
none_holds false true c d e none = none
none_holds false false true d e none = none
none_holds false false false true e none = none
none_holds false false false false e none = refl

module _ (s : SceneRecord) (object : List ℕ) where
  accepted_parent : (new : Option NewParent) (parent : Option Parent) → when UnknownId (lacks_object s object) ≡ None → IsParent s new parent
      → first_cause s (SetParent object new) ≡ None
  accepted_parent None parent known is_parent = none_holds (lacks_object s object) false false false known refl
  accepted_parent (Some new) parent known is_parent =
      none_holds (lacks_object s object) (lacks_object s new.object) (has_no_bones s new.object new.bone) (lacks_bone s new.object new.bone) known is_parent.0

  new_parent : (new : Option NewParent) (parent : Option Parent) → IsParent s new parent → option_and_then (parent_of s) new ≡ parent
  new_parent None parent is_parent = sym is_parent
  new_parent (Some new) parent is_parent = is_parent.1

-- it is set at the index of the object, in what the scene holds
pub parent_kept : (held s : SceneRecord) → held ≡ s → IsTrue (is_scene held) → (object : List ℕ) (index : ℕ)
    → (when UnknownId (lacks_object s object) ≡ None) × FoundAt (λ (o : Object). same_text o.name object) s.objects index
    → (new : Option NewParent) (parent : Option Parent) → IsParent s new parent
    → IsTrue (is_scene (record held { objects = update_at (λ o. record o { parent = parent }) index held.objects }))
parent_kept held s view is object index at new parent is_parent =
    subst (λ t. IsTrue (is_scene t))
    (ap (λ objects. record s { objects = objects })
    (updated_first (λ (o : Object). same_text o.name object) (λ o. record o { parent = option_and_then (parent_of s) new }) s.objects index at.1.is_position
    ∙ ap (λ (p : Option Parent). update_at (λ o. record o { parent = p }) index s.objects) (new_parent s object new parent is_parent))
    ∙ ap (λ (t : SceneRecord). record t { objects = update_at (λ o. record o { parent = parent }) index t.objects }) (sym view))
    (keeps_set_parent s object new (subst (λ t. IsTrue (is_scene t)) view is) (accepted_parent s object new parent at.0 is_parent))

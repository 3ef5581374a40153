-- The scene with a new object is what the edit by names makes.
use Rattle.std.proofs.Common.{◌≡◌, ℕ, List, [], ◌∷◌, ◌++◌, ◌+◌, length, replicate, Some, sym, ap, ◌∙◌}
use Rattle.std.specs.Prelude.{IsTrue, option_map, slice_get}
use Rattle.std.specs.Option.{option_map_or}
use Rattle.std.proofs.lemmas.List.Elements.{All-contains}
use Rattle.std.proofs.lemmas.Option.{same_Some}
use Rattle.rig_scene.specs.declared.armature.ArmatureData.{ArmatureData}
use Rattle.rig_scene.specs.declared.limits.TheConstants.{MAX_POSE_BONES}
use Rattle.rig_scene.specs.declared.object.Kind.TheVariants.{Armature}
use Rattle.rig_scene.specs.declared.object.Object.{Object}
use Rattle.rig_scene.specs.Facts.{ArmatureFacts}
use Rattle.rig_scene.specs.FactsHold.{scene_facts}
use Rattle.rig_scene.specs.Found.{Contains-slice_get}
use Rattle.rig_scene.specs.Scene.{SceneRecord}
use Rattle.rig_scene.specs.Text.{same_text}
use Rattle.rig_scene.specs.WellFormed.{is_scene}
use Rattle.rig_edits.specs.declared.edit.Edit.TheVariants.{AddObject}
use Rattle.rig_edits.specs.declared.edit.NewKind.{NewKind}
use Rattle.rig_edits.specs.declared.edit.NewKind.TheVariants as new
use Rattle.rig_edits.specs.declared.object.Data.{Data}
use Rattle.rig_edits.specs.declared.object.Data.TheVariants as block
use Rattle.rig_edits.specs.Conditions.{full_at, new_bones, pose_bone_count}
use Rattle.rig_edits.specs.Edited.{at_rest, edited, new_object}
use Rattle.rig_edits.specs.Steps.{FoundAt}
use Rattle.rig_edits.specs.NewData.{kind_with, IsDataOf}

-- an armature that is found is the data of a new object of its name
pub armature_found : (s : SceneRecord) → IsTrue (is_scene s) → (name : List ℕ) (index : ℕ) (a : ArmatureData)
    → FoundAt (λ a. same_text a.name name) s.armatures index → slice_get s.armatures index ≡ Some a
    → IsDataOf s (new.Armature name) (block.Armature index (length a.bones))
armature_found s is name index a found at =
    let same : found.element ≡ a = same_Some found.element a (sym found.is_at ∙ at) in
    let bones : new_bones s (new.Armature name) ≡ length a.bones =
    ap (λ r. option_map_or (λ (a : ArmatureData). length a.bones) r 0) found.is_found ∙ ap (λ (a : ArmatureData). length a.bones) same in
    let facts : ArmatureFacts a =
    All-contains ArmatureFacts s.armatures a (scene_facts s is).armatures.each (Contains-slice_get s.armatures index a at) in record {
      is_kind = ap (option_map (λ i. Armature i (replicate (new_bones s (new.Armature name)) at_rest))) found.is_position
          ∙ ap (λ n. Some (Armature index (replicate n at_rest))) bones;
      is_full = ap (λ n. full_at (pose_bone_count s) n MAX_POSE_BONES) bones;
      bones_fit = facts.count;
    }

-- ---- the scene with the new object

-- it is what the two steps leave: the object pushed, and the next serial raised
pub object_added : (t s : SceneRecord) (name : List ℕ) (kind : NewKind) (block : Data) (o : Object) (objects : List Object)
    → t ≡ s → IsDataOf s kind block → o ≡ new_object t name (kind_with block) → objects ≡ t.objects ++ o ∷ []
    → edited s (AddObject name kind) ≡ record t { objects = objects; next = t.next + 1 }
object_added t s name kind block o objects same found new pushed =
    ap (λ r. option_map_or (λ k. record s { objects = s.objects ++ new_object s name k ∷ []; next = s.next + 1 }) r s) found.is_kind
    ∙ ap (λ (s : SceneRecord). record s { objects = s.objects ++ new_object s name (kind_with block) ∷ []; next = s.next + 1 }) (sym same)
    ∙ ap (λ o. record t { objects = t.objects ++ o ∷ []; next = t.next + 1 }) (sym new)
    ∙ ap (λ objects. record t { objects = objects; next = t.next + 1 }) (sym pushed)

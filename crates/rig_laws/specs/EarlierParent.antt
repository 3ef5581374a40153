-- The parent of a bone is an earlier one.
use Rattle.std.specs.Prelude.{◌≡◌, ℕ, ◌<◌, List, IsTrue, Some, slice_get, option_map}
use Rattle.std.specs.List.{enumerate_from}
use Rattle.std.proofs.Common.{ap, sym, ◌∙◌}
use Rattle.std.proofs.lemmas.Bool.{ltb-true}
use Rattle.std.proofs.lemmas.List.Elements.{All-contains}
use Rattle.rig_scene.specs.declared.armature.RestBone.{RestBone}
use Rattle.rig_scene.specs.declared.armature.ArmatureData.{ArmatureData}
use Rattle.rig_scene.specs.declared.id.ObjectId.{ObjectId}
use Rattle.rig_scene.specs.declared.object.Kind.{Kind}
use Rattle.rig_scene.specs.declared.object.Kind.TheVariants.{Empty, Armature, Pencil}
use Rattle.rig_scene.specs.Scene.{SceneRecord, object_of, armature_of}
use Rattle.rig_scene.specs.WellFormed.{is_scene, is_below, bones_of}
use Rattle.rig_scene.specs.Facts.{ArmatureFacts}
use Rattle.rig_scene.specs.FactsHold.{scene_facts}
use Rattle.rig_scene.specs.Found.{Contains-slice_get}
use Rattle.rig_scene.specs.Pairs.{all_pass}
use Rattle.rig_laws.specs.Lists.{Contains-numbered, option_map-Some, option_and_then-Some}

armature_meets : (s : SceneRecord) → IsTrue (is_scene s) → (kind : Kind) (a : ArmatureData) → armature_of s kind ≡ Some a → ArmatureFacts a
armature_meets s met Empty a h = absurd (cc)
armature_meets s met (Armature n pose) a h = All-contains ArmatureFacts s.armatures a (scene_facts s met).armatures.each (Contains-slice_get s.armatures n a h)
armature_meets s met (Pencil n modifiers) a h = absurd (cc)

parent_below : (a : ArmatureData) → ArmatureFacts a → (k : ℕ) (bone : RestBone) → slice_get a.bones k ≡ Some bone → (p : ℕ) → bone.parent ≡ Some p → p < k
parent_below a facts k bone at p e =
    let each = all_pass (λ (index, bone). is_below index bone.parent) (enumerate_from 0 a.bones) facts.earlier_parents in
    let below = All-contains (λ (index, bone). IsTrue (is_below index bone.parent)) (enumerate_from 0 a.bones) (k, bone) each (Contains-numbered a.bones k bone at) in
    ltb-true p k (ap (is_below k) (sym e) ∙ below)

-- the bones of an object that has them
pub earlier_parent : (s : SceneRecord) → IsTrue (is_scene s) → (o : ObjectId) (bones : List RestBone) → bones_of s o ≡ Some bones → (k : ℕ) (bone : RestBone) → slice_get bones k ≡ Some bone → (p : ℕ) → bone.parent ≡ Some p → p < k
earlier_parent s met o bones h k bone at p e =
    let found = option_and_then-Some (λ o. option_map (λ a. a.bones) (armature_of s o.kind)) (object_of s o) bones h in
    let armature = option_map-Some (λ a. a.bones) (armature_of s found.0.kind) bones found.2 in
    parent_below armature.0 (armature_meets s met found.0.kind armature.0 armature.1) k bone (ap (λ b. slice_get b k) armature.2 ∙ at) p e

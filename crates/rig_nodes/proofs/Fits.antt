-- How many layers, bones and modifiers there are: few enough that a `u32` counts them.
use Rattle.std.proofs.Common.{◌≡◌, ℕ, ◌<◌, ◌≤◌, ◌^◌, length, slice_get, Some, refl, arith}
use Rattle.std.specs.Prelude.{IsTrue}
use Rattle.std.proofs.lemmas.List.Elements.{All-contains}
use Rattle.rig_scene.specs.declared.limits.TheConstants.{MAX_LAYERS, MAX_BONES, MAX_MODIFIERS}
use Rattle.rig_scene.specs.declared.object.Kind.{Kind}
use Rattle.rig_scene.specs.declared.object.Kind.TheVariants.{Empty, Armature, Pencil}
use Rattle.rig_scene.specs.declared.object.Object.{Object}
use Rattle.rig_scene.specs.declared.pencil.PencilData.{PencilData}
use Rattle.rig_scene.specs.Facts.{PencilFacts, ObjectFacts, ArmatureFacts}
use Rattle.rig_scene.specs.FactsHold.{scene_facts}
use Rattle.rig_scene.specs.Found.{find-contains, Contains-slice_get}
use Rattle.rig_scene.specs.Id.{same_object}
use Rattle.rig_scene.specs.Quantities.{modifiers_of}
use Rattle.rig_scene.specs.Scene.{SceneRecord, object_of}
use Rattle.rig_scene.specs.WellFormed.{is_scene, pose_count}

module _ (s : SceneRecord) (is : IsTrue (is_scene s)) where
  pub few_layers : (p : ℕ) (pencil : PencilData) → slice_get s.pencils p ≡ Some pencil → length pencil.layers < 2 ^ 32
  few_layers p pencil at =
      let count : length pencil.layers ≤ MAX_LAYERS = (All-contains (PencilFacts s) s.pencils pencil (scene_facts s is).pencils.each (Contains-slice_get s.pencils p pencil at)).count in
      omega arith

  module _ (o : Object) (facts : ObjectFacts s o) where
    few_bones_of : (k : Kind) → o.kind ≡ k → pose_count k < 2 ^ 32
    few_bones_of Empty e = omega arith
    few_bones_of (Armature index pose) e =
        let kind = facts.armature index pose e in
        let count : length kind.armature.bones ≤ MAX_BONES = (All-contains ArmatureFacts s.armatures kind.armature (scene_facts s is).armatures.each (Contains-slice_get s.armatures index kind.armature kind.is_armature)).count in
        let poses : length pose ≡ length kind.armature.bones = kind.poses in
        omega arith
    few_bones_of (Pencil index modifiers) e = omega arith

    few_modifiers_of : (k : Kind) → o.kind ≡ k → length (modifiers_of k) < 2 ^ 32
    few_modifiers_of Empty e = omega arith
    few_modifiers_of (Armature index pose) e = omega arith
    few_modifiers_of (Pencil index modifiers) e = let count : length modifiers ≤ MAX_MODIFIERS = (facts.pencil index modifiers e).count in omega arith

  facts_of : (o : Object) → object_of s o.id ≡ Some o → ObjectFacts s o
  facts_of o at = All-contains (ObjectFacts s) s.objects o (scene_facts s is).objects.each (find-contains (λ (p : Object). same_object p.id o.id) s.objects o at).0

  pub few_bones : (o : Object) → object_of s o.id ≡ Some o → pose_count o.kind < 2 ^ 32
  few_bones o at = few_bones_of o (facts_of o at) o.kind refl

  pub few_modifiers : (o : Object) → object_of s o.id ≡ Some o → length (modifiers_of o.kind) < 2 ^ 32
  few_modifiers o at = few_modifiers_of o (facts_of o at) o.kind refl

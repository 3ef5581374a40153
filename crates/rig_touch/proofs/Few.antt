-- How many records a scene and its parts have: few enough that a `u32` counts them.
use Rattle.std.proofs.Common.{◌≡◌, ℕ, ◌<◌, ◌≤◌, ◌^◌, length, slice_get, Option, Some, None, option_map, Bool, refl, sym, arith}
use Rattle.std.specs.Prelude.{IsTrue, IfSome}
use Rattle.std.specs.List.{find}
use Rattle.std.proofs.lemmas.List.Elements.{All-contains}
use Rattle.rig_scene.specs.declared.armature.ArmatureData.{ArmatureData}
use Rattle.rig_scene.specs.declared.limits.TheConstants.{MAX_ACTIONS, MAX_LAYERS, MAX_BONES, MAX_MODIFIERS, MAX_PENCILS}
use Rattle.rig_scene.specs.declared.pencil.PencilData.{PencilData}
use Rattle.rig_edits.specs.Named.{modifiers_of}
use Rattle.rig_scene.specs.declared.object.Kind.{Kind}
use Rattle.rig_scene.specs.declared.object.Kind.TheVariants as kind
use Rattle.rig_scene.specs.declared.object.Object.{Object}
use Rattle.rig_scene.specs.Facts.{PencilFacts, ArmatureFacts, ObjectFacts}
use Rattle.rig_scene.specs.FactsHold.{scene_facts}
use Rattle.rig_scene.specs.Found.{Contains-slice_get, find-contains}
use Rattle.rig_scene.specs.Scene.{SceneRecord}
use Rattle.rig_scene.specs.WellFormed.{is_scene}

module _ (s : SceneRecord) (met : IsTrue (is_scene s)) where
  pub few_actions : length s.actions < 2 ^ 32
  few_actions =
      let count : length s.actions ≤ MAX_ACTIONS = (scene_facts s met).actions.count in
      omega arith

  pub few_pencils : length s.pencils < 2 ^ 32
  few_pencils =
      let count : length s.pencils ≤ MAX_PENCILS = (scene_facts s met).pencils.count in
      omega arith

  pub few_layers : (p : ℕ) (pencil : PencilData) → slice_get s.pencils p ≡ Some pencil → length pencil.layers < 2 ^ 32
  few_layers p pencil at =
      let count : length pencil.layers ≤ MAX_LAYERS = (All-contains (PencilFacts s) s.pencils pencil (scene_facts s met).pencils.each (Contains-slice_get s.pencils p pencil at)).count in
      omega arith

  pub few_bones : (n : ℕ) (armature : ArmatureData) → slice_get s.armatures n ≡ Some armature → length armature.bones < 2 ^ 32
  few_bones n armature at =
      let count : length armature.bones ≤ MAX_BONES = (All-contains ArmatureFacts s.armatures armature (scene_facts s met).armatures.each (Contains-slice_get s.armatures n armature at)).count in
      omega arith

  -- of what is found, where something is
  pub few_layers_found : {R : Type 0} (now : R → PencilData) (p : ℕ) (found : Option R) → option_map now found ≡ slice_get s.pencils p →
      IfSome found (λ x. length (now x).layers < 2 ^ 32)
  few_layers_found now p None at = tt
  few_layers_found now p (Some x) at = few_layers p (now x) (sym at)

  pub few_bones_found : {R : Type 0} (now : R → ArmatureData) (n : ℕ) (found : Option R) → option_map now found ≡ slice_get s.armatures n →
      IfSome found (λ x. length (now x).bones < 2 ^ 32)
  few_bones_found now n None at = tt
  few_bones_found now n (Some x) at = few_bones n (now x) (sym at)

  -- the modifiers of an object
  few_of_kind : (o : Object) → ObjectFacts s o → (k : Kind) → o.kind ≡ k → length (modifiers_of k) < 2 ^ 32
  few_of_kind o facts kind.Empty is = omega arith
  few_of_kind o facts (kind.Armature armature pose) is = omega arith
  few_of_kind o facts (kind.Pencil pencil modifiers) is =
      let count : length modifiers ≤ MAX_MODIFIERS = (facts.pencil pencil modifiers is).count in
      omega arith

  pub few_modifiers_found : {R : Type 0} (now : R → Object) (p : Object → Bool) (found : Option R) → option_map now found ≡ find p s.objects →
      IfSome found (λ x. length (modifiers_of (now x).kind) < 2 ^ 32)
  few_modifiers_found now p None at = tt
  few_modifiers_found now p (Some x) at =
      few_of_kind (now x) (All-contains (ObjectFacts s) s.objects (now x) (scene_facts s met).objects.each (find-contains p s.objects (now x) (sym at)).0) (now x).kind refl

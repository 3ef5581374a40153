-- How many layers a pencil and how many bones an armature has: few enough that a `u32` counts them.
use Rattle.std.proofs.Common.{◌≡◌, ℕ, ◌+◌, ◌<◌, ◌≤◌, ◌^◌, length, slice_get, Some, arith}
use Rattle.std.specs.Prelude.{IsTrue}
use Rattle.std.proofs.lemmas.List.Elements.{All-contains}
use Rattle.rig_scene.specs.declared.armature.ArmatureData.{ArmatureData}
use Rattle.rig_scene.specs.declared.limits.TheConstants.{MAX_LAYERS, MAX_BONES, MAX_PENCILS, MAX_OBJECTS}
use Rattle.rig_scene.specs.declared.pencil.PencilData.{PencilData}
use Rattle.rig_scene.specs.Facts.{PencilFacts, ArmatureFacts}
use Rattle.rig_scene.specs.FactsHold.{scene_facts}
use Rattle.rig_scene.specs.Found.{Contains-slice_get}
use Rattle.rig_scene.specs.Scene.{SceneRecord}
use Rattle.rig_scene.specs.WellFormed.{is_scene}

module _ (s : SceneRecord) (met : IsTrue (is_scene s)) where
  pub few_layers : (p : ℕ) (pencil : PencilData) → slice_get s.pencils p ≡ Some pencil → length pencil.layers < 2 ^ 32
  few_layers p pencil at =
      let count : length pencil.layers ≤ MAX_LAYERS = (All-contains (PencilFacts s) s.pencils pencil (scene_facts s met).pencils.each (Contains-slice_get s.pencils p pencil at)).count in
      omega arith

  pub few_bones : (n : ℕ) (armature : ArmatureData) → slice_get s.armatures n ≡ Some armature → length armature.bones < 2 ^ 32
  few_bones n armature at =
      let count : length armature.bones ≤ MAX_BONES = (All-contains ArmatureFacts s.armatures armature (scene_facts s met).armatures.each (Contains-slice_get s.armatures n armature at)).count in
      omega arith

  -- the rows for pencils and objects
  pub few_rows : length s.pencils + length s.objects < 2 ^ 32
  few_rows =
      let pencils : length s.pencils ≤ MAX_PENCILS = (scene_facts s met).pencils.count in
      let objects : length s.objects ≤ MAX_OBJECTS = (scene_facts s met).objects.count in
      omega arith

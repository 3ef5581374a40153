-- The tables of a scene: what making them asks, and that they are right.
use Rattle.std.proofs.Common.{◌≡◌, ℕ, zero, suc, ◌<◌, ◌≤◌, ◌^◌, List, [], ◌∷◌, length, map, get_or, position, slice_get, IsTrue, arith}
use Rattle.std.specs.Prelude.{sum_by}
use Rattle.std.specs.List.{All, AllZip}
use Rattle.std.proofs.lemmas.List.Sums.{sum_by-cons}
use Rattle.indexmap.specs.IndexMap.{get}
use Rattle.rig_scene.specs.declared.action.Action.{Action}
use Rattle.rig_scene.specs.declared.armature.ArmatureData.{ArmatureData}
use Rattle.rig_scene.specs.declared.driver.Driver.{Driver as DriverRecord}
use Rattle.rig_scene.specs.declared.operation.OpId.TheVariants.{Driver}
use Rattle.rig_scene.specs.Facts.{have_earlier_parents}
use Rattle.rig_scene.specs.FactsHold.{scene_facts}
use Rattle.rig_scene.specs.Path.{same_path}
use Rattle.rig_scene.specs.Scene.{SceneRecord}
use Rattle.rig_scene.specs.Text.{same_text}
use Rattle.rig_scene.specs.WellFormed.{is_scene}
use Rattle.rig_kernel.specs.declared.tables.SceneTables.{SceneTables}
use Rattle.rig_kernel.specs.Tables.{table_parts, curve_in, bone_at_rest, bone_named, AreCurvesOf, AreBonesOf, AreNamesOf, AreTables}
use Rattle.rig_kernel.proofs.TableRows.{looked_up}

-- one of several numbers is at most their sum
one_within : {A : Type 0} (f : A → ℕ) (xs : List A) (k : ℕ) (d : A) → k < length xs → f (get_or xs k d) ≤ sum_by f xs
one_within f [] k d l = absurd (omega arith)
one_within f (x ∷ xs) zero d l = omega (arith, sum_by-cons f x xs)
one_within f (x ∷ xs) (suc k) d l = omega (arith, sum_by-cons f x xs, one_within f xs k d (omega arith))

module _ (s : SceneRecord) (is : IsTrue (is_scene s)) where
  -- an action has fewer curves than there are numbers for them
  pub few_curves : All (λ a. length a.curves < 2 ^ 32) s.actions
  few_curves k d l = let few = (scene_facts s is).actions.curves in omega (arith, one_within (λ (a : Action). length a.curves) s.actions k d l)

  -- an armature has fewer bones than there are numbers for them
  pub few_bones : All (λ a. length a.bones < 2 ^ 32) s.armatures
  few_bones k d l = let few = ((scene_facts s is).armatures.each k d l).count in omega arith

  -- the parent of a bone is an earlier one
  pub parents_are_earlier : All (λ a. IsTrue (have_earlier_parents a.bones)) s.armatures
  parents_are_earlier k d l = ((scene_facts s is).armatures.each k d l).earlier_parents

-- tables with an entry for each action and each armature are those of the scene
pub are_tables : (s : SceneRecord) (tables : SceneTables) → AllZip (λ t a. AreCurvesOf t (map (λ c. c.path) a.curves)) tables.actions s.actions
    → AllZip (λ t a. AreBonesOf t a.bones) tables.armatures s.armatures → AllZip (λ t a. AreNamesOf t a.bones) tables.bone_names s.armatures
    → tables.drivers ≡ map (λ (d : DriverRecord). Driver d.id d.path) s.drivers
    → AreTables tables (table_parts s)
are_tables s tables curves bones names drivers = record {
  curves = λ action path. looked_up AreCurvesOf (λ (a : Action). map (λ c. c.path) a.curves) (λ t. curve_in t path) (position (λ p. same_path p path))
      (λ t paths are. are path) tables.actions s.actions curves action;
  bones = λ armature bone. looked_up AreBonesOf (λ (a : ArmatureData). a.bones) (λ t. slice_get t bone) (λ bones. bone_at_rest bones bone)
      (λ t bones are. are bone) tables.armatures s.armatures bones armature;
  names = λ armature name. looked_up AreNamesOf (λ (a : ArmatureData). a.bones) (λ t. get same_text t name) (bone_named name)
      (λ t bones are. are name) tables.bone_names s.armatures names armature;
  drivers = drivers;
}

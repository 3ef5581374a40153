-- The scene that the second pass makes is whole, where it found no fault.
use Rattle.std.proofs.Common.{◌≡◌, ℕ, List, [], ◌∷◌, ◌++◌, None, refl, ap, sym, ◌∙◌, subst}
use Rattle.std.specs.Prelude.{IsTrue}
use Rattle.serde_json.specs.Data.{Data}
use Rattle.rig_scene.specs.declared.limits.TheConstants.{MAX_POSE_BONES}
use Rattle.rig_scene.specs.declared.action.Action.{Action}
use Rattle.rig_scene.specs.declared.armature.ArmatureData.{ArmatureData}
use Rattle.rig_scene.specs.declared.driver.Driver.{Driver}
use Rattle.rig_scene.specs.declared.object.Object.{Object}
use Rattle.rig_scene.specs.declared.pencil.PencilData.{PencilData}
use Rattle.rig_scene.specs.Scene.{SceneRecord}
use Rattle.rig_scene.specs.WellFormed.{is_scene}
use Rattle.rig_scenejson.specs.declared.before.Catalog.{Catalog}
use Rattle.rig_scenejson.specs.declared.member.Member.TheVariants as m
use Rattle.rig_scenejson.specs.Tests.{first}
use Rattle.rig_scenejson.specs.Value.{item_count}
use Rattle.rig_scenejson.specs.Given.{items_at, values, values_from, action_record, armature_given, pencil_given, object_given, driver_given, scene_given}
use Rattle.rig_scenejson.specs.PassOne.{pass_one, catalog_of, after_any}
use Rattle.rig_scenejson.specs.PassTwo.{each_faults, armature_references, pencil_references, object_references, after_bones, driver_references, pass_two}
use Rattle.rig_scenejson.proofs.GivenScene.{is_whole}

none_of : {A : Type 0} (a p o r : List A) → first a ≡ None → first p ≡ None → first o ≡ None → first r ≡ None → a ++ p ++ o ++ r ≡ []
none_of [] [] [] [] e f g h = refl
none_of (x ∷ xs) p o r e f g h = absurd cc
none_of [] (x ∷ xs) o r e f g h = absurd cc
none_of [] [] (x ∷ xs) r e f g h = absurd cc
none_of [] [] [] (x ∷ xs) e f g h = absurd cc

module _ (d : Data) (c : Catalog) where
  two_none : first (each_faults m.Armatures (armature_references c) after_any tt d) ≡ None → first (each_faults m.Pencils (pencil_references c) after_any tt d) ≡ None
      → first (each_faults m.Objects (object_references c) (after_bones c) MAX_POSE_BONES d) ≡ None → first (each_faults m.Drivers (driver_references c) after_any tt d) ≡ None → pass_two c d ≡ []
  unfolding pass_two
  two_none a p o r = none_of _ _ _ _ a p o r

  same_scene : (actions : List Action) (armatures : List ArmatureData) (pencils : List PencilData) (objects : List Object) (drivers : List Driver) (next : ℕ)
      → actions ≡ values action_record (items_at m.Actions d) → armatures ≡ values_from (armature_given c) 0 (items_at m.Armatures d)
      → pencils ≡ values_from (pencil_given c) 0 (items_at m.Pencils d) → objects ≡ values_from (object_given c) 0 (items_at m.Objects d)
      → drivers ≡ values_from (driver_given c) 0 (items_at m.Drivers d) → next ≡ item_count (items_at m.Objects d)
      → record { actions = actions; armatures = armatures; pencils = pencils; objects = objects; drivers = drivers; next = next } ≡ scene_given c d
  unfolding scene_given
  same_scene actions armatures pencils objects drivers next a b p o r n = rw (a, b, p, o, r, n) refl

  pub whole_scene : (actions : List Action) (armatures : List ArmatureData) (pencils : List PencilData) (objects : List Object) (drivers : List Driver) (next : ℕ)
      → actions ≡ values action_record (items_at m.Actions d) → armatures ≡ values_from (armature_given c) 0 (items_at m.Armatures d)
      → pencils ≡ values_from (pencil_given c) 0 (items_at m.Pencils d) → objects ≡ values_from (object_given c) 0 (items_at m.Objects d)
      → drivers ≡ values_from (driver_given c) 0 (items_at m.Drivers d) → next ≡ item_count (items_at m.Objects d)
      → c ≡ catalog_of d → pass_one d ≡ []
      → first (each_faults m.Armatures (armature_references c) after_any tt d) ≡ None → first (each_faults m.Pencils (pencil_references c) after_any tt d) ≡ None
      → first (each_faults m.Objects (object_references c) (after_bones c) MAX_POSE_BONES d) ≡ None → first (each_faults m.Drivers (driver_references c) after_any tt d) ≡ None
      → IsTrue (is_scene (record { actions = actions; armatures = armatures; pencils = pencils; objects = objects; drivers = drivers; next = next }))
  whole_scene actions armatures pencils objects drivers next a b p o r n e one fb fp fo fr =
      subst (λ (t : SceneRecord). IsTrue (is_scene t)) (sym (same_scene actions armatures pencils objects drivers next a b p o r n ∙ ap (λ (k : Catalog). scene_given k d) e))
      (is_whole d one (ap (λ (k : Catalog). pass_two k d) (sym e) ∙ two_none fb fp fo fr))

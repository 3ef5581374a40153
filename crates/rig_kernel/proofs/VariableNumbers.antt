-- The numbers of a driver's variables, as the code finds them and as the definition has them.
use Rattle.std.proofs.Common.{◌≡◌, ℕ, List, drop, Option, Some, None, ℤ, pos, refl, sym, ap, ◌∙◌}
use Rattle.std.specs.Prelude.{slice_get, option_map, option_and_then, unwrap_or}
use Rattle.rig_scene.specs.declared.channel.Channel.{Channel}
use Rattle.rig_scene.specs.declared.driver.Space.{Space}
use Rattle.rig_scene.specs.declared.driver.Variable.TheVariants as variable
use Rattle.rig_scene.specs.declared.id.AnimId.{AnimId}
use Rattle.rig_scene.specs.declared.id.AnimId.TheVariants as anim
use Rattle.rig_scene.specs.declared.id.ObjectId.{ObjectId}
use Rattle.rig_scene.specs.declared.object.Object.{Object}
use Rattle.rig_scene.specs.declared.path.Path.{Path}
use Rattle.rig_scene.specs.declared.path.Path.TheVariants as paths
use Rattle.rig_scene.specs.declared.pencil.PencilData.{PencilData}
use Rattle.rig_scene.specs.Channel.{channel_of, transform_number}
use Rattle.rig_scene.specs.ChannelNumber.{animated_number, original_number, number_by, number_of, pose_named}
use Rattle.rig_scene.specs.Drivers.{action_index, driver_of}
use Rattle.rig_scene.specs.Scene.{SceneRecord, object_of}
use Rattle.rig_kernel.specs.declared.tables.SceneTables.{SceneTables}
use Rattle.rig_kernel.specs.Driven.{curve_number}
use Rattle.rig_laws.specs.Kernel.{variable_number}
use Rattle.rig_laws.specs.Output.{Output, number_at, numbers_at, transform_at}
use Rattle.rig_kernel.specs.Tables.{AreTables, table_parts, curve_at}
use Rattle.rig_kernel.specs.VariableBy.{driven_at, object_number, pencil_number}
use Rattle.rig_kernel.proofs.Animated.{animated_is}
use Rattle.rig_kernel.proofs.Behind.{number_behind, numbers_behind, transform_behind}

module _ (s : SceneRecord) (tables : SceneTables) (are : AreTables tables (table_parts s)) (numbers : List (Option ℤ)) (path : Path) where
  -- ---- channels without drivers

  object_original : (o : ObjectId) (object : Object) → object_of s o ≡ Some object → (path : Path) → object_number s object path ≡ original_number s (anim.Object o) path
  unfolding original_number
  object_original o object found (paths.Own channel) = sym (ap (option_map (λ (object : Object). channel_of object.own channel)) found)
  object_original o object found (paths.Bone name channel) =
      sym (ap (option_and_then (λ (object : Object). option_map (λ pose. channel_of pose channel) (pose_named s object.kind name))) found)
  object_original o object found (paths.Layer name axis) = refl

  pencil_original : (p : ℕ) (pencil : PencilData) → slice_get s.pencils p ≡ Some pencil → (path : Path) → pencil_number pencil path ≡ original_number s (anim.Pencil p) path
  unfolding original_number
  pencil_original p pencil found (paths.Own channel) = refl
  pencil_original p pencil found (paths.Bone name channel) = refl
  pencil_original p pencil found (paths.Layer name axis) = sym (ap (option_and_then (λ (pencil : PencilData). pencil_number pencil (paths.Layer name axis))) found)

  pub of_object : (o : ObjectId) (object : Object) → object_of s o ≡ Some object
      → number_by None (curve_number numbers (option_and_then (λ a. curve_at tables a path) object.action)) (unwrap_or (object_number s object path) (pos 0))
      ≡ number_by None (animated_number s (λ other. numbers) (anim.Object o) path) (unwrap_or (original_number s (anim.Object o) path) (pos 0))
  of_object o object found =
      let action : action_index s (anim.Object o) ≡ object.action = ap (option_and_then (λ (object : Object). object.action)) found in
      λ i. number_by None (animated_is s tables are (anim.Object o) path numbers object.action action i) (unwrap_or (object_original o object found path i) (pos 0))

  pub of_pencil : (p : ℕ) (pencil : PencilData) → slice_get s.pencils p ≡ Some pencil
      → number_by None (curve_number numbers (option_and_then (λ a. curve_at tables a path) pencil.action)) (unwrap_or (pencil_number pencil path) (pos 0))
      ≡ number_by None (animated_number s (λ other. numbers) (anim.Pencil p) path) (unwrap_or (original_number s (anim.Pencil p) path) (pos 0))
  of_pencil p pencil found =
      let action : action_index s (anim.Pencil p) ≡ pencil.action = ap (option_and_then (λ (pencil : PencilData). pencil.action)) found in
      λ i. number_by None (animated_is s tables are (anim.Pencil p) path numbers pencil.action action i) (unwrap_or (pencil_original p pencil found path i) (pos 0))

module _ (s : SceneRecord) (outs : List Output) (index : ℕ) where
  -- ---- variables

  -- the number of a channel by what its driver gives
  pub property_is : (id : AnimId) (path : Path) (driven : Option ℤ) → driven_at outs index id path ≡ driven
      → driven_at outs index id path ≡ option_map (λ d. number_at outs index) (driver_of s id path)
      → number_by driven (animated_number s (λ other. numbers_at outs index) id path) (unwrap_or (original_number s id path) (pos 0))
      ≡ variable_number s (variable.Property id path) (drop index outs)
  property_is id path driven is takes =
      ap (λ driven. number_by driven (animated_number s (λ other. numbers_at outs index) id path) (unwrap_or (original_number s id path) (pos 0))) (sym is ∙ takes)
      ∙ (λ i. number_of s (λ other. sym (numbers_behind index outs) i) id path (option_map (λ d. sym (number_behind index outs) i) (driver_of s id path)))

  pub transform_is : (o : ObjectId) (space : Space) (channel : Channel)
      → transform_number (transform_at outs index) channel ≡ variable_number s (variable.Transform o space channel) (drop index outs)
  transform_is o space channel = ap (λ t. transform_number t channel) (sym (transform_behind index outs))

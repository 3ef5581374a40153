-- The kernel of an operation, by what its records are.
use Rattle.std.proofs.Common.{◌≡◌, ℕ, zero, suc, ◌-◌, ◌<◌, List, Some, ℤ, sym, ap, ◌∙◌, arith, subst}
use Rattle.std.specs.Prelude.{slice_get, option_map, option_and_then, IsSome}
use Rattle.rig_scene.specs.declared.id.ObjectId.{ObjectId}
use Rattle.rig_scene.specs.declared.limits.TheConstants.{MAX_RESULT_POINTS}
use Rattle.rig_scene.specs.declared.modifier.Mode.{Mode}
use Rattle.rig_scene.specs.declared.modifier.Modifier.{Modifier}
use Rattle.rig_scene.specs.declared.object.Object.{Object}
use Rattle.rig_scene.specs.declared.operation.OpId.TheVariants.{Geometry, ModifierOp, GeometryDone}
use Rattle.rig_scene.specs.declared.pencil.Layer.{Layer}
use Rattle.rig_scene.specs.declared.pencil.PencilData.{PencilData}
use Rattle.rig_scene.specs.declared.pencil.Stroke.{Stroke}
use Rattle.rig_scene.specs.Layer.{joined_within}
use Rattle.rig_scene.specs.Quantities.{modifiers_of}
use Rattle.rig_scene.specs.Scene.{SceneRecord, object_of, pencil_of}
use Rattle.rig_scene.specs.Value.{Strokes}
use Rattle.rig_laws.specs.Lists.{option_and_then-Some}
use Rattle.rig_kernel.specs.Joined.{layers_bring}
use Rattle.rig_laws.specs.Kernel.{kernel, geometry_output, modified_strokes, visible_layers}
use Rattle.rig_laws.specs.Output.{Output, strokes_at}
use Rattle.rig_kernel.proofs.Ids.{there}
use Rattle.rig_kernel.proofs.Joins.{joined_visible}

module _ (s : SceneRecord) (mode : Mode) (frame : ℤ) (o : ObjectId) (inputs : List Output) (strokes : List Stroke) where
  pub geometry_is : (pencil : PencilData) (layers : List Layer) → option_and_then (λ object. pencil_of s object.kind) (object_of s o) ≡ Some pencil → layers ≡ pencil.layers
      → strokes ≡ joined_within MAX_RESULT_POINTS (layers_bring inputs 0 layers) → kernel s mode frame (Geometry o) inputs ≡ Some (Strokes strokes)
  unfolding kernel
  geometry_is pencil layers found same is =
      let object = option_and_then-Some (λ (object : Object). pencil_of s object.kind) (object_of s o) pencil found in
      ap (option_and_then (λ (object : Object). geometry_output s inputs object.kind)) object.1
      ∙ ap (option_map (λ pencil. Strokes (joined_within MAX_RESULT_POINTS (visible_layers pencil inputs)))) object.2
      ∙ ap (λ strokes. Some (Strokes strokes))
      (joined_visible inputs 0 pencil.layers MAX_RESULT_POINTS ∙ sym (is ∙ ap (λ layers. joined_within MAX_RESULT_POINTS (layers_bring inputs 0 layers)) same))

  pub modifier_is : (i : ℕ) (modifier : Modifier) → 0 < i → option_and_then (λ object. slice_get (modifiers_of object.kind) (i - 1)) (object_of s o) ≡ Some modifier
      → strokes ≡ modified_strokes mode modifier inputs → kernel s mode frame (ModifierOp o i) inputs ≡ Some (Strokes strokes)
  unfolding kernel
  modifier_is zero modifier positive found is = absurd (omega arith)
  modifier_is (suc before) modifier positive found is =
      let index : suc before - 1 ≡ before = omega arith in
      let object = option_and_then-Some (λ (object : Object). slice_get (modifiers_of object.kind) before) (object_of s o) modifier
      (subst (λ k. option_and_then (λ (object : Object). slice_get (modifiers_of object.kind) k) (object_of s o) ≡ Some modifier) index found) in
      ap (option_and_then (λ (object : Object). option_map (λ modifier. Strokes (modified_strokes mode modifier inputs)) (slice_get (modifiers_of object.kind) before))) object.1
      ∙ ap (option_map (λ modifier. Strokes (modified_strokes mode modifier inputs))) object.2
      ∙ ap (λ strokes. Some (Strokes strokes)) (sym is)

  pub geometry_done_is : IsSome (object_of s o) → strokes ≡ strokes_at inputs 0 → kernel s mode frame (GeometryDone o) inputs ≡ Some (Strokes strokes)
  unfolding kernel
  geometry_done_is found is =
      let object = there (object_of s o) found in
      ap (option_map (λ (object : Object). Strokes (strokes_at inputs 0))) object.1 ∙ ap (λ strokes. Some (Strokes strokes)) (sym is)

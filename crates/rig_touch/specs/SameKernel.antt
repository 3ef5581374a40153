-- Two scenes that have all in common that an operation's value is made of beside its inputs give it the same value.
use Rattle.std.specs.Prelude.{◌≡◌, ℕ, zero, suc, ◌+◌, List, [], ◌∷◌, map, filter, slice_get, Bool, true, false, not, Option, None, Some, option_map, option_and_then, ℤ}
use Rattle.std.specs.List.{enumerate_from}
use Rattle.std.proofs.Common.{refl, sym, ap, ◌∙◌, cond}
use Rattle.rig_scene.specs.declared.id.AnimId.TheVariants as anim
use Rattle.rig_scene.specs.declared.id.ObjectId.{ObjectId}
use Rattle.rig_scene.specs.declared.limits.TheConstants.{MAX_RESULT_POINTS}
use Rattle.rig_scene.specs.declared.modifier.Mode.{Mode}
use Rattle.rig_scene.specs.declared.modifier.Modifier.{Modifier}
use Rattle.rig_scene.specs.declared.object.Object.{Object}
use Rattle.rig_scene.specs.declared.operation.OpId.{OpId}
use Rattle.rig_scene.specs.declared.operation.OpId.TheVariants.{Time, Animation, Driver, Local, World, PoseInit, Bone, PoseDone, Layer, Geometry, ModifierOp, GeometryDone}
use Rattle.rig_scene.specs.declared.pencil.Layer.{Layer as LayerRecord}
use Rattle.rig_scene.specs.declared.pencil.PencilData.{PencilData}
use Rattle.rig_scene.specs.declared.pencil.Stroke.{Stroke}
use Rattle.rig_scene.specs.ChannelNumber.{action_numbers}
use Rattle.rig_scene.specs.Layer.{joined_within}
use Rattle.rig_scene.specs.Quantities.{modifiers_of}
use Rattle.rig_scene.specs.Scene.{SceneRecord, object_of, pencil_of}
use Rattle.rig_scene.specs.Value.{Value, Numbers, Strokes}
use Rattle.rig_laws.specs.Kernel.{kernel, curve_numbers, visible_layers, modified_strokes, modifier_output}
use Rattle.rig_laws.specs.Output.{Output, strokes_at, frame_at}
use Rattle.rig_touch.specs.SameNumbers.{map_then, none_then, map_there, same_curve_numbers, same_driver, same_local, same_world, same_bone}
use Rattle.rig_touch.specs.SameShown.{same_layer}
use Rattle.rig_touch.specs.Agree.{hidden_layers, Agree}

-- ---- geometry

-- the layers that aren't hidden, by which of them are hidden
abbrev visible_by : List Bool → List Output → List (List Stroke)
visible_by hidden inputs = map (λ e. strokes_at inputs e.0) (filter (λ e. not e.1) (enumerate_from 0 hidden))

visible_is : (inputs : List Output) (n : ℕ) (layers : List LayerRecord)
    → map (λ e. strokes_at inputs e.0) (filter (λ e. not e.1.hidden) (enumerate_from n layers))
    ≡ map (λ e. strokes_at inputs e.0) (filter (λ e. not e.1) (enumerate_from n (map (λ l. l.hidden) layers)))
visible_is inputs n [] = refl
visible_is inputs n (layer ∷ layers) = by layer.hidden (visible_is inputs (n + 1) layers)
  where
    by : (hidden : Bool)
        → map (λ e. strokes_at inputs e.0) (filter (λ e. not e.1.hidden) (enumerate_from (n + 1) layers))
        ≡ map (λ e. strokes_at inputs e.0) (filter (λ e. not e.1) (enumerate_from (n + 1) (map (λ l. l.hidden) layers)))
        → map (λ e. strokes_at inputs e.0) (cond (not hidden)
        ((n, layer) ∷ filter (λ e. not e.1.hidden) (enumerate_from (n + 1) layers))
        (filter (λ e. not e.1.hidden) (enumerate_from (n + 1) layers)))
        ≡ map (λ e. strokes_at inputs e.0) (cond (not hidden)
        ((n, layer.hidden) ∷ filter (λ e. not e.1) (enumerate_from (n + 1) (map (λ l. l.hidden) layers)))
        (filter (λ e. not e.1) (enumerate_from (n + 1) (map (λ l. l.hidden) layers))))
    by true rest = rest
    by false rest = ap (λ l. strokes_at inputs n ∷ l) rest

abbrev geometry_by : List Output → List Bool → Value
geometry_by inputs hidden = Strokes (joined_within MAX_RESULT_POINTS (visible_by hidden inputs))

geometry_is : (s : SceneRecord) (o : ObjectId) (mode : Mode) (frame : ℤ) (inputs : List Output)
    → kernel s mode frame (Geometry o) inputs ≡ option_map (geometry_by inputs) (hidden_layers s o)
unfolding kernel
geometry_is s o mode frame inputs = by (object_of s o)
  where
    by_pencil : (r : Option PencilData)
        → option_map (λ pencil. Strokes (joined_within MAX_RESULT_POINTS (visible_layers pencil inputs))) r
        ≡ option_map (geometry_by inputs) (option_map (λ pencil. map (λ l. l.hidden) pencil.layers) r)
    by_pencil None = refl
    by_pencil (Some pencil) = ap (λ layers. Some (Strokes (joined_within MAX_RESULT_POINTS layers))) (visible_is inputs 0 pencil.layers)

    by : (r : Option Object)
        → option_and_then (λ object. option_map (λ pencil. Strokes (joined_within MAX_RESULT_POINTS (visible_layers pencil inputs)))
        (pencil_of s object.kind)) r
        ≡ option_map (geometry_by inputs) (option_and_then
        (λ object. option_map (λ pencil. map (λ l. l.hidden) pencil.layers) (pencil_of s object.kind)) r)
    by None = refl
    by (Some object) = by_pencil (pencil_of s object.kind)

-- ---- every operation

pub same_kernel : (s t : SceneRecord) (op : OpId) → Agree s t op → (mode : Mode) (frame : ℤ) (inputs : List Output)
    → kernel s mode frame op inputs ≡ kernel t mode frame op inputs
unfolding kernel
same_kernel s t Time same mode frame inputs = refl
same_kernel s t (Animation id) same mode frame inputs = ap (option_map (λ action. Numbers (action_numbers action (frame_at inputs 0)))) same
same_kernel s t (Driver id path) same mode frame inputs = same_driver s t id path same mode frame inputs
same_kernel s t (Local o) same mode frame inputs = same_local s t o same mode frame inputs
same_kernel s t (World o) same mode frame inputs = same_world s t o same mode frame inputs
same_kernel s t (PoseInit o) same mode frame inputs =
    map_there (Numbers (curve_numbers s (anim.Object o) inputs)) (Numbers (curve_numbers t (anim.Object o) inputs)) (object_of s o)
    (object_of t o) same.0
    (ap Numbers (same_curve_numbers s t (anim.Object o) same.1 inputs))
same_kernel s t (Bone o b) same mode frame inputs = same_bone s t o b same mode frame inputs
same_kernel s t (PoseDone o) same mode frame inputs = map_there (Numbers []) (Numbers []) (object_of s o) (object_of t o) same refl
same_kernel s t (Layer p l) same mode frame inputs = same_layer s t p l same mode frame inputs
same_kernel s t (Geometry o) same mode frame inputs =
    geometry_is s o mode frame inputs ∙ ap (option_map (geometry_by inputs)) same ∙ sym (geometry_is t o mode frame inputs)
same_kernel s t (ModifierOp o zero) same mode frame inputs = none_then (modifier_output mode zero inputs) (λ object. refl) (object_of s o)
    ∙ sym (none_then (modifier_output mode zero inputs) (λ object. refl) (object_of t o))
same_kernel s t (ModifierOp o (suc i)) same mode frame inputs =
    let by = λ (m : Modifier). Strokes (modified_strokes mode m inputs) in
    map_then (λ object. slice_get (modifiers_of object.kind) i) by (object_of s o) ∙ ap (option_map by) same
    ∙ sym (map_then (λ object. slice_get (modifiers_of object.kind) i) by (object_of t o))
same_kernel s t (GeometryDone o) same mode frame inputs =
    map_there (Strokes (strokes_at inputs 0)) (Strokes (strokes_at inputs 0)) (object_of s o) (object_of t o) same refl

-- Where a layer stands, by the indices of its pencil and of the layer there.
use Rattle.std.specs.Prelude.{◌≡◌, ℕ, ◌<◌, ◌≤◌, List, length, slice_get, Bool, false, is_none, Option, Some, None, if◌then◌else◌, option_and_then, ℤ, IsTrue}
use Rattle.std.specs.Option.{option_or, option_map_or}
use Rattle.std.specs.List.{list_any}
use Rattle.std.specs.Ordering.{int_eq}
use Rattle.rig_scene.specs.declared.limits.TheConstants.{MAX_DRAWINGS, MAX_LAYER_KEYS}
use Rattle.rig_scene.specs.declared.pencil.Layer.{Layer}
use Rattle.rig_scene.specs.declared.pencil.PencilData.{PencilData}
use Rattle.rig_scene.specs.Keys.{are_frames_rising}
use Rattle.rig_scene.specs.Scene.{SceneRecord}
use Rattle.rig_scene.specs.WellFormed.{layer_key_count}
use Rattle.rig_edits.specs.declared.cause.EditCause.{EditCause}
use Rattle.rig_edits.specs.declared.cause.EditCause.TheVariants.{UnknownId, UnknownPart}
use Rattle.rig_edits.specs.declared.layer.LayerPlace.{LayerPlace}
use Rattle.rig_edits.specs.Conditions.{lacks_layer, lacks_drawing, has_layer_key, full_at, when}
use Rattle.rig_edits.specs.Edited.{with_layer}
use Rattle.rig_edits.specs.Named.{pencil_named, at_number, update_at}

-- the first cause against a layer
abbrev pub layer_cause : SceneRecord → List ℕ → List ℕ → Option EditCause
layer_cause s pencil layer = option_or (when UnknownId (is_none (pencil_named s pencil))) (when UnknownPart (lacks_layer s pencil layer))

-- whether the layer at a place has a key at a frame
abbrev pub has_key_at : List PencilData → LayerPlace → ℤ → Bool
has_key_at pencils place frame =
    option_map_or (λ l. list_any (λ k. int_eq k.frame frame) l.keys)
    (option_and_then (λ p. slice_get p.layers place.layer) (slice_get pencils place.pencil)) false

-- no room for a key at a frame of the layer at a place, where it would be one more
abbrev pub room_cause : List PencilData → LayerPlace → ℤ → Option EditCause
room_cause pencils place frame = if has_key_at pencils place frame then None else full_at (layer_key_count pencils) 1 MAX_LAYER_KEYS

-- whether the pencil at a place has no drawing of a number
abbrev pub lacks_drawing_at : List PencilData → LayerPlace → ℤ → Bool
lacks_drawing_at pencils place drawing = is_none (option_and_then (λ p. at_number p.drawings drawing) (slice_get pencils place.pencil))

-- the layer at a place changed
abbrev pub layer_changed_at : (Layer → Layer) → LayerPlace → List PencilData → List PencilData
layer_changed_at change place pencils = update_at (λ p. record p { layers = update_at change place.layer p.layers }) place.pencil pencils

-- a layer stands at a place, its frames rise, and there are few enough drawings
pub record HasLayerAt (pencils : List PencilData) (place : LayerPlace) : Type 0 where
  pub pencil_within : place.pencil < length pencils
  pub layer_within : (p : PencilData) → slice_get pencils place.pencil ≡ Some p → place.layer < length p.layers
  pub frames_rise : (p : PencilData) (l : Layer) → slice_get pencils place.pencil ≡ Some p → slice_get p.layers place.layer ≡ Some l
      → IsTrue (are_frames_rising (λ k. k.frame) l.keys)
  pub drawings : (p : PencilData) → slice_get pencils place.pencil ≡ Some p → length p.drawings ≤ MAX_DRAWINGS

-- the place is that of the layer of a name, of the pencil of a name
pub record IsPlaceOf (s : SceneRecord) (pencil layer : List ℕ) (place : LayerPlace) : Type 0 where
  pub there : HasLayerAt s.pencils place
  pub has : (frame : ℤ) → has_layer_key s pencil layer frame ≡ has_key_at s.pencils place frame
  pub lacks : (drawing : ℤ) → lacks_drawing s pencil drawing ≡ lacks_drawing_at s.pencils place drawing
  pub changed : (change : Layer → Layer) → with_layer s pencil layer change ≡ record s { pencils = layer_changed_at change place s.pencils }

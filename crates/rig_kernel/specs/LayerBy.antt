-- The strokes of a layer as the code finds them, by the indices of its inputs.
use Rattle.std.specs.Prelude.{ℕ, ◌+◌, List, [], ◌∷◌, slice_get, Option, is_some, option_map, option_and_then, if◌then◌else◌}
use Rattle.std.specs.Option.{option_map_or}
use Rattle.rig_fixed.specs.declared.vector.V3.{V3}
use Rattle.rig_scene.specs.declared.path.Path.TheVariants as paths
use Rattle.rig_scene.specs.declared.pencil.Layer.{Layer as LayerRecord}
use Rattle.rig_scene.specs.declared.pencil.PencilData.{PencilData}
use Rattle.rig_scene.specs.declared.pencil.Stroke.{Stroke}
use Rattle.rig_scene.specs.Layer.{held_drawing, layer_strokes}
use Rattle.rig_scene.specs.Scene.{SceneRecord}
use Rattle.std.specs.Prelude.{drop}
use Rattle.rig_kernel.specs.declared.tables.SceneTables.{SceneTables}
use Rattle.rig_kernel.specs.Driven.{driver_count, offset_from}
use Rattle.rig_laws.specs.Kernel.{bound_deform}
use Rattle.rig_laws.specs.Output.{Output, numbers_at, frame_at}
use Rattle.rig_kernel.specs.Tables.{curve_at}

-- how many inputs the time takes: one, where there are keys
abbrev pub time_count : {K : Type 0} → List K → ℕ
time_count [] = 0
time_count (key ∷ keys) = 1

-- how many inputs an animation takes
abbrev pub animation_count : Option ℕ → ℕ
animation_count action = option_map_or (λ a. 1) action 0

-- the offset of a layer, whose driven axes stand from an index on, behind the animation
abbrev pub offset_by : SceneTables → Option ℕ → LayerRecord → List Output → V3
offset_by tables action layer inputs =
    offset_from (λ axis. option_and_then (λ a. curve_at tables a (paths.Layer layer.name axis)) action)
    (if is_some action then numbers_at inputs (time_count layer.keys) else [])
    (driver_count 3 (drop (time_count layer.keys + animation_count action) inputs))
    (drop (time_count layer.keys + animation_count action) inputs) layer.offset

-- the index of the bone that a layer is bound to
abbrev pub bound_index : Option ℕ → LayerRecord → List Output → ℕ
bound_index action layer inputs =
    (time_count layer.keys + animation_count action) + driver_count 3 (drop (time_count layer.keys + animation_count action) inputs)

-- the strokes of a layer
abbrev pub layer_by : SceneRecord → SceneTables → PencilData → LayerRecord → List Output → List Stroke
layer_by scene tables pencil layer inputs =
    layer_strokes (option_and_then (slice_get pencil.drawings) (held_drawing layer.keys (frame_at inputs 0)))
    (offset_by tables pencil.action layer inputs)
    (option_map (λ bound. bound_deform scene bound inputs (bound_index pencil.action layer inputs)) layer.bound)

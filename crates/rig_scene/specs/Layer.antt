-- What a layer shows at a frame (Blender Manual, Grease Pencil).
use Rattle.std.specs.Prelude.{ℕ, ◌-◌, List, [], ◌∷◌, ◌++◌, length, map, sum_by, nat_le, if◌then◌else◌, Option, Some, None, option_map, ℤ}
use Rattle.std.specs.Option.{option_map_or}
use Rattle.rig_fixed.specs.Transform.{Transform, carry}
use Rattle.rig_fixed.specs.Vector.{v3_sum}
use Rattle.rig_fixed.specs.declared.vector.V3.{V3}
use Rattle.rig_scene.specs.declared.pencil.Drawing.{Drawing}
use Rattle.rig_scene.specs.declared.pencil.LayerKey.{LayerKey}
use Rattle.rig_scene.specs.declared.pencil.Stroke.{Stroke}
use Rattle.rig_scene.specs.Keys.{key_up_to}

-- the points of strokes
abbrev pub stroke_points : List Stroke → ℕ
stroke_points strokes = sum_by (λ s. length s.points) strokes

-- each point of strokes taken to another
abbrev pub map_points : (V3 → V3) → List Stroke → List Stroke
map_points f strokes = map (λ s. record { points = map f s.points }) strokes

-- the index of the drawing that is held at a frame: that of the last key that is not after it, none before the first
abbrev pub held_drawing : List LayerKey → ℤ → Option ℕ
held_drawing keys frame = option_map (λ k. k.drawing) (key_up_to (λ k. k.frame) frame keys)

-- a point moved by a layer's offset, and carried where the layer is bound to a bone
abbrev pub shown_point : V3 → Option Transform → V3 → V3
shown_point offset None point = v3_sum point offset
shown_point offset (Some deform) point = carry deform (v3_sum point offset)

-- the strokes that a layer shows of the drawing that it holds, none without one
abbrev pub layer_strokes : Option Drawing → V3 → Option Transform → List Stroke
layer_strokes drawing offset deform = option_map_or (λ d. map_points (shown_point offset deform) d.strokes) drawing []

-- the strokes of layers from the first on, up to before the first that would bring more points than there is room for
abbrev pub joined_within : ℕ → List (List Stroke) → List Stroke
joined_within room [] = []
joined_within room (strokes ∷ layers) =
    if nat_le (stroke_points strokes) room then strokes ++ joined_within (room - stroke_points strokes) layers else []

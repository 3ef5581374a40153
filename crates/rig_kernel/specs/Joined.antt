-- The strokes of a pencil's layers, hidden ones among them, which bring none.
use Rattle.std.specs.Prelude.{ℕ, suc, ◌+◌, ◌-◌, List, [], ◌∷◌, ◌++◌, nat_le, if◌then◌else◌}
use Rattle.rig_scene.specs.declared.pencil.Layer.{Layer}
use Rattle.rig_scene.specs.declared.pencil.Stroke.{Stroke}
use Rattle.rig_scene.specs.Layer.{stroke_points}
use Rattle.rig_laws.specs.Output.{Output, strokes_at}

-- what a layer brings, by the input of its index
abbrev pub layer_brings : List Output → ℕ → Layer → List Stroke
layer_brings inputs l layer = if layer.hidden then [] else strokes_at inputs l

-- what each of some layers brings, of which the first has that index
abbrev pub layers_bring : List Output → ℕ → List Layer → List (List Stroke)
layers_bring inputs l [] = []
layers_bring inputs l (layer ∷ layers) = layer_brings inputs l layer ∷ layers_bring inputs (l + 1) layers

-- how many layers there are before the first that brings more points than there is room for
abbrev pub fitting : ℕ → List (List Stroke) → ℕ
fitting room [] = 0
fitting room (strokes ∷ layers) =
    if nat_le (stroke_points strokes) room then suc (fitting (room - stroke_points strokes) layers) else 0

-- strokes one list after the other
abbrev pub joined : List (List Stroke) → List Stroke
joined [] = []
joined (strokes ∷ layers) = strokes ++ joined layers

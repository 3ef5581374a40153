-- A pencil of three drawings, a root without keys, and a short way to write the move of a point, for the worked examples.
use Rattle.std.specs.Prelude.{ℕ, ℤ, pos, List, [], ◌∷◌, codes, false, Some, None}
use Rattle.rig_fixed.specs.Example.{v3_of}
use Rattle.rig_scene.specs.declared.channel.Channel.TheVariants.{LocX}
use Rattle.rig_scene.specs.declared.path.Path.TheVariants as paths
use Rattle.rig_scene.specs.declared.pencil.Drawing.{Drawing}
use Rattle.rig_scene.specs.declared.pencil.Layer.{Layer}
use Rattle.rig_scene.specs.declared.pencil.LayerKey.{LayerKey}
use Rattle.rig_scene.specs.Examples.{layer_key, dot, scene_of, empty_object, channels_at, parent_of}
use Rattle.rig_scene.specs.Scene.{SceneRecord}
use Rattle.rig_edits.specs.declared.edit.Edit.{Edit}
use Rattle.rig_edits.specs.declared.edit.Edit.TheVariants.{MovePoint}

-- a drawing of one dot
abbrev pub dotted : Drawing
dotted = record { strokes = dot (pos 0) (pos 0) (pos 0) ∷ [] }

-- a layer of a name, with keys
abbrev pub layer_of : List ℕ → List LayerKey → Layer
layer_of name keys = record { name = name; hidden = false; offset = v3_of (pos 0) (pos 0) (pos 0); bound = None; keys = keys }

-- a pencil of three drawings: the first layer shows the first and later the second, the other layer the second
abbrev pub three_drawings : SceneRecord
three_drawings = record {
  actions = [];
  armatures = [];
  pencils =
      record {
        name = codes "P";
        action = None;
        drawings = dotted ∷ dotted ∷ dotted ∷ [];
        layers =
            layer_of (codes "a") (layer_key (pos 1) 0 ∷ layer_key (pos 5) 1 ∷ [])
            ∷ layer_of (codes "b") (layer_key (pos 3) 1 ∷ []) ∷ [];
      } ∷ [];
  objects = [];
  drivers = [];
  next = 0;
}

-- the move of the dot of a drawing
abbrev pub point_of : ℤ → Edit
point_of drawing = MovePoint (codes "P") drawing (pos 0) (pos 0) (record { x = pos 1; y = pos 2; z = pos 3 })

-- the root that moves and its child, where the root has no keys and the child stands elsewhere
abbrev pub resting_root : ℤ → SceneRecord
resting_root x = scene_of
    (record { name = codes "Move"; curves = record { path = paths.Own LocX; keys = [] } ∷ [] } ∷ [])
    (empty_object 0 (codes "Root") (channels_at (pos 0) (pos 0) (pos 0)) (Some 0) None
    ∷ empty_object 1 (codes "Child") (channels_at x (pos 0) (pos 0)) None (parent_of 0) ∷ [])
    []

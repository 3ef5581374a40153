-- The shape of a scene: the scene with its values set aside. It says which operations and in-links there are, which paths have curves,
-- how bones lie at rest and what drives what, but no number, switch, drawing or key of any.
use Rattle.std.specs.Prelude.{List, [], ◌∷◌, map, false, pos}
use Rattle.rig_fixed.specs.Vector.{origin}
use Rattle.rig_scene.specs.declared.action.Action.{Action}
use Rattle.rig_scene.specs.declared.action.Curve.{Curve}
use Rattle.rig_scene.specs.declared.modifier.Modifier.{Modifier}
use Rattle.rig_scene.specs.declared.object.Kind.{Kind}
use Rattle.rig_scene.specs.declared.object.Kind.TheVariants.{Empty, Armature, Pencil}
use Rattle.rig_scene.specs.declared.object.Object.{Object}
use Rattle.rig_scene.specs.declared.pencil.Layer.{Layer}
use Rattle.rig_scene.specs.declared.pencil.LayerKey.{LayerKey}
use Rattle.rig_scene.specs.declared.pencil.PencilData.{PencilData}
use Rattle.rig_scene.specs.Scene.{SceneRecord}
use Rattle.rig_edits.specs.Edited.{at_rest}

-- a curve has its path
abbrev pub curve_shape : Curve → Curve
curve_shape c = record c { keys = [] }

-- an action has its name and the paths of its curves, in order
abbrev pub action_shape : Action → Action
action_shape a = record a { curves = map curve_shape a.curves }

-- of a layer's keys, whether there are any: one key stands for all
abbrev pub keys_shape : List LayerKey → List LayerKey
keys_shape [] = []
keys_shape (key ∷ keys) = record { frame = pos 0; drawing = 0 } ∷ []

-- a layer has its name and its bone, too
abbrev pub layer_shape : Layer → Layer
layer_shape l = record l { hidden = false; offset = origin; keys = keys_shape l.keys }

-- a pencil has its name, its action and its layers
abbrev pub pencil_shape : PencilData → PencilData
pencil_shape p = record p { drawings = []; layers = map layer_shape p.layers }

-- a modifier has its name and its effect
abbrev pub modifier_shape : Modifier → Modifier
modifier_shape m = record m { viewport = false; render = false }

-- a kind has its data, and as many poses or the modifiers
abbrev pub kind_shape : Kind → Kind
kind_shape Empty = Empty
kind_shape (Armature armature pose) = Armature armature (map (λ _. at_rest) pose)
kind_shape (Pencil pencil modifiers) = Pencil pencil (map modifier_shape modifiers)

-- an object has its id, its name, its action, its parent and its kind
abbrev pub object_shape : Object → Object
object_shape o = record o { own = at_rest; kind = kind_shape o.kind }

-- Armatures and drivers are as they stand. It is closed to proofs that don't say `unfolding shape`.
unfoldable pub shape : SceneRecord → SceneRecord
shape s = record s {
  actions = map action_shape s.actions;
  pencils = map pencil_shape s.pencils;
  objects = map object_shape s.objects;
}

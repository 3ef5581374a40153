-- A character: an armature of two bones, a pencil that is drawn on them, and an empty object to mirror about.
use Rattle.std.specs.Prelude.{ℕ, pos, List, [], ◌∷◌, codes, true, false, Some, None}
use Rattle.rig_fixed.specs.Example.{v3_of}
use Rattle.rig_scene.specs.declared.action.Action.{Action}
use Rattle.rig_scene.specs.declared.armature.ArmatureData.{ArmatureData}
use Rattle.rig_scene.specs.declared.channel.Axis.TheVariants.{X}
use Rattle.rig_scene.specs.declared.channel.Channel.{Channel}
use Rattle.rig_scene.specs.declared.channel.Channel.TheVariants.{LocX, LocY, LocZ}
use Rattle.rig_scene.specs.declared.driver.Driver.{Driver}
use Rattle.rig_scene.specs.declared.driver.DriverKind.TheVariants.{Sum}
use Rattle.rig_scene.specs.declared.driver.Space.TheVariants as space
use Rattle.rig_scene.specs.declared.driver.Variable.TheVariants as variable
use Rattle.rig_scene.specs.declared.id.AnimId.TheVariants as anim
use Rattle.rig_scene.specs.declared.id.ObjectId.{ObjectId}
use Rattle.rig_scene.specs.declared.modifier.Effect.{Effect}
use Rattle.rig_scene.specs.declared.modifier.Effect.TheVariants as effect
use Rattle.rig_scene.specs.declared.modifier.Modifier.{Modifier}
use Rattle.rig_scene.specs.declared.object.Kind.TheVariants as kind
use Rattle.rig_scene.specs.declared.object.Object.{Object}
use Rattle.rig_scene.specs.declared.path.Path.{Path}
use Rattle.rig_scene.specs.declared.path.Path.TheVariants as paths
use Rattle.rig_scene.specs.declared.pencil.Layer.{Layer}
use Rattle.rig_scene.specs.declared.pencil.PencilData.{PencilData}
use Rattle.rig_scene.specs.Examples.{object, channels_at, empty_object, linear_key, layer_key, dot, upper_bone, upper_pose}
use Rattle.rig_scene.specs.Scene.{SceneRecord}

-- ---- the objects

-- an armature object, a pencil object, and the centre of its mirror
abbrev pub body : ObjectId
body = object 0

abbrev pub sketch : ObjectId
sketch = object 1

abbrev pub centre : ObjectId
centre = object 2

-- the upper bone, and a hand below it
abbrev pub two_bones : ArmatureData
two_bones = record {
  name = codes "A";
  bones = upper_bone ∷ record { name = codes "h"; parent = Some 0; rest = channels_at (pos 0) (pos 1000000) (pos 0) } ∷ [];
}

abbrev pub body_object : Object
body_object = record {
  id = body;
  name = codes "B";
  own = channels_at (pos 0) (pos 0) (pos 0);
  action = Some 0;
  parent = None;
  kind = kind.Armature 0 (upper_pose ∷ channels_at (pos 0) (pos 0) (pos 0) ∷ []);
}

-- a modifier that is on in both modes
abbrev pub modifier : List ℕ → Effect → Modifier
modifier name effect = record { name = name; viewport = true; render = true; effect = effect }

-- a mirror about the centre, and then two copies
abbrev pub sketch_modifiers : List Modifier
sketch_modifiers =
    modifier (codes "m") (effect.Mirror (record { x = true; y = false; z = false; centre = Some centre }))
    ∷ modifier (codes "a") (effect.Array 2 (v3_of (pos 10) (pos 0) (pos 0))) ∷ []

-- the sketch is carried by the hand
abbrev pub sketch_object : Object
sketch_object = record {
  id = sketch;
  name = codes "S";
  own = channels_at (pos 0) (pos 0) (pos 0);
  action = None;
  parent = Some (record { object = body; bone = Some 1 });
  kind = kind.Pencil 0 sketch_modifiers;
}

-- ---- the pencil

-- a layer without keys that is bound to the hand, and a layer with a key that isn't bound
abbrev pub hand_layer : Layer
hand_layer = record {
  name = codes "b";
  hidden = false;
  offset = v3_of (pos 0) (pos 0) (pos 0);
  bound = Some (record { object = body; bone = 1 });
  keys = [];
}

abbrev pub free_layer : Layer
free_layer = record {
  name = codes "k";
  hidden = false;
  offset = v3_of (pos 0) (pos 0) (pos 0);
  bound = None;
  keys = layer_key (pos 1) 0 ∷ [];
}

abbrev pub sketch_pencil : PencilData
sketch_pencil = record {
  name = codes "P";
  action = Some 1;
  drawings = record { strokes = dot (pos 1) (pos 2) (pos 3) ∷ [] } ∷ [];
  layers = hand_layer ∷ free_layer ∷ [];
}

-- ---- the drivers

abbrev pub hand_x : Path
hand_x = paths.Bone (codes "h") LocX

abbrev pub offset_x : Path
offset_x = paths.Layer (codes "b") X

-- The hand's x follows the offset of its layer, which is driven, the body's x, which has a curve, and the centre in the
-- world.
abbrev pub hand_driver : Driver
hand_driver = record {
  id = anim.Object body;
  path = hand_x;
  kind = Sum;
  variables =
      variable.Property (anim.Pencil 0) offset_x
      ∷ variable.Property (anim.Object body) (paths.Own LocX)
      ∷ variable.Transform centre space.World LocX ∷ [];
}

-- the offset of the hand's layer follows the centre's local transform
abbrev pub offset_driver : Driver
offset_driver = record { id = anim.Pencil 0; path = offset_x; kind = Sum; variables = variable.Transform centre space.Local LocY ∷ [] }

-- a number of the centre follows the sketch's x, which is neither driven nor animated
abbrev pub centre_driver : Channel → Driver
centre_driver channel = record {
  id = anim.Object centre;
  path = paths.Own channel;
  kind = Sum;
  variables = variable.Property (anim.Object sketch) (paths.Own LocX) ∷ [];
}

-- ---- the scene

-- an action of one curve
abbrev pub one_curve : List ℕ → Path → Action
one_curve name path = record { name = name; curves = record { path = path; keys = linear_key (pos 1) (pos 0) ∷ [] } ∷ [] }

-- the centre's drivers stand in another order than its channels
abbrev pub character : SceneRecord
character = record {
  actions = one_curve (codes "m") (paths.Own LocX) ∷ one_curve (codes "n") (paths.Layer (codes "k") X) ∷ [];
  armatures = two_bones ∷ [];
  pencils = sketch_pencil ∷ [];
  objects = body_object ∷ sketch_object ∷ empty_object 2 (codes "C") (channels_at (pos 0) (pos 3) (pos 0)) (Some 0) None ∷ [];
  drivers = hand_driver ∷ centre_driver LocZ ∷ offset_driver ∷ centre_driver LocX ∷ [];
  next = 3;
}

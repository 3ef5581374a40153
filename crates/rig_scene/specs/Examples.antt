-- Small scenes, and short ways to write records, on which the definitions are computed.
use Rattle.std.specs.Prelude.{ℕ, ℤ, pos, List, [], ◌∷◌, codes, Bool, true, false, Option, Some, None}
use Rattle.rig_fixed.specs.Rotation.{Rotation}
use Rattle.rig_fixed.specs.Transform.{Transform, identity}
use Rattle.rig_fixed.specs.Example.{v3_of, raw_of}
use Rattle.rig_fixed.specs.declared.vector.V3.{V3}
use Rattle.rig_fixed.specs.declared.rotation.Raw.{Raw}
use Rattle.rig_scene.specs.declared.action.Action.{Action}
use Rattle.rig_scene.specs.declared.action.Interp.TheVariants.{Linear}
use Rattle.rig_scene.specs.declared.action.Key.{Key}
use Rattle.rig_scene.specs.declared.armature.RestBone.{RestBone}
use Rattle.rig_scene.specs.declared.channel.Channel.TheVariants.{LocX}
use Rattle.rig_scene.specs.declared.channel.Channels.{Channels}
use Rattle.rig_scene.specs.declared.driver.Driver.{Driver}
use Rattle.rig_scene.specs.declared.driver.DriverKind.TheVariants.{Sum}
use Rattle.rig_scene.specs.declared.driver.Space.TheVariants as space
use Rattle.rig_scene.specs.declared.driver.Variable.{Variable}
use Rattle.rig_scene.specs.declared.driver.Variable.TheVariants as variable
use Rattle.rig_scene.specs.declared.id.AnimId.TheVariants as anim
use Rattle.rig_scene.specs.declared.id.ObjectId.{ObjectId}
use Rattle.rig_scene.specs.declared.modifier.Effect.{Effect}
use Rattle.rig_scene.specs.declared.modifier.Effect.TheVariants as effect
use Rattle.rig_scene.specs.declared.modifier.Modifier.{Modifier}
use Rattle.rig_scene.specs.declared.object.Kind.TheVariants as kind
use Rattle.rig_scene.specs.declared.object.Object.{Object}
use Rattle.rig_scene.specs.declared.object.Parent.{Parent}
use Rattle.rig_scene.specs.declared.path.Path.TheVariants as paths
use Rattle.rig_scene.specs.declared.pencil.Layer.{Layer as LayerRecord}
use Rattle.rig_scene.specs.declared.pencil.LayerKey.{LayerKey}
use Rattle.rig_scene.specs.declared.pencil.PencilData.{PencilData}
use Rattle.rig_scene.specs.declared.pencil.Stroke.{Stroke}
use Rattle.rig_scene.specs.declared.quantity.Quantity.{Quantity}
use Rattle.rig_scene.specs.declared.quantity.Quantity.TheVariants.{Chan, Local, World, Bone, Layer, Geom}
use Rattle.rig_scene.specs.Scene.{SceneRecord}

-- ---- objects alone

-- a key of a straight line
abbrev pub linear_key : ℤ → ℤ → Key
linear_key frame value = record { frame = frame; value = value; interp = Linear }

-- the id of a serial
abbrev pub object : ℕ → ObjectId
object n = record { 0 = n }

-- channels at a location, without a rotation and of scale 1
abbrev pub channels_at : ℤ → ℤ → ℤ → Channels
channels_at x y z = record {
  loc = record { x = x; y = y; z = z };
  rot = record { w = pos 1000000; x = pos 0; y = pos 0; z = pos 0 };
  scale = pos 1000000;
}

-- a transform at a location, without a rotation and of scale 1
abbrev pub transform_at : ℤ → ℤ → ℤ → Transform
transform_at x y z = record { loc = record { x = x; y = y; z = z }; rot = identity.rot; scale = identity.scale }

-- an empty object of an id, with a name, channels, an action and a parent
abbrev pub empty_object : ℕ → List ℕ → Channels → Option ℕ → Option Parent → Object
empty_object id name own action parent =
    record { id = object id; name = name; own = own; action = action; parent = parent; kind = kind.Empty }

-- a parent by its id
abbrev pub parent_of : ℕ → Option Parent
parent_of id = Some (record { object = object id; bone = None })

-- objects alone, with drivers
abbrev pub scene_of : List Action → List Object → List Driver → SceneRecord
scene_of actions objects drivers =
    record { actions = actions; armatures = []; pencils = []; objects = objects; drivers = drivers; next = 3 }

-- a root that moves by 1 each frame from frame 1 to frame 11, and a child 2 beside it
abbrev pub moving_root : SceneRecord
moving_root = scene_of
    (record {
      name = codes "Move";
      curves = record {
        path = paths.Own LocX;
        keys = linear_key (pos 1) (pos 0) ∷ linear_key (pos 11) (pos 10000000) ∷ [];
      } ∷ [];
    } ∷ [])
    (empty_object 0 (codes "Root") (channels_at (pos 0) (pos 0) (pos 0)) (Some 0) None
    ∷ empty_object 1 (codes "Child") (channels_at (pos 2000000) (pos 0) (pos 0)) None (parent_of 0) ∷ [])
    []

-- the x of an object's location, driven by one variable
abbrev pub driven_x : ℕ → Variable → Driver
driven_x id variable = record { id = anim.Object (object id); path = paths.Own LocX; kind = Sum; variables = variable ∷ [] }

-- a parent whose x follows its child's in the world
abbrev pub parent_after_child : SceneRecord
parent_after_child = scene_of []
    (empty_object 0 (codes "A") (channels_at (pos 0) (pos 0) (pos 0)) None None
    ∷ empty_object 1 (codes "B") (channels_at (pos 1000000) (pos 0) (pos 0)) None (parent_of 0) ∷ [])
    (driven_x 0 (variable.Transform (object 1) space.World LocX) ∷ [])

-- an object whose x follows itself
abbrev pub after_itself : SceneRecord
after_itself = scene_of []
    (empty_object 0 (codes "A") (channels_at (pos 5) (pos 7) (pos 0)) None None ∷ [])
    (driven_x 0 (variable.Property (anim.Object (object 0)) (paths.Own LocX)) ∷ [])

-- three objects, each the parent of the next
abbrev pub ring_of_parents : SceneRecord
ring_of_parents = scene_of []
    (empty_object 0 (codes "A") (channels_at (pos 0) (pos 0) (pos 0)) None (parent_of 2)
    ∷ empty_object 1 (codes "B") (channels_at (pos 0) (pos 0) (pos 0)) None (parent_of 0)
    ∷ empty_object 2 (codes "C") (channels_at (pos 0) (pos 0) (pos 0)) None (parent_of 1) ∷ [])
    []

-- a parent and its child, both as far as a number goes
abbrev pub at_the_limit : SceneRecord
at_the_limit = scene_of []
    (empty_object 0 (codes "A") (channels_at (pos 1000000000000) (pos 0) (pos 0)) None None
    ∷ empty_object 1 (codes "B") (channels_at (pos 1000000000000) (pos 0) (pos 0)) None (parent_of 0) ∷ [])
    []

-- ---- keys, points, transforms and bones

-- a straight line from 0 at frame 0 to a value at frame 2
abbrev pub line_to : ℤ → List Key
line_to value = linear_key (pos 0) (pos 0) ∷ linear_key (pos 2) value ∷ []

-- a layer's key
abbrev pub layer_key : ℤ → ℕ → LayerKey
layer_key frame drawing = record { frame = frame; drawing = drawing }

-- drawing 7 from frame 5 on, and drawing 8 from frame 10 on
abbrev pub two_layer_keys : List LayerKey
two_layer_keys = layer_key (pos 5) 7 ∷ layer_key (pos 10) 8 ∷ []

-- a stroke of one point
abbrev pub dot : ℤ → ℤ → ℤ → Stroke
dot x y z = record { points = v3_of x y z ∷ [] }

-- a mirror without a centre object
abbrev pub mirror_on : Bool → Bool → Bool → Effect
mirror_on x y z = effect.Mirror (record { x = x; y = y; z = z; centre = None })

-- a transform of one unit's size
abbrev pub unit_transform : V3 → Rotation → Transform
unit_transform loc rot = record { loc = loc; rot = rot; scale = pos 1000000 }

-- eight numbers of a location and a rotation, of one unit's size
abbrev pub unit_channels : V3 → Raw → Channels
unit_channels loc rot = record { loc = loc; rot = rot; scale = pos 1000000 }

-- the four numbers of no rotation, and of a quarter turn about the third axis
abbrev pub no_turn : Raw
no_turn = raw_of (pos 1000000) (pos 0) (pos 0) (pos 0)

abbrev pub quarter_turn : Raw
quarter_turn = raw_of (pos 707107) (pos 0) (pos 0) (pos 707107)

-- a root bone a unit along the second axis, and its pose half a unit along the first
abbrev pub upper_bone : RestBone
upper_bone = record { name = 98 ∷ []; parent = None; rest = unit_channels (v3_of (pos 0) (pos 1000000) (pos 0)) no_turn }

abbrev pub upper_pose : Channels
upper_pose = unit_channels (v3_of (pos 500000) (pos 0) (pos 0)) no_turn

-- ---- a parent and its child, and an armature with a pencil

-- the ids of two objects
abbrev pub parent_id : ObjectId
parent_id = record { 0 = 0 }

abbrev pub child_id : ObjectId
child_id = record { 0 = 1 }

-- an object a unit along the first axis, turned by a quarter, and its child, which is as far from it
abbrev pub parent_object : Object
parent_object = record {
  id = parent_id;
  name = 97 ∷ [];
  own = unit_channels (v3_of (pos 1000000) (pos 0) (pos 0)) quarter_turn;
  action = None;
  parent = None;
  kind = kind.Empty;
}

abbrev pub child_object : Object
child_object = record {
  id = child_id;
  name = 99 ∷ [];
  own = unit_channels (v3_of (pos 1000000) (pos 0) (pos 0)) no_turn;
  action = None;
  parent = Some (record { object = parent_id; bone = None });
  kind = kind.Empty;
}

-- a driver of the child's x by twice the x of the other in the world
abbrev pub child_driver : Driver
child_driver = record {
  id = anim.Object child_id;
  path = paths.Own LocX;
  kind = Sum;
  variables = variable.Transform parent_id space.World LocX ∷ variable.Transform parent_id space.World LocX ∷ [];
}

-- an armature object of that one bone, and a pencil object, not turned
abbrev pub rig_id : ObjectId
rig_id = record { 0 = 2 }

abbrev pub line_id : ObjectId
line_id = record { 0 = 3 }

abbrev pub rig_object : Object
rig_object = record {
  id = rig_id;
  name = 114 ∷ [];
  own = unit_channels (v3_of (pos 2000000) (pos 0) (pos 0)) no_turn;
  action = None;
  parent = None;
  kind = kind.Armature 0 (upper_pose ∷ []);
}

-- two modifiers: two copies at render alone, and a mirror about the armature object in the viewport alone
abbrev pub line_modifiers : List Modifier
line_modifiers =
    record { name = 97 ∷ []; viewport = false; render = true; effect = effect.Array 2 (v3_of (pos 10) (pos 0) (pos 0)) }
    ∷ record {
      name = 109 ∷ [];
      viewport = true;
      render = false;
      effect = effect.Mirror (record { x = true; y = false; z = false; centre = Some rig_id });
    }
    ∷ []

abbrev pub line_object : Object
line_object = record {
  id = line_id;
  name = 108 ∷ [];
  own = unit_channels (v3_of (pos 0) (pos 0) (pos 0)) no_turn;
  action = None;
  parent = None;
  kind = kind.Pencil 0 line_modifiers;
}

-- a layer that is bound to the bone from frame 5 on, under a hidden one
abbrev pub bound_layer : LayerRecord
bound_layer = record {
  name = 98 ∷ [];
  hidden = false;
  offset = v3_of (pos 0) (pos 0) (pos 4);
  bound = Some (record { object = rig_id; bone = 0 });
  keys = layer_key (pos 5) 0 ∷ [];
}

abbrev pub hidden_layer : LayerRecord
hidden_layer = record {
  name = 104 ∷ [];
  hidden = true;
  offset = v3_of (pos 0) (pos 0) (pos 0);
  bound = None;
  keys = layer_key (pos 0) 0 ∷ [];
}

abbrev pub line_pencil : PencilData
line_pencil = record {
  name = 112 ∷ [];
  action = None;
  drawings = record { strokes = dot (pos 1) (pos 2) (pos 3) ∷ [] } ∷ [];
  layers = hidden_layer ∷ bound_layer ∷ [];
}

-- the armature object and the pencil object
abbrev pub line_scene : SceneRecord
line_scene = record {
  actions = [];
  armatures = record { name = 97 ∷ []; bones = upper_bone ∷ [] } ∷ [];
  pencils = line_pencil ∷ [];
  objects = rig_object ∷ line_object ∷ [];
  drivers = [];
  next = 4;
}

-- the two objects, under drivers
abbrev pub pair_scene : List Driver → SceneRecord
pair_scene drivers = record {
  actions = [];
  armatures = [];
  pencils = [];
  objects = parent_object ∷ child_object ∷ [];
  drivers = drivers;
  next = 2;
}

-- no read is cut; each read of a bone is; each read of a world transform is
abbrev pub none_cut : Quantity → Quantity → Bool
none_cut source reader = false

abbrev pub bones_cut : Quantity → Quantity → Bool
bones_cut (Chan id path) reader = false
bones_cut (Local o) reader = false
bones_cut (World o) reader = false
bones_cut (Bone o b) reader = true
bones_cut (Layer p l) reader = false
bones_cut (Geom o i) reader = false

abbrev pub worlds_cut : Quantity → Quantity → Bool
worlds_cut (Chan id path) reader = false
worlds_cut (Local o) reader = false
worlds_cut (World o) reader = true
worlds_cut (Bone o b) reader = false
worlds_cut (Layer p l) reader = false
worlds_cut (Geom o i) reader = false

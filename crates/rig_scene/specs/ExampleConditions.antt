-- Short ways to write scenes that are whole but for one condition.
use Rattle.std.specs.Prelude.{ℕ, ℤ, pos, List, [], ◌∷◌, codes, map, true, false, Option, Some, None}
use Rattle.rig_fixed.specs.Example.{v3_of}
use Rattle.rig_scene.specs.declared.action.Action.{Action}
use Rattle.rig_scene.specs.declared.action.Curve.{Curve}
use Rattle.rig_scene.specs.declared.armature.ArmatureData.{ArmatureData}
use Rattle.rig_scene.specs.declared.armature.RestBone.{RestBone}
use Rattle.rig_scene.specs.declared.channel.Channel.TheVariants.{LocX}
use Rattle.rig_scene.specs.declared.driver.Driver.{Driver}
use Rattle.rig_scene.specs.declared.driver.DriverKind.TheVariants.{Sum}
use Rattle.rig_scene.specs.declared.driver.Variable.{Variable}
use Rattle.rig_scene.specs.declared.driver.Variable.TheVariants as variable
use Rattle.rig_scene.specs.declared.id.AnimId.{AnimId}
use Rattle.rig_scene.specs.declared.id.AnimId.TheVariants as anim
use Rattle.rig_scene.specs.declared.modifier.Effect.{Effect}
use Rattle.rig_scene.specs.declared.modifier.Effect.TheVariants as effect
use Rattle.rig_scene.specs.declared.modifier.Modifier.{Modifier}
use Rattle.rig_scene.specs.declared.object.Kind.{Kind}
use Rattle.rig_scene.specs.declared.object.Kind.TheVariants as kind
use Rattle.rig_scene.specs.declared.object.Object.{Object}
use Rattle.rig_scene.specs.declared.object.Parent.{Parent}
use Rattle.rig_scene.specs.declared.path.Path.{Path}
use Rattle.rig_scene.specs.declared.path.Path.TheVariants as paths
use Rattle.rig_scene.specs.declared.pencil.BoneRef.{BoneRef}
use Rattle.rig_scene.specs.declared.pencil.Layer.{Layer}
use Rattle.rig_scene.specs.declared.pencil.LayerKey.{LayerKey}
use Rattle.rig_scene.specs.declared.pencil.PencilData.{PencilData}
use Rattle.rig_scene.specs.Examples.{object, channels_at, linear_key, dot}
use Rattle.rig_scene.specs.Scene.{SceneRecord}

-- ---- actions

-- an action of curves, a curve with keys at frames, and a scene of actions alone
abbrev pub action : List ℕ → List Curve → Action
action name curves = record { name = name; curves = curves }

abbrev pub curve : Path → List ℤ → Curve
curve path frames = record { path = path; keys = map (λ frame. linear_key frame (pos 0)) frames }

abbrev pub of_actions : List Action → SceneRecord
of_actions actions = record { actions = actions; armatures = []; pencils = []; objects = []; drivers = []; next = 0 }

-- one curve with keys at frames
abbrev pub of_frames : List ℤ → SceneRecord
of_frames frames = of_actions (action (codes "a") (curve (paths.Own LocX) frames ∷ []) ∷ [])

-- ---- armatures

-- an armature, a bone of it, and a scene of armatures alone
abbrev pub armature : List ℕ → List RestBone → ArmatureData
armature name bones = record { name = name; bones = bones }

abbrev pub bone : List ℕ → Option ℕ → ℤ → RestBone
bone name parent scale = record { name = name; parent = parent; rest = record (channels_at (pos 0) (pos 0) (pos 0)) { scale = scale } }

abbrev pub of_armatures : List ArmatureData → SceneRecord
of_armatures armatures = record { actions = []; armatures = armatures; pencils = []; objects = []; drivers = []; next = 0 }

-- one armature
abbrev pub of_bones : List RestBone → SceneRecord
of_bones bones = of_armatures (armature (codes "a") bones ∷ [])

-- ---- objects

-- an object with an action and a parent, and one of a kind alone
abbrev pub with_parent : ℕ → List ℕ → Option ℕ → Option Parent → Object
with_parent id name action parent =
    record { id = object id; name = name; own = channels_at (pos 0) (pos 0) (pos 0); action = action; parent = parent; kind = kind.Empty }

abbrev pub of_kind : ℕ → List ℕ → Kind → Object
of_kind id name kind = record (with_parent id name None None) { kind = kind }

-- a mirror about an object, and an array
abbrev pub mirror_about : ℕ → Effect
mirror_about id = effect.Mirror (record { x = true; y = false; z = false; centre = Some (object id) })

abbrev pub copies : ℕ → Effect
copies count = effect.Array count (v3_of (pos 0) (pos 0) (pos 0))

-- an armature object 0 of one bone, b
abbrev pub arm : Object
arm = of_kind 0 (codes "A") (kind.Armature 0 (channels_at (pos 0) (pos 0) (pos 0) ∷ []))

-- ---- pencils

-- a pencil of one drawing, layers of it with keys at frames, and the bone of an object
abbrev pub pencil : List ℕ → Option ℕ → List Layer → PencilData
pencil name action layers =
    record { name = name; action = action; drawings = record { strokes = dot (pos 0) (pos 0) (pos 0) ∷ [] } ∷ []; layers = layers }

abbrev pub layer : List ℕ → Option BoneRef → List LayerKey → Layer
layer name bound keys = record { name = name; hidden = false; offset = v3_of (pos 0) (pos 0) (pos 0); bound = bound; keys = keys }

abbrev pub bone_of : ℕ → ℕ → Option BoneRef
bone_of id bone = Some (record { object = object id; bone = bone })

-- pencils beside the armature object
abbrev pub of_pencils : List PencilData → SceneRecord
of_pencils pencils = record {
  actions = action (codes "a") [] ∷ [];
  armatures = armature (codes "a") (bone (codes "b") None (pos 1) ∷ []) ∷ [];
  pencils = pencils;
  objects = arm ∷ [];
  drivers = [];
  next = 3;
}

-- one pencil, and one layer
abbrev pub of_layers : List Layer → SceneRecord
of_layers layers = of_pencils (pencil (codes "p") None layers ∷ [])

abbrev pub of_layer : Option BoneRef → List LayerKey → SceneRecord
of_layer bound keys = of_layers (layer (codes "l") bound keys ∷ [])

-- objects after the armature object, of which ids below 3 are given, beside one action and one pencil with a layer l
abbrev pub of_objects : List Object → SceneRecord
of_objects objects = record (of_pencils (pencil (codes "p") None (layer (codes "l") None [] ∷ []) ∷ [])) { objects = arm ∷ objects }

-- one object with an action and a parent, one of a kind, and one with a stack of modifiers
abbrev pub of_object : Option ℕ → Option Parent → SceneRecord
of_object action parent = of_objects (with_parent 1 (codes "B") action parent ∷ [])

abbrev pub of_one_kind : Kind → SceneRecord
of_one_kind kind = of_objects (of_kind 1 (codes "B") kind ∷ [])

abbrev pub of_modifiers : List Modifier → SceneRecord
of_modifiers modifiers = of_one_kind (kind.Pencil 0 modifiers)

-- a parent, and its bone
abbrev pub parent_with : ℕ → Option ℕ → Option Parent
parent_with id bone = Some (record { object = object id; bone = bone })

-- ---- drivers

-- a driver of a channel
abbrev pub driver : AnimId → Path → List Variable → Driver
driver id path variables = record { id = id; path = path; kind = Sum; variables = variables }

-- drivers in a scene of the armature object, an empty object 1 and the pencil
abbrev pub of_drivers : List Driver → SceneRecord
of_drivers drivers = record (of_objects (with_parent 1 (codes "B") None None ∷ [])) { drivers = drivers }

-- the armature object, the empty object, an object that isn't there, and the pencil
abbrev pub arm_id : AnimId
arm_id = anim.Object (object 0)

abbrev pub empty_id : AnimId
empty_id = anim.Object (object 1)

abbrev pub absent_id : AnimId
absent_id = anim.Object (object 2)

-- one driver of a channel, and one driver of the empty object with variables
abbrev pub of_channel : AnimId → Path → SceneRecord
of_channel id path = of_drivers (driver id path (variable.Property empty_id (paths.Own LocX) ∷ []) ∷ [])

abbrev pub of_variables : List Variable → SceneRecord
of_variables variables = of_drivers (driver empty_id (paths.Own LocX) variables ∷ [])

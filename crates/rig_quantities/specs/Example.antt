-- The scene of the tests: an armature object, a pencil object that its hand carries, and the centre of the pencil object's mirror.
use Rattle.std.specs.Prelude.{ℕ, pos, List, [], ◌∷◌, codes, true, false, Option, Some, None}
use Rattle.rig_fixed.specs.Example.{v3_of}
use Rattle.rig_scene.specs.declared.armature.ArmatureData.{ArmatureData}
use Rattle.rig_scene.specs.declared.armature.RestBone.{RestBone}
use Rattle.rig_scene.specs.declared.channel.Axis.TheVariants.{X}
use Rattle.rig_scene.specs.declared.channel.Channel.{Channel}
use Rattle.rig_scene.specs.declared.channel.Channel.TheVariants.{LocX, LocZ, Scale}
use Rattle.rig_scene.specs.declared.channel.Channels.{Channels}
use Rattle.rig_scene.specs.declared.driver.Driver.{Driver}
use Rattle.rig_scene.specs.declared.driver.DriverKind.TheVariants.{Sum}
use Rattle.rig_scene.specs.declared.driver.Space.{Space}
use Rattle.rig_scene.specs.declared.driver.Space.TheVariants as space
use Rattle.rig_scene.specs.declared.driver.Variable.{Variable}
use Rattle.rig_scene.specs.declared.driver.Variable.TheVariants as variable
use Rattle.rig_scene.specs.declared.id.AnimId.{AnimId}
use Rattle.rig_scene.specs.declared.id.AnimId.TheVariants as anim
use Rattle.rig_scene.specs.declared.modifier.Effect.TheVariants as effect
use Rattle.rig_scene.specs.declared.modifier.Modifier.{Modifier}
use Rattle.rig_scene.specs.declared.object.Kind.{Kind}
use Rattle.rig_scene.specs.declared.object.Kind.TheVariants as kind
use Rattle.rig_scene.specs.declared.object.Object.{Object}
use Rattle.rig_scene.specs.declared.object.Parent.{Parent}
use Rattle.rig_scene.specs.declared.path.Path.{Path}
use Rattle.rig_scene.specs.declared.path.Path.TheVariants as paths
use Rattle.rig_scene.specs.declared.pencil.PencilData.{PencilData}
use Rattle.rig_scene.specs.Examples.{object, channels_at}
use Rattle.rig_scene.specs.Scene.{SceneRecord}

abbrev pub rest : Channels
rest = channels_at (pos 0) (pos 0) (pos 0)

-- an object that no action moves
abbrev pub object_of_kind : ℕ → List ℕ → Option Parent → Kind → Object
object_of_kind id name parent kind = record { id = object id; name = name; own = rest; action = None; parent = parent; kind = kind }

-- a driver that adds
abbrev pub sum_of : AnimId → Path → List Variable → Driver
sum_of id path variables = record { id = id; path = path; kind = Sum; variables = variables }

abbrev pub empties : List Object
empties = object_of_kind 0 (codes "A") None kind.Empty ∷ object_of_kind 1 (codes "B") None kind.Empty ∷ []

abbrev pub two_empties : SceneRecord
two_empties = record { actions = []; armatures = []; pencils = []; objects = empties; drivers = []; next = 2 }

-- a root bone and a hand
abbrev pub bone : List ℕ → Option ℕ → RestBone
bone name parent = record { name = name; parent = parent; rest = rest }

abbrev pub arm : ArmatureData
arm = record { name = codes "A"; bones = bone (codes "r") None ∷ bone (codes "h") (Some 0) ∷ [] }

-- one layer, bound to the hand
abbrev pub sketch : PencilData
sketch = record {
  name = codes "P";
  action = None;
  drawings = [];
  layers = record {
    name = codes "b";
    hidden = false;
    offset = v3_of (pos 0) (pos 0) (pos 0);
    bound = Some (record { object = object 0; bone = 1 });
    keys = [];
  } ∷ [];
}

abbrev pub mirror : Modifier
mirror = record {
  name = codes "m";
  viewport = true;
  render = true;
  effect = effect.Mirror (record { x = true; y = false; z = false; centre = Some (object 3) });
}

-- no object has id 2 any more
abbrev pub objects : List Object
objects =
    object_of_kind 0 (codes "B") None (kind.Armature 0 (rest ∷ rest ∷ []))
    ∷ object_of_kind 1 (codes "S") (Some (record { object = object 0; bone = Some 1 })) (kind.Pencil 0 (mirror ∷ []))
    ∷ object_of_kind 3 (codes "C") None kind.Empty ∷ []

abbrev pub hand_x : Path
hand_x = paths.Bone (codes "h") LocX

abbrev pub offset_x : Path
offset_x = paths.Layer (codes "b") X

abbrev pub transform : ℕ → Space → Variable
transform id space = variable.Transform (object id) space LocX

-- the hand follows the driven offset, a number that isn't driven, and the centre
abbrev pub hand_driver : Driver
hand_driver = sum_of (anim.Object (object 0)) hand_x
    (variable.Property (anim.Pencil 0) offset_x ∷ variable.Property (anim.Object (object 1)) (paths.Own LocX) ∷ transform 3 space.World ∷ [])

abbrev pub centre_driver : Channel → Driver
centre_driver channel = sum_of (anim.Object (object 3)) (paths.Own channel) (transform 0 (space.Pose 1) ∷ [])

-- the centre's drivers stand in another order than its channels
abbrev pub drivers : List Driver
drivers =
    centre_driver Scale ∷ hand_driver ∷ sum_of (anim.Pencil 0) offset_x (transform 3 space.Local ∷ []) ∷ centre_driver LocZ ∷ []

abbrev pub character : SceneRecord
character = record { actions = []; armatures = arm ∷ []; pencils = sketch ∷ []; objects = objects; drivers = drivers; next = 4 }

-- Two small scenes, which the tests make.
use Rattle.std.specs.Prelude.{ℕ, pos, List, [], ◌∷◌, codes, true, false, Option, Some, None}
use Rattle.rig_scene.specs.declared.armature.ArmatureData.{ArmatureData}
use Rattle.rig_scene.specs.declared.channel.Axis.TheVariants.{X}
use Rattle.rig_scene.specs.declared.channel.Channel.TheVariants.{LocX}
use Rattle.rig_scene.specs.declared.channel.Channels.{Channels}
use Rattle.rig_scene.specs.declared.driver.Driver.{Driver}
use Rattle.rig_scene.specs.declared.driver.DriverKind.TheVariants.{Sum}
use Rattle.rig_scene.specs.declared.driver.Space.TheVariants as space
use Rattle.rig_scene.specs.declared.driver.Variable.TheVariants as variable
use Rattle.rig_scene.specs.declared.id.AnimId.{AnimId}
use Rattle.rig_scene.specs.declared.id.AnimId.TheVariants as anim
use Rattle.rig_scene.specs.declared.modifier.Effect.TheVariants as effect
use Rattle.rig_scene.specs.declared.modifier.Modifier.{Modifier}
use Rattle.rig_scene.specs.declared.object.Kind.{Kind}
use Rattle.rig_scene.specs.declared.object.Kind.TheVariants as kind
use Rattle.rig_scene.specs.declared.object.Object.{Object}
use Rattle.rig_scene.specs.declared.path.Path.{Path}
use Rattle.rig_scene.specs.declared.path.Path.TheVariants as paths
use Rattle.rig_scene.specs.declared.pencil.PencilData.{PencilData}
use Rattle.rig_scene.specs.Examples.{object, channels_at}
use Rattle.rig_scene.specs.Scene.{SceneRecord}

-- where nothing is moved, turned or scaled
abbrev pub rest : Channels
rest = channels_at (pos 0) (pos 0) (pos 0)

-- an object that nothing carries
abbrev pub object_of_kind : ℕ → List ℕ → Option ℕ → Kind → Object
object_of_kind id name action kind = record { id = object id; name = name; own = rest; action = action; parent = None; kind = kind }

-- ---- two empties, of which the first has an action

abbrev pub two_empties : SceneRecord
two_empties = record {
  actions = record { name = codes "Move"; curves = [] } ∷ [];
  armatures = [];
  pencils = [];
  objects = object_of_kind 0 (codes "Root") (Some 0) kind.Empty ∷ object_of_kind 1 (codes "Child") None kind.Empty ∷ [];
  drivers = [];
  next = 2;
}

-- ---- an armature object of two bones, and a pencil object with two modifiers; what is driven follows the armature object

abbrev pub arm : ArmatureData
arm = record {
  name = codes "Arm";
  bones = record { name = codes "upper"; parent = None; rest = rest } ∷ record { name = codes "lower"; parent = Some 0; rest = rest } ∷ [];
}

abbrev pub ink : PencilData
ink = record {
  name = codes "Ink";
  action = None;
  drawings = [];
  layers = record { name = codes "line"; hidden = false; offset = rest.loc; bound = None; keys = [] } ∷ [];
}

abbrev pub rig : Object
rig = object_of_kind 3 (codes "Rig") None (kind.Armature 0 (rest ∷ rest ∷ []))

abbrev pub modifier : List ℕ → Modifier
modifier name = record { name = name; viewport = true; render = true; effect = effect.Offset rest.loc rest.scale }

abbrev pub face : Object
face = object_of_kind 7 (codes "Face") None (kind.Pencil 0 (modifier (codes "low") ∷ modifier (codes "high") ∷ []))

abbrev pub follower : AnimId → Path → Driver
follower id path = record { id = id; path = path; kind = Sum; variables = variable.Transform (object 3) space.World LocX ∷ [] }

abbrev pub inked_rig : SceneRecord
inked_rig = record {
  actions = [];
  armatures = arm ∷ [];
  pencils = ink ∷ [];
  objects = rig ∷ face ∷ [];
  drivers = follower (anim.Object (object 7)) (paths.Own LocX) ∷ follower (anim.Pencil 0) (paths.Layer (codes "line") X) ∷ [];
  next = 8;
}

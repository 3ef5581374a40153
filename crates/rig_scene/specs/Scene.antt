-- A scene as the record of its lists, and how its records are found.
use Rattle.std.specs.Prelude.{ℕ, List, slice_get, Option, None}
use Rattle.std.specs.List.{find}
use Rattle.rig_scene.specs.declared.id.ObjectId.{ObjectId}
use Rattle.rig_scene.specs.declared.action.Action.{Action}
use Rattle.rig_scene.specs.declared.armature.ArmatureData.{ArmatureData}
use Rattle.rig_scene.specs.declared.pencil.PencilData.{PencilData}
use Rattle.rig_scene.specs.declared.object.Kind.{Kind}
use Rattle.rig_scene.specs.declared.object.Kind.TheVariants.{Empty, Armature, Pencil}
use Rattle.rig_scene.specs.declared.object.Object.{Object}
use Rattle.rig_scene.specs.declared.driver.Driver.{Driver}
use Rattle.rig_scene.specs.Id.{same_object}

pub record SceneRecord : Type 0 where
  pub actions : List Action
  pub armatures : List ArmatureData
  pub pencils : List PencilData
  pub objects : List Object
  pub drivers : List Driver
  pub next : ℕ

-- the object of an id
abbrev pub object_of : SceneRecord → ObjectId → Option Object
object_of scene id = find (λ o. same_object o.id id) scene.objects

-- the armature of an object's kind
abbrev pub armature_of : SceneRecord → Kind → Option ArmatureData
armature_of scene Empty = None
armature_of scene (Armature armature pose) = slice_get scene.armatures armature
armature_of scene (Pencil pencil modifiers) = None

-- the pencil of an object's kind
abbrev pub pencil_of : SceneRecord → Kind → Option PencilData
pencil_of scene Empty = None
pencil_of scene (Armature armature pose) = None
pencil_of scene (Pencil pencil modifiers) = slice_get scene.pencils pencil

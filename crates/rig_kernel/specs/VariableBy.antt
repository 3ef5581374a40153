-- The number of a driver's variable as the code finds it, by the first of its inputs.
use Rattle.std.specs.Prelude.{◌≡◌, ℕ, ◌&&◌, List, slice_get, Bool, false, Option, Some, None, option_map, option_and_then, if◌then◌else◌, ℤ, ⊤}
use Rattle.rig_scene.specs.declared.id.AnimId.{AnimId}
use Rattle.rig_scene.specs.declared.driver.Variable.{Variable}
use Rattle.rig_scene.specs.declared.driver.Variable.TheVariants as variable
use Rattle.rig_scene.specs.declared.object.Object.{Object}
use Rattle.rig_scene.specs.declared.operation.OpId.{OpId}
use Rattle.rig_scene.specs.declared.operation.OpId.TheVariants.{Time, Animation, Driver, Local, World, PoseInit, Bone, PoseDone, Layer, Geometry, ModifierOp, GeometryDone}
use Rattle.rig_scene.specs.declared.path.Path.{Path}
use Rattle.rig_scene.specs.declared.path.Path.TheVariants as paths
use Rattle.rig_scene.specs.declared.pencil.PencilData.{PencilData}
use Rattle.std.specs.List.{find}
use Rattle.rig_scene.specs.Channel.{channel_of, coordinate_of}
use Rattle.rig_scene.specs.ChannelNumber.{pose_named}
use Rattle.rig_scene.specs.Drivers.{driver_of, is_driven, action_index}
use Rattle.rig_scene.specs.Id.{same_id}
use Rattle.rig_scene.specs.Path.{same_path}
use Rattle.rig_scene.specs.Scene.{SceneRecord}
use Rattle.rig_scene.specs.Text.{same_text}
use Rattle.rig_scene.specs.Value.{number_in}
use Rattle.rig_kernel.specs.LayerBy.{animation_count}
use Rattle.rig_laws.specs.Output.{Output, number_at}

-- whether an operation is the driver of a channel
abbrev pub is_driver_of : AnimId → Path → OpId → Bool
is_driver_of id path Time = false
is_driver_of id path (Animation other) = false
is_driver_of id path (Driver i p) = same_id i id && same_path p path
is_driver_of id path (Local o) = false
is_driver_of id path (World o) = false
is_driver_of id path (PoseInit o) = false
is_driver_of id path (Bone o b) = false
is_driver_of id path (PoseDone o) = false
is_driver_of id path (Layer p l) = false
is_driver_of id path (Geometry o) = false
is_driver_of id path (ModifierOp o i) = false
is_driver_of id path (GeometryDone o) = false

-- the number of the driver of a channel, if it is the input of an index
abbrev pub driven_at : List Output → ℕ → AnimId → Path → Option ℤ
driven_at inputs index id path =
    option_and_then (λ (i : Output). if is_driver_of id path i.op then Some (number_in i.value) else None) (slice_get inputs index)

-- that the driver of a variable's channel is the input of an index exactly where it has one
abbrev pub TakesItsDriver : SceneRecord → Variable → List Output → ℕ → Type 0
TakesItsDriver scene (variable.Property id path) inputs index =
    driven_at inputs index id path ≡ option_map (λ d. number_at inputs index) (driver_of scene id path)
TakesItsDriver scene (variable.Transform object space channel) inputs index = ⊤

-- how many inputs a variable takes
abbrev pub taken_by : SceneRecord → Variable → ℕ
taken_by scene (variable.Property id path) = if is_driven scene id path then 1 else animation_count (action_index scene id)
taken_by scene (variable.Transform object space channel) = 1

-- the original number of a path of an object
abbrev pub object_number : SceneRecord → Object → Path → Option ℤ
object_number scene object (paths.Own channel) = Some (channel_of object.own channel)
object_number scene object (paths.Bone name channel) = option_map (λ pose. channel_of pose channel) (pose_named scene object.kind name)
object_number scene object (paths.Layer name axis) = None

-- the original number of a path of a pencil
abbrev pub pencil_number : PencilData → Path → Option ℤ
pencil_number pencil (paths.Own channel) = None
pencil_number pencil (paths.Bone name channel) = None
pencil_number pencil (paths.Layer name axis) = option_map (λ layer. coordinate_of layer.offset axis) (find (λ l. same_text l.name name) pencil.layers)

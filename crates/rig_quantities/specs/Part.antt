-- The channels of a part of a scene: an object's own, those of a bone, and the axes of a layer's offset.
use Rattle.std.specs.Prelude.{ℕ, List, Option, Some, None, if◌then◌else◌}
use Rattle.rig_scene.specs.declared.channel.Axis.{Axis}
use Rattle.rig_scene.specs.declared.channel.Channel.{Channel}
use Rattle.rig_scene.specs.declared.driver.Driver.{Driver}
use Rattle.rig_scene.specs.declared.id.AnimId.TheVariants as anim
use Rattle.rig_scene.specs.declared.id.ObjectId.{ObjectId}
use Rattle.rig_scene.specs.declared.path.Path.{Path}
use Rattle.rig_scene.specs.declared.path.Path.TheVariants.{Own, Bone, Layer}
use Rattle.rig_scene.specs.Id.{same_id}
use Rattle.rig_scene.specs.Text.{same_text}

-- the path of a channel of an object itself, or of its bone of a name
abbrev pub channel_path : Option (List ℕ) → Channel → Path
channel_path None channel = Own channel
channel_path (Some name) channel = Bone name channel

-- the channel that a path is of there
abbrev pub channel_in : Option (List ℕ) → Path → Option Channel
channel_in None (Own channel) = Some channel
channel_in (Some bone) (Bone name channel) = if same_text name bone then Some channel else None
channel_in _ _ = None

-- the axis of the layer of a name that a path is of
abbrev pub axis_in : List ℕ → Path → Option Axis
axis_in layer (Own channel) = None
axis_in layer (Bone name channel) = None
axis_in layer (Layer name axis) = if same_text name layer then Some axis else None

-- the channel of an object, or of its bone, that a driver is of
abbrev pub driven_channel : ObjectId → Option (List ℕ) → Driver → Option Channel
driven_channel id bone driver = if same_id driver.id (anim.Object id) then channel_in bone driver.path else None

-- the axis of a pencil's layer that a driver is of
abbrev pub driven_axis : ℕ → List ℕ → Driver → Option Axis
driven_axis pencil layer driver = if same_id driver.id (anim.Pencil pencil) then axis_in layer driver.path else None

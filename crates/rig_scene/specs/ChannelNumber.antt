-- The number of a channel: what its driver gives, else its curve at the frame, else the original number.
use Rattle.std.specs.Prelude.{ℕ, List, [], map, slice_get, Option, None, option_map, option_and_then, unwrap_or, ℤ, pos}
use Rattle.std.specs.Option.{option_or, option_map_or}
use Rattle.std.specs.List.{find, position}
use Rattle.rig_scene.specs.declared.action.Action.{Action}
use Rattle.rig_scene.specs.declared.channel.Channels.{Channels}
use Rattle.rig_scene.specs.declared.id.AnimId.{AnimId}
use Rattle.rig_scene.specs.declared.id.AnimId.TheVariants as anim
use Rattle.rig_scene.specs.declared.object.Kind.{Kind}
use Rattle.rig_scene.specs.declared.object.Kind.TheVariants.{Empty, Armature, Pencil}
use Rattle.rig_scene.specs.declared.path.Path.{Path}
use Rattle.rig_scene.specs.declared.path.Path.TheVariants.{Own, Bone, Layer}
use Rattle.rig_scene.specs.Channel.{channel_of, coordinate_of}
use Rattle.rig_scene.specs.Curve.{curve_value}
use Rattle.rig_scene.specs.Path.{same_path}
use Rattle.rig_scene.specs.Scene.{SceneRecord, object_of, armature_of}
use Rattle.rig_scene.specs.Text.{same_text}

-- the original pose of the bone of an index
abbrev pub pose_of : Kind → ℕ → Option Channels
pose_of Empty bone = None
pose_of (Armature armature pose) bone = slice_get pose bone
pose_of (Pencil pencil modifiers) bone = None

-- the original pose of the bone of a name
abbrev pub pose_named : SceneRecord → Kind → List ℕ → Option Channels
pose_named scene kind name =
    option_and_then (pose_of kind)
    (option_and_then (λ a. position (λ b. same_text b.name name) a.bones) (armature_of scene kind))

-- the original number of a path, where the id has it
unfoldable pub original_number : SceneRecord → AnimId → Path → Option ℤ
original_number scene (anim.Object o) (Own channel) = option_map (λ object. channel_of object.own channel) (object_of scene o)
original_number scene (anim.Object o) (Bone name channel) =
    option_and_then (λ object. option_map (λ pose. channel_of pose channel) (pose_named scene object.kind name)) (object_of scene o)
original_number scene (anim.Object o) (Layer name axis) = None
original_number scene (anim.Pencil p) (Own channel) = None
original_number scene (anim.Pencil p) (Bone name channel) = None
original_number scene (anim.Pencil p) (Layer name axis) =
    option_and_then (λ pencil. option_map (λ layer. coordinate_of layer.offset axis) (find (λ l. same_text l.name name) pencil.layers))
    (slice_get scene.pencils p)

-- the action of an id, if it has one
abbrev pub action_of : SceneRecord → AnimId → Option Action
action_of scene (anim.Object o) = option_and_then (λ object. option_and_then (slice_get scene.actions) object.action) (object_of scene o)
action_of scene (anim.Pencil p) =
    option_and_then (λ pencil. option_and_then (slice_get scene.actions) pencil.action) (slice_get scene.pencils p)

-- what each curve of an action gives at a frame, in order
abbrev pub action_numbers : Action → ℤ → List (Option ℤ)
action_numbers action frame = map (λ c. curve_value c frame) action.curves

-- the number of a path's curve among those of an action's curves
abbrev pub number_among : Action → List (Option ℤ) → Path → Option ℤ
number_among action numbers path =
    option_and_then (λ i. option_and_then (λ number. number) (slice_get numbers i)) (position (λ c. same_path c.path path) action.curves)

-- what the curves of an id's action give at a frame, none without an action
abbrev pub id_numbers : SceneRecord → ℤ → AnimId → List (Option ℤ)
id_numbers scene frame id = option_map_or (λ action. action_numbers action frame) (action_of scene id) []

-- what the curve of a path in the id's action gives, by what its curves give
unfoldable pub animated_number : SceneRecord → (AnimId → List (Option ℤ)) → AnimId → Path → Option ℤ
animated_number scene numbers id path = option_and_then (λ action. number_among action (numbers id) path) (action_of scene id)

-- the number of a channel: what its driver gives, else what its curve gives, else the original number
abbrev pub number_by : Option ℤ → Option ℤ → ℤ → ℤ
number_by driven animated original = unwrap_or (option_or driven animated) original

-- the number of the channel of a path of an id, by what its curves give, and by what its driver gives where it has one
abbrev pub number_of : SceneRecord → (AnimId → List (Option ℤ)) → AnimId → Path → Option ℤ → ℤ
number_of scene numbers id path driven =
    number_by driven (animated_number scene numbers id path) (unwrap_or (original_number scene id path) (pos 0))

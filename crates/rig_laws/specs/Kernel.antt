-- The value of each operation, by the outputs that it takes from its in-links, in their order. They are told apart by their
-- place alone: one operation can stand twice among them.
use Rattle.std.specs.Prelude.{ℕ, zero, suc, ◌+◌, List, [], ◌∷◌, length, map, drop, slice_get, filter, Bool, true, false, not, if◌then◌else◌, Option, Some, None, option_map, option_and_then, ℤ, pos}
use Rattle.std.specs.Option.{option_map_or}
use Rattle.std.specs.List.{enumerate_from, position}
use Rattle.rig_fixed.specs.Transform.{Transform as TransformRecord, identity, carry, inverse}
use Rattle.rig_fixed.specs.Vector.{origin}
use Rattle.rig_fixed.specs.declared.vector.V3.{V3}
use Rattle.rig_scene.specs.declared.channel.Channels.{Channels}
use Rattle.rig_scene.specs.declared.driver.Driver.{Driver as DriverRecord}
use Rattle.rig_scene.specs.declared.driver.Variable.{Variable}
use Rattle.rig_scene.specs.declared.driver.Variable.TheVariants as variable
use Rattle.rig_scene.specs.declared.id.AnimId.{AnimId}
use Rattle.rig_scene.specs.declared.id.AnimId.TheVariants as anim
use Rattle.rig_scene.specs.declared.armature.RestBone.{RestBone}
use Rattle.rig_scene.specs.declared.id.ObjectId.{ObjectId}
use Rattle.rig_scene.specs.declared.limits.TheConstants.{MAX_RESULT_POINTS}
use Rattle.rig_scene.specs.declared.modifier.Effect.{Effect}
use Rattle.rig_scene.specs.declared.modifier.Effect.TheVariants.{Offset, Mirror, Array}
use Rattle.rig_scene.specs.declared.modifier.Mode.{Mode}
use Rattle.rig_scene.specs.declared.modifier.Modifier.{Modifier}
use Rattle.rig_scene.specs.declared.object.Kind.{Kind}
use Rattle.rig_scene.specs.declared.object.Object.{Object}
use Rattle.rig_scene.specs.declared.object.Parent.{Parent}
use Rattle.rig_scene.specs.declared.operation.OpId.{OpId}
use Rattle.rig_scene.specs.declared.operation.OpId.TheVariants.{Time, Animation, Driver, Local, World, PoseInit, Bone, PoseDone, Layer, Geometry, ModifierOp, GeometryDone}
use Rattle.rig_scene.specs.declared.path.Path.{Path}
use Rattle.rig_scene.specs.declared.path.Path.TheVariants as paths
use Rattle.rig_scene.specs.declared.pencil.BoneRef.{BoneRef}
use Rattle.rig_scene.specs.declared.pencil.Layer.{Layer as LayerRecord}
use Rattle.rig_scene.specs.declared.pencil.PencilData.{PencilData}
use Rattle.rig_scene.specs.declared.pencil.Stroke.{Stroke}
use Rattle.rig_scene.specs.declared.quantity.Quantity.{Quantity}
use Rattle.rig_scene.specs.declared.quantity.Quantity.TheVariants as quantity
use Rattle.rig_scene.specs.Channel.{channels, axes, channel_of, channels_by, coordinate_of, v3_by, transform_number}
use Rattle.rig_scene.specs.ChannelNumber.{pose_of, action_of, action_numbers, animated_number, number_by, number_of}
use Rattle.rig_scene.specs.Combine.{driver_value}
use Rattle.rig_scene.specs.Drivers.{driver_of, driven_paths, has_action}
use Rattle.rig_scene.specs.Layer.{held_drawing, layer_strokes, joined_within}
use Rattle.rig_scene.specs.Modify.{is_on}
use Rattle.rig_scene.specs.Operations.{animation_of, variable_links, layer_time}
use Rattle.rig_scene.specs.Path.{same_path}
use Rattle.rig_scene.specs.Pose.{transform_of, carried_by, parent_space, bone_transform, rest_chain}
use Rattle.rig_scene.specs.Quantities.{modifiers_of}
use Rattle.rig_scene.specs.Scene.{SceneRecord, object_of, armature_of, pencil_of}
use Rattle.rig_scene.specs.Value.{Value, Numbers, Number, Transform, Strokes, deform_unless, modify_if}
use Rattle.rig_scene.specs.WellFormed.{bones_of}
use Rattle.rig_laws.specs.Output.{Output, numbers_at, number_at, transform_at, strokes_at, is_rest_at, frame_at, time_value}

-- ---- channels

-- what the curves of an id's action give, where the first input is that of the id's animation if it has an action
abbrev pub curve_numbers : SceneRecord → AnimId → List Output → List (Option ℤ)
curve_numbers scene id inputs = if has_action scene id then numbers_at inputs 0 else []

-- the inputs behind that of an id's animation
abbrev pub after_animation : SceneRecord → AnimId → List Output → List Output
after_animation scene id inputs = drop (length (animation_of scene id)) inputs

-- what the driver of a path gives, where it has one: the inputs are those of the driven ones of some paths, in their order
abbrev pub driven_number : SceneRecord → AnimId → List Path → List Output → Path → Option ℤ
driven_number scene id paths inputs path = option_map (number_at inputs) (position (same_path path) (driven_paths scene id paths))

-- the number of a channel of an id, by what its curves give, by the inputs of the driven ones of some paths, and by its
-- original number
abbrev pub channel_number : SceneRecord → AnimId → List (Option ℤ) → List Path → List Output → Path → ℤ → ℤ
channel_number scene id numbers paths inputs path original =
    number_by (driven_number scene id paths inputs path) (animated_number scene (λ other. numbers) id path) original

-- ---- drivers

-- the number of a variable whose input, where it takes one, is the first
abbrev pub variable_number : SceneRecord → Variable → List Output → ℤ
variable_number scene (variable.Property id path) inputs =
    number_of scene (λ other. numbers_at inputs 0) id path (option_map (λ d. number_at inputs 0) (driver_of scene id path))
variable_number scene (variable.Transform object space channel) inputs = transform_number (transform_at inputs 0) channel

-- the numbers of the variables of the driver of a quantity, each by its own inputs
abbrev pub variable_numbers : SceneRecord → Quantity → List Variable → List Output → List ℤ
variable_numbers scene reader [] inputs = []
variable_numbers scene reader (v ∷ variables) inputs =
    variable_number scene v inputs
    ∷ variable_numbers scene reader variables (drop (length (variable_links scene reader v)) inputs)

-- the number that a driver makes of its variables
unfoldable pub driver_number : SceneRecord → DriverRecord → List Output → ℤ
driver_number scene d inputs = driver_value d (variable_numbers scene (quantity.Chan d.id d.path) d.variables inputs)

-- ---- transforms

-- an object relative to what carries it: the animation, then the driven ones of its own channels
unfoldable pub local_transform : SceneRecord → Object → List Output → TransformRecord
local_transform scene object inputs =
    transform_of (channels_by (λ channel.
    channel_number scene (anim.Object object.id) (curve_numbers scene (anim.Object object.id) inputs) (map paths.Own channels)
    (after_animation scene (anim.Object object.id) inputs) (paths.Own channel) (channel_of object.own channel)))

-- what a parent carries an object by: its world transform, then its bone
abbrev pub parent_transform : Parent → List Output → TransformRecord
parent_transform parent inputs = parent_space (transform_at inputs 0) (option_map (λ bone. transform_at inputs 1) parent.bone)

-- an object in the world: its local transform, then its parent
unfoldable pub world_transform : Object → List Output → TransformRecord
world_transform object inputs =
    carried_by (option_map (λ parent. parent_transform parent (drop 1 inputs)) object.parent) (transform_at inputs 0)

-- the paths of a bone's channels, in order
abbrev pub bone_paths : RestBone → List Path
bone_paths bone = map (paths.Bone bone.name) channels

-- a bone in the armature's space: the start of the pose, then its driven channels, then its parent bone
unfoldable pub pose_transform : SceneRecord → ObjectId → RestBone → Channels → List Output → TransformRecord
pose_transform scene o bone pose inputs =
    bone_transform
    (option_map (λ parent. transform_at (drop 1 inputs) (length (driven_paths scene (anim.Object o) (bone_paths bone)))) bone.parent)
    bone.rest
    (channels_by (λ channel.
    channel_number scene (anim.Object o) (numbers_at inputs 0) (bone_paths bone) (drop 1 inputs) (paths.Bone bone.name channel)
    (channel_of pose channel)))

-- ---- strokes

-- the paths of a layer's offset, in order
abbrev pub layer_paths : LayerRecord → List Path
layer_paths layer = map (paths.Layer layer.name) axes

-- how the bone deforms that a layer is bound to, by the input of that bone: not at all where its link is cut
abbrev pub bound_deform : SceneRecord → BoneRef → List Output → ℕ → TransformRecord
bound_deform scene bound inputs k =
    deform_unless (is_rest_at inputs k) (transform_at inputs k)
    (option_map_or (λ bones. rest_chain bones bound.bone) (bones_of scene bound.object) identity)

-- the offset of the layer of a pencil: the animation, then the driven ones of its axes
abbrev pub layer_offset : SceneRecord → ℕ → LayerRecord → List Output → V3
layer_offset scene p layer inputs =
    v3_by (λ axis.
    channel_number scene (anim.Pencil p) (curve_numbers scene (anim.Pencil p) inputs) (layer_paths layer)
    (after_animation scene (anim.Pencil p) inputs) (paths.Layer layer.name axis) (coordinate_of layer.offset axis))

-- the place of the bone that a layer is bound to, behind its driven axes
abbrev pub bound_place : SceneRecord → ℕ → LayerRecord → ℕ
bound_place scene p layer = length (driven_paths scene (anim.Pencil p) (layer_paths layer))

-- the strokes that a layer shows of the drawing that it holds at a frame: the inputs are those behind the time
unfoldable pub layer_shown : SceneRecord → ℕ → PencilData → LayerRecord → ℤ → List Output → List Stroke
layer_shown scene p pencil layer frame inputs =
    layer_strokes (option_and_then (slice_get pencil.drawings) (held_drawing layer.keys frame)) (layer_offset scene p layer inputs)
    (option_map (λ bound. bound_deform scene bound (after_animation scene (anim.Pencil p) inputs) (bound_place scene p layer)) layer.bound)

-- the strokes of each of a pencil's layers that aren't hidden, from the bottom one up
abbrev pub visible_layers : PencilData → List Output → List (List Stroke)
visible_layers pencil inputs = map (λ l. strokes_at inputs l.0) (filter (λ l. not l.1.hidden) (enumerate_from 0 pencil.layers))

-- the centre of a mirror in the object's own space: 0, or where another object is, by the world transforms of both
abbrev pub mirror_centre : Effect → List Output → V3
mirror_centre (Offset loc scale) inputs = origin
mirror_centre (Mirror mirror) inputs =
    option_map_or (λ centre. carry (inverse (transform_at inputs 0)) (transform_at inputs 1).loc) mirror.centre origin
mirror_centre (Array count offset) inputs = origin

-- the strokes under a modifier where it is on: the strokes before it, then the transforms of a mirror
unfoldable pub modified_strokes : Mode → Modifier → List Output → List Stroke
modified_strokes mode modifier inputs =
    modify_if (is_on mode modifier) modifier.effect (mirror_centre modifier.effect (drop 1 inputs)) (strokes_at inputs 0)

-- ---- operations

abbrev pub bone_output : SceneRecord → ObjectId → ℕ → Kind → List Output → Option Value
bone_output scene o b kind inputs =
    option_and_then (λ armature. option_and_then (λ bone. option_map (λ pose. Transform (pose_transform scene o bone pose inputs))
    (pose_of kind b)) (slice_get armature.bones b)) (armature_of scene kind)

abbrev pub layer_output : SceneRecord → ℕ → ℕ → List Output → PencilData → Option Value
layer_output scene p l inputs pencil =
    option_map (λ layer. Strokes (layer_shown scene p pencil layer (frame_at inputs 0) (drop (length (layer_time scene p l)) inputs)))
    (slice_get pencil.layers l)

abbrev pub modifier_output : Mode → ℕ → List Output → Object → Option Value
modifier_output mode zero inputs object = None
modifier_output mode (suc before) inputs object =
    option_map (λ modifier. Strokes (modified_strokes mode modifier inputs)) (slice_get (modifiers_of object.kind) before)

abbrev pub geometry_output : SceneRecord → List Output → Kind → Option Value
geometry_output scene inputs kind =
    option_map (λ pencil. Strokes (joined_within MAX_RESULT_POINTS (visible_layers pencil inputs))) (pencil_of scene kind)

-- The value of an operation over the outputs that it takes from its in-links, in their order; none of what the scene hasn't.
-- The frame is that of the time, and is looked at by no other operation.
unfoldable pub kernel : SceneRecord → Mode → ℤ → OpId → List Output → Option Value
kernel scene mode frame Time inputs = Some (time_value frame)
kernel scene mode frame (Animation id) inputs = option_map (λ action. Numbers (action_numbers action (frame_at inputs 0))) (action_of scene id)
kernel scene mode frame (Driver id path) inputs = option_map (λ d. Number (driver_number scene d inputs)) (driver_of scene id path)
kernel scene mode frame (Local o) inputs = option_map (λ object. Transform (local_transform scene object inputs)) (object_of scene o)
kernel scene mode frame (World o) inputs = option_map (λ object. Transform (world_transform object inputs)) (object_of scene o)
kernel scene mode frame (PoseInit o) inputs =
    option_map (λ object. Numbers (curve_numbers scene (anim.Object o) inputs)) (object_of scene o)
kernel scene mode frame (Bone o b) inputs = option_and_then (λ object. bone_output scene o b object.kind inputs) (object_of scene o)
kernel scene mode frame (PoseDone o) inputs = option_map (λ object. Numbers []) (object_of scene o)
kernel scene mode frame (Layer p l) inputs = option_and_then (layer_output scene p l inputs) (slice_get scene.pencils p)
kernel scene mode frame (Geometry o) inputs = option_and_then (λ object. geometry_output scene inputs object.kind) (object_of scene o)
kernel scene mode frame (ModifierOp o i) inputs = option_and_then (modifier_output mode i inputs) (object_of scene o)
kernel scene mode frame (GeometryDone o) inputs = option_map (λ object. Strokes (strokes_at inputs 0)) (object_of scene o)

-- The value of each quantity of a scene at a frame, from scratch: by recursion to a depth, over the records alone.
use Rattle.std.specs.Prelude.{ℕ, zero, suc, List, [], length, map, slice_get, filter, Bool, true, false, not, Option, None, option_map, option_and_then, ℤ, pos}
use Rattle.std.specs.Option.{option_map_or}
use Rattle.std.specs.List.{enumerate_from}
use Rattle.rig_fixed.specs.Transform.{Transform as TransformRecord, identity, carry, inverse}
use Rattle.rig_fixed.specs.Vector.{origin}
use Rattle.rig_fixed.specs.declared.vector.V3.{V3}
use Rattle.rig_scene.specs.declared.id.AnimId.{AnimId}
use Rattle.rig_scene.specs.declared.id.AnimId.TheVariants as anim
use Rattle.rig_scene.specs.declared.channel.Channels.{Channels}
use Rattle.rig_scene.specs.declared.id.ObjectId.{ObjectId}
use Rattle.rig_scene.specs.declared.path.Path.{Path}
use Rattle.rig_scene.specs.declared.path.Path.TheVariants as paths
use Rattle.rig_scene.specs.declared.armature.RestBone.{RestBone}
use Rattle.rig_scene.specs.declared.pencil.BoneRef.{BoneRef}
use Rattle.rig_scene.specs.declared.limits.TheConstants.{MAX_RESULT_POINTS}
use Rattle.rig_scene.specs.declared.pencil.Layer.{Layer as LayerRecord}
use Rattle.rig_scene.specs.declared.pencil.LayerKey.{LayerKey}
use Rattle.rig_scene.specs.declared.pencil.PencilData.{PencilData}
use Rattle.rig_scene.specs.declared.pencil.Stroke.{Stroke}
use Rattle.rig_scene.specs.declared.modifier.Mode.{Mode}
use Rattle.rig_scene.specs.declared.modifier.Effect.{Effect}
use Rattle.rig_scene.specs.declared.modifier.Effect.TheVariants.{Offset, Mirror, Array}
use Rattle.rig_scene.specs.declared.modifier.Modifier.{Modifier}
use Rattle.rig_scene.specs.declared.object.Kind.{Kind}
use Rattle.rig_scene.specs.declared.object.Kind.TheVariants as kind
use Rattle.rig_scene.specs.declared.object.Object.{Object}
use Rattle.rig_scene.specs.declared.object.Parent.{Parent}
use Rattle.rig_scene.specs.declared.driver.Driver.{Driver}
use Rattle.rig_scene.specs.declared.driver.Variable.{Variable}
use Rattle.rig_scene.specs.declared.driver.Variable.TheVariants as variable
use Rattle.rig_scene.specs.declared.quantity.Quantity.{Quantity}
use Rattle.rig_scene.specs.declared.quantity.Quantity.TheVariants.{Chan, Local, World, Bone, Layer, Geom}
use Rattle.rig_scene.specs.Scene.{SceneRecord, object_of, armature_of}
use Rattle.rig_scene.specs.WellFormed.{bones_of}
use Rattle.rig_scene.specs.Drivers.{driver_of}
use Rattle.rig_scene.specs.Quantities.{quantities, space_quantity}
use Rattle.rig_scene.specs.Cut.{cuts, is_among}
use Rattle.rig_scene.specs.Channel.{channel_of, channels_by, coordinate_of, v3_by, transform_number}
use Rattle.rig_scene.specs.ChannelNumber.{pose_of, id_numbers, animated_number, number_by, number_of}
use Rattle.rig_scene.specs.Combine.{driver_value}
use Rattle.rig_scene.specs.Pose.{transform_of, carried_by, parent_space, bone_transform, rest_chain, deform_of}
use Rattle.rig_scene.specs.Layer.{held_drawing, layer_strokes, joined_within}
use Rattle.rig_scene.specs.Modify.{modify, is_on}

-- What a quantity or another operation gives at a frame: what the curves of an action give, a number, a transform or
-- strokes. A quantity has no numbers.
pub data Value : Type 0 where
  Numbers : List (Option ℤ) → Value
  Number : ℤ → Value
  Transform : TransformRecord → Value
  Strokes : List Stroke → Value

-- what a cut read gives in the place of its source: 0, the identity, or no strokes
abbrev pub rest_of : Quantity → Value
rest_of (Chan id path) = Number (pos 0)
rest_of (Local o) = Transform identity
rest_of (World o) = Transform identity
rest_of (Bone o b) = Transform identity
rest_of (Layer p l) = Strokes []
rest_of (Geom o i) = Strokes []

-- the numbers of a value, none where it is of another kind
abbrev pub numbers_in : Value → List (Option ℤ)
numbers_in (Numbers numbers) = numbers
numbers_in (Number number) = []
numbers_in (Transform transform) = []
numbers_in (Strokes strokes) = []

-- the number of a value, that of a cut read where it is of another kind
abbrev pub number_in : Value → ℤ
number_in (Numbers numbers) = pos 0
number_in (Number number) = number
number_in (Transform transform) = pos 0
number_in (Strokes strokes) = pos 0

-- the transform of a value, likewise
abbrev pub transform_in : Value → TransformRecord
transform_in (Numbers numbers) = identity
transform_in (Number number) = identity
transform_in (Transform transform) = transform
transform_in (Strokes strokes) = identity

-- the strokes of a value, likewise
abbrev pub strokes_in : Value → List Stroke
strokes_in (Numbers numbers) = []
strokes_in (Number number) = []
strokes_in (Transform transform) = []
strokes_in (Strokes strokes) = strokes

-- ---- what a frame decides

-- all that is read of the frame itself: what the curves of each id's action give, and which drawing keys of a layer hold
pub record FrameInputs : Type 0 where
  pub numbers : AnimId → List (Option ℤ)
  pub drawing : List LayerKey → Option ℕ

abbrev pub inputs_at : SceneRecord → ℤ → FrameInputs
inputs_at scene frame = record { numbers = id_numbers scene frame; drawing = λ keys. held_drawing keys frame }

-- ---- channels, by what each source gives

-- what the driver of a path gives, where it has one
abbrev pub driven_number : SceneRecord → (Quantity → Value) → AnimId → Path → Option ℤ
driven_number scene get id path = option_map (λ d. number_in (get (Chan id path))) (driver_of scene id path)

-- the number of a channel whose original number is given
abbrev pub number_at : SceneRecord → FrameInputs → (Quantity → Value) → AnimId → Path → ℤ → ℤ
number_at scene inputs get id path original =
    number_by (driven_number scene get id path) (animated_number scene inputs.numbers id path) original

-- the number of a driver's variable
abbrev pub variable_number : SceneRecord → FrameInputs → (Quantity → Value) → Variable → ℤ
variable_number scene inputs get (variable.Property id path) =
    number_of scene inputs.numbers id path (driven_number scene get id path)
variable_number scene inputs get (variable.Transform object space channel) =
    transform_number (transform_in (get (space_quantity object space))) channel

-- the number that a driver makes of its variables
unfoldable pub driver_number : SceneRecord → FrameInputs → (Quantity → Value) → Driver → ℤ
driver_number scene inputs get d = driver_value d (map (variable_number scene inputs get) d.variables)

-- ---- transforms

-- an object relative to what carries it, by its own channels
unfoldable pub local_transform : SceneRecord → FrameInputs → (Quantity → Value) → Object → TransformRecord
local_transform scene inputs get object =
    transform_of
    (channels_by (λ channel. number_at scene inputs get (anim.Object object.id) (paths.Own channel) (channel_of object.own channel)))

-- what an object's parent carries it by
abbrev pub parent_transform : (Quantity → Value) → Parent → TransformRecord
parent_transform get parent =
    parent_space (transform_in (get (World parent.object)))
    (option_map (λ bone. transform_in (get (Bone parent.object bone))) parent.bone)

-- an object in the world
unfoldable pub world_transform : (Quantity → Value) → Object → TransformRecord
world_transform get object = carried_by (option_map (parent_transform get) object.parent) (transform_in (get (Local object.id)))

-- a bone in the armature's space, by the channels of its pose
unfoldable pub pose_transform : SceneRecord → FrameInputs → (Quantity → Value) → ObjectId → RestBone → Channels → TransformRecord
pose_transform scene inputs get o bone pose =
    bone_transform (option_map (λ parent. transform_in (get (Bone o parent))) bone.parent) bone.rest
    (channels_by (λ channel. number_at scene inputs get (anim.Object o) (paths.Bone bone.name channel) (channel_of pose channel)))

-- ---- strokes

-- how the bone deforms that a layer is bound to: not at all where its read is cut
abbrev pub deform_unless : Bool → TransformRecord → TransformRecord → TransformRecord
deform_unless true bone rest = identity
deform_unless false bone rest = deform_of bone rest

abbrev pub bound_deform : SceneRecord → (Quantity → Bool) → (Quantity → Value) → BoneRef → TransformRecord
bound_deform scene cut get bound =
    deform_unless (cut (Bone bound.object bound.bone)) (transform_in (get (Bone bound.object bound.bone)))
    (option_map_or (λ bones. rest_chain bones bound.bone) (bones_of scene bound.object) identity)

-- the offset of the layer of a pencil, by its channels
abbrev pub layer_offset : SceneRecord → FrameInputs → (Quantity → Value) → ℕ → LayerRecord → V3
layer_offset scene inputs get p layer =
    v3_by (λ axis. number_at scene inputs get (anim.Pencil p) (paths.Layer layer.name axis) (coordinate_of layer.offset axis))

-- the strokes of the layer of a pencil
unfoldable pub shown_layer : SceneRecord → FrameInputs → (Quantity → Bool) → (Quantity → Value) → ℕ → PencilData → LayerRecord → List Stroke
shown_layer scene inputs cut get p pencil layer =
    layer_strokes (option_and_then (slice_get pencil.drawings) (inputs.drawing layer.keys)) (layer_offset scene inputs get p layer)
    (option_map (bound_deform scene cut get) layer.bound)

-- the strokes of each of a pencil's layers that aren't hidden, from the bottom one up
abbrev pub visible_layers : (Quantity → Value) → ℕ → PencilData → List (List Stroke)
visible_layers get p pencil = map (λ l. strokes_in (get (Layer p l.0))) (filter (λ l. not l.1.hidden) (enumerate_from 0 pencil.layers))

-- those strokes joined, as far as there is room
unfoldable pub joined_layers : (Quantity → Value) → ℕ → PencilData → List Stroke
joined_layers get p pencil = joined_within MAX_RESULT_POINTS (visible_layers get p pencil)

-- the centre of a mirror in the object's own space: 0, or where another object is
abbrev pub mirror_centre : (Quantity → Value) → ObjectId → Effect → V3
mirror_centre get o (Offset loc scale) = origin
mirror_centre get o (Mirror mirror) =
    option_map_or (λ centre. carry (inverse (transform_in (get (World o)))) (transform_in (get (World centre))).loc) mirror.centre origin
mirror_centre get o (Array count offset) = origin

-- strokes under a modifier where it is on
abbrev pub modify_if : Bool → Effect → V3 → List Stroke → List Stroke
modify_if true effect centre strokes = modify effect centre strokes
modify_if false effect centre strokes = strokes

-- the strokes of an object after a modifier, whose input are those after so many modifiers
unfoldable pub modified_strokes : Mode → (Quantity → Value) → ObjectId → ℕ → Modifier → List Stroke
modified_strokes mode get o before modifier =
    modify_if (is_on mode modifier) modifier.effect (mirror_centre get o modifier.effect) (strokes_in (get (Geom o before)))

-- ---- values

-- the value of the bone of an index, of an object's kind
abbrev pub bone_value : SceneRecord → FrameInputs → (Quantity → Value) → ObjectId → ℕ → Kind → Option Value
bone_value scene inputs get o b kind =
    option_and_then (λ armature. option_and_then (λ bone. option_map (λ pose. Transform (pose_transform scene inputs get o bone pose))
    (pose_of kind b)) (slice_get armature.bones b)) (armature_of scene kind)

-- the value of an object's geometry after so many of its modifiers
abbrev pub geometry_value : SceneRecord → Mode → (Quantity → Value) → ObjectId → ℕ → Kind → Option Value
geometry_value scene mode get o i kind.Empty = None
geometry_value scene mode get o i (kind.Armature armature pose) = None
geometry_value scene mode get o zero (kind.Pencil p modifiers) =
    option_map (λ pencil. Strokes (joined_layers get p pencil)) (slice_get scene.pencils p)
geometry_value scene mode get o (suc i) (kind.Pencil p modifiers) =
    option_map (λ modifier. Strokes (modified_strokes mode get o i modifier)) (slice_get modifiers i)

-- the value of a quantity, by what the frame decides, by what each source gives and whether the read of it is cut; none of
-- what the scene hasn't
abbrev pub value_from : SceneRecord → Mode → FrameInputs → (Quantity → Bool) → (Quantity → Value) → Quantity → Option Value
value_from scene mode inputs cut get (Chan id path) =
    option_map (λ d. Number (driver_number scene inputs get d)) (driver_of scene id path)
value_from scene mode inputs cut get (Local o) =
    option_map (λ object. Transform (local_transform scene inputs get object)) (object_of scene o)
value_from scene mode inputs cut get (World o) = option_map (λ object. Transform (world_transform get object)) (object_of scene o)
value_from scene mode inputs cut get (Bone o b) =
    option_and_then (λ object. bone_value scene inputs get o b object.kind) (object_of scene o)
value_from scene mode inputs cut get (Layer p l) =
    option_and_then (λ pencil. option_map (λ layer. Strokes (shown_layer scene inputs cut get p pencil layer)) (slice_get pencil.layers l))
    (slice_get scene.pencils p)
value_from scene mode inputs cut get (Geom o i) =
    option_and_then (λ object. geometry_value scene mode get o i object.kind) (object_of scene o)

-- the same at a frame
abbrev pub value_by : SceneRecord → Mode → ℤ → (Quantity → Bool) → (Quantity → Value) → Quantity → Option Value
value_by scene mode frame cut get q = value_from scene mode (inputs_at scene frame) cut get q

-- what a read gives: the rest value of its source where it is cut, else the source's value
abbrev pub read_value : Bool → (Quantity → Value) → Quantity → Value
read_value true values source = rest_of source
read_value false values source = values source

-- the value of a quantity to a depth, where a test of source and reader says which reads are cut: at depth 0 what
-- a cut read gives, and below it each kept read has its source's value one depth less
abbrev pub value_at : (Quantity → Quantity → Bool) → SceneRecord → Mode → ℤ → ℕ → Quantity → Value
value_at is_cut scene mode frame zero q = rest_of q
value_at is_cut scene mode frame (suc depth) q =
    option_map_or (λ value. value)
    (value_by scene mode frame (λ source. is_cut source q)
    (λ source. read_value (is_cut source q) (value_at is_cut scene mode frame depth) source) q)
    (rest_of q)

-- The value of a quantity of a scene at a frame. Kept reads make no cycle, so that a depth of the number of quantities
-- leads to what reads nothing. It is closed to proofs that don't say `unfolding val`.
unfoldable pub val : SceneRecord → Mode → ℤ → Quantity → Value
val scene mode frame q = value_at (is_among (cuts scene)) scene mode frame (length (quantities scene)) q

-- A quantity's value looks at the values of what it reads alone.
use Rattle.std.specs.Prelude.{◌≡◌, ℕ, zero, suc, ◌+◌, List, [], ◌∷◌, map, length, filter, Bool, true, not, Option, Some, None, is_some, slice_get, if◌then◌else◌, option_map, option_and_then, ℤ, Contains}
use Rattle.std.specs.Option.{option_map_or}
use Rattle.std.specs.List.{flat_map, range_with_len, enumerate_from}
use Rattle.std.proofs.Common.{refl, sym, ap, subst, arith}
use Rattle.std.proofs.lemmas.Option.{slice_get_within}
use Rattle.std.proofs.lemmas.List.Elements.{All-head, All-tail, All-contains, All-filter, All-weaker}
use Rattle.rig_fixed.specs.declared.vector.V3.{V3}
use Rattle.rig_fixed.specs.Transform.{identity, carry, inverse}
use Rattle.rig_fixed.specs.Vector.{origin}
use Rattle.rig_cycles.specs.Elements.{element_map, element_kept}
use Rattle.rig_scene.specs.declared.armature.RestBone.{RestBone}
use Rattle.rig_scene.specs.declared.armature.ArmatureData.{ArmatureData}
use Rattle.rig_scene.specs.declared.id.AnimId.{AnimId}
use Rattle.rig_scene.specs.declared.id.AnimId.TheVariants as anim
use Rattle.rig_scene.specs.declared.channel.Axis.{Axis}
use Rattle.rig_scene.specs.declared.channel.Axis.TheVariants.{X, Y, Z}
use Rattle.rig_scene.specs.declared.channel.Channel.{Channel}
use Rattle.rig_scene.specs.declared.channel.Channel.TheVariants.{LocX, LocY, LocZ, RotW, RotX, RotY, RotZ, Scale}
use Rattle.rig_scene.specs.declared.channel.Channels.{Channels}
use Rattle.rig_scene.specs.declared.id.ObjectId.{ObjectId}
use Rattle.rig_scene.specs.declared.path.Path.{Path}
use Rattle.rig_scene.specs.declared.path.Path.TheVariants as path
use Rattle.rig_scene.specs.declared.driver.Driver.{Driver}
use Rattle.rig_scene.specs.declared.driver.Variable.{Variable}
use Rattle.rig_scene.specs.declared.driver.Variable.TheVariants as variable
use Rattle.rig_scene.specs.declared.modifier.Effect.{Effect}
use Rattle.rig_scene.specs.declared.modifier.Effect.TheVariants.{Offset, Mirror, Array}
use Rattle.rig_scene.specs.declared.modifier.Mode.{Mode}
use Rattle.rig_scene.specs.declared.modifier.Modifier.{Modifier}
use Rattle.rig_scene.specs.declared.object.Kind.{Kind}
use Rattle.rig_scene.specs.declared.object.Kind.TheVariants as kind
use Rattle.rig_scene.specs.declared.object.Object.{Object}
use Rattle.rig_scene.specs.declared.object.Parent.{Parent}
use Rattle.rig_scene.specs.declared.pencil.BoneRef.{BoneRef}
use Rattle.rig_scene.specs.declared.pencil.Layer.{Layer as LayerRecord}
use Rattle.rig_scene.specs.declared.pencil.PencilData.{PencilData}
use Rattle.rig_scene.specs.declared.quantity.Quantity.{Quantity}
use Rattle.rig_scene.specs.declared.quantity.Quantity.TheVariants.{Chan, Local, World, Bone, Layer, Geom}
use Rattle.rig_scene.specs.Scene.{SceneRecord, object_of, armature_of}
use Rattle.rig_scene.specs.WellFormed.{bones_of}
use Rattle.rig_scene.specs.Drivers.{driver_of, is_driven, driven_paths}
use Rattle.rig_scene.specs.Quantities.{inner_read, reference_read, space_quantity, variable_reads, driven_reads, parent_reads, bone_reads, layer_reads, effect_reads, geometry_reads, reads}
use Rattle.rig_scene.specs.Channel.{channels, axes, channel_of, channels_by, coordinate_of, v3_by, transform_number}
use Rattle.rig_scene.specs.ChannelNumber.{pose_of, animated_number, number_by, number_of}
use Rattle.rig_scene.specs.Combine.{driver_value}
use Rattle.rig_scene.specs.Pose.{transform_of, carried_by, parent_space, bone_transform, rest_chain}
use Rattle.rig_scene.specs.declared.limits.TheConstants.{MAX_RESULT_POINTS}
use Rattle.rig_scene.specs.Layer.{layer_strokes, joined_within}
use Rattle.rig_scene.specs.Modify.{is_on}
use Rattle.rig_scene.specs.Value.{Value, FrameInputs, Number, Transform, Strokes, number_in, transform_in, strokes_in, driven_number, number_at, variable_number, driver_number, local_transform, parent_transform, world_transform, pose_transform, deform_unless, bound_deform, shown_layer, joined_layers, mirror_centre, modify_if, modified_strokes, bone_value, geometry_value, value_from}
use Rattle.rig_laws.specs.Lists.{All-left, All-right, All-each, All-enumerate, map_same, Contains-range}
use Rattle.rig_laws.specs.ValueOver.{AgreeOn}
use Rattle.rig_laws.specs.FoundObject.{found_id}

-- ---- channels

driven_if : (get other : Quantity → Value) (q : Quantity) (o : Option Driver) → (is_some o ≡ true → get q ≡ other q) → option_map (λ d. number_in (get q)) o ≡ option_map (λ d. number_in (other q)) o
driven_if get other q None h = refl
driven_if get other q (Some d) h = ap (λ v. Some (number_in v)) (h refl)

-- the numbers of the driven ones of some paths
driven_same : (s : SceneRecord) (get other : Quantity → Value) (id : AnimId) (paths : List Path) → AgreeOn get other (driven_reads s id paths) → (p : Path) → Contains paths p → driven_number s get id p ≡ driven_number s other id p
driven_same s get other id paths agree p within =
    driven_if get other (Chan id p) (driver_of s id p)
    (λ t. All-contains (λ r. get r.source ≡ other r.source) (driven_reads s id paths) (inner_read (Chan id p)) agree
    (element_map (λ p. inner_read (Chan id p)) (driven_paths s id paths) p (element_kept (is_driven s id) paths p within t)))

contains_channel : (c : Channel) → Contains channels c
contains_channel LocX = (0, omega arith, refl)
contains_channel LocY = (1, omega arith, refl)
contains_channel LocZ = (2, omega arith, refl)
contains_channel RotW = (3, omega arith, refl)
contains_channel RotX = (4, omega arith, refl)
contains_channel RotY = (5, omega arith, refl)
contains_channel RotZ = (6, omega arith, refl)
contains_channel Scale = (7, omega arith, refl)

contains_axis : (a : Axis) → Contains axes a
contains_axis X = (0, omega arith, refl)
contains_axis Y = (1, omega arith, refl)
contains_axis Z = (2, omega arith, refl)

channels_same : (f g : Channel → ℤ) → ((c : Channel) → f c ≡ g c) → channels_by f ≡ channels_by g
channels_same f g h i = channels_by (λ c. h c i)

v3_same : (f g : Axis → ℤ) → ((a : Axis) → f a ≡ g a) → v3_by f ≡ v3_by g
v3_same f g h i = v3_by (λ a. h a i)

-- the eight numbers of an object or a bone
eight_same : (s : SceneRecord) (inputs : FrameInputs) (get other : Quantity → Value) (id : AnimId) (to : Channel → Path) (originals : Channels) → AgreeOn get other (driven_reads s id (map to channels)) → channels_by (λ c. number_at s inputs get id (to c) (channel_of originals c)) ≡ channels_by (λ c. number_at s inputs other id (to c) (channel_of originals c))
eight_same s inputs get other id to originals agree =
    channels_same (λ c. number_at s inputs get id (to c) (channel_of originals c)) (λ c. number_at s inputs other id (to c) (channel_of originals c))
    (λ c. ap (λ d. number_by d (animated_number s inputs.numbers id (to c)) (channel_of originals c))
    (driven_same s get other id (map to channels) agree (to c) (element_map to channels c (contains_channel c))))

-- the three of a layer's offset
three_same : (s : SceneRecord) (inputs : FrameInputs) (get other : Quantity → Value) (id : AnimId) (to : Axis → Path) (originals : V3) → AgreeOn get other (driven_reads s id (map to axes)) → v3_by (λ a. number_at s inputs get id (to a) (coordinate_of originals a)) ≡ v3_by (λ a. number_at s inputs other id (to a) (coordinate_of originals a))
three_same s inputs get other id to originals agree =
    v3_same (λ a. number_at s inputs get id (to a) (coordinate_of originals a)) (λ a. number_at s inputs other id (to a) (coordinate_of originals a))
    (λ a. ap (λ d. number_by d (animated_number s inputs.numbers id (to a)) (coordinate_of originals a))
    (driven_same s get other id (map to axes) agree (to a) (element_map to axes a (contains_axis a))))

-- ---- drivers

variable_same : (s : SceneRecord) (inputs : FrameInputs) (get other : Quantity → Value) (v : Variable) → AgreeOn get other (variable_reads s v) → variable_number s inputs get v ≡ variable_number s inputs other v
variable_same s inputs get other (variable.Property id p) agree = ap (number_of s inputs.numbers id p) (by (driver_of s id p) agree)
  where
    by : (o : Option Driver) → AgreeOn get other (if is_some o then reference_read (Chan id p) ∷ [] else []) → option_map (λ d. number_in (get (Chan id p))) o ≡ option_map (λ d. number_in (other (Chan id p))) o
    by None a = refl
    by (Some d) a = ap (λ v. Some (number_in v)) (All-head (λ r. get r.source ≡ other r.source) (reference_read (Chan id p)) [] a)
variable_same s inputs get other (variable.Transform o space channel) agree =
    ap (λ v. transform_number (transform_in v) channel) (All-head (λ r. get r.source ≡ other r.source) (reference_read (space_quantity o space)) [] agree)

driver_same : (s : SceneRecord) (inputs : FrameInputs) (get other : Quantity → Value) (d : Driver) → AgreeOn get other (flat_map (variable_reads s) d.variables) → driver_number s inputs get d ≡ driver_number s inputs other d
unfolding driver_number
driver_same s inputs get other d agree =
    ap (driver_value d)
    (map_same (variable_number s inputs get) (variable_number s inputs other) d.variables
    (All-weaker (λ v. AgreeOn get other (variable_reads s v)) (λ v. variable_number s inputs get v ≡ variable_number s inputs other v)
    (variable_same s inputs get other) d.variables (All-each (λ r. get r.source ≡ other r.source) (variable_reads s) d.variables agree)))

chan_same : (s : SceneRecord) (inputs : FrameInputs) (get other : Quantity → Value) (o : Option Driver) → AgreeOn get other (option_map_or (λ d. flat_map (variable_reads s) d.variables) o []) → option_map (λ d. Number (driver_number s inputs get d)) o ≡ option_map (λ d. Number (driver_number s inputs other d)) o
chan_same s inputs get other None agree = refl
chan_same s inputs get other (Some d) agree = ap (λ n. Some (Number n)) (driver_same s inputs get other d agree)

-- ---- transforms

local_same : (s : SceneRecord) (inputs : FrameInputs) (get other : Quantity → Value) (o : ObjectId) → AgreeOn get other (reads s (Local o)) → (found : Option Object) → object_of s o ≡ found → option_map (λ object. Transform (local_transform s inputs get object)) found ≡ option_map (λ object. Transform (local_transform s inputs other object)) found
unfolding local_transform
local_same s inputs get other o agree None is = refl
local_same s inputs get other o agree (Some object) is =
    ap (λ c. Some (Transform (transform_of c)))
    (eight_same s inputs get other (anim.Object object.id) path.Own object.own
    (subst (λ id. AgreeOn get other (driven_reads s (anim.Object id) (map path.Own channels))) (sym (found_id s o object is)) agree))

parent_same : (get other : Quantity → Value) (parent : Option Parent) → AgreeOn get other (parent_reads parent) → option_map (parent_transform get) parent ≡ option_map (parent_transform other) parent
parent_same get other None agree = refl
parent_same get other (Some parent) agree =
    let world = All-head (λ r. get r.source ≡ other r.source) (reference_read (World parent.object)) _ agree in
    let bone = by parent.bone (All-tail (λ r. get r.source ≡ other r.source) (reference_read (World parent.object)) _ agree) in
    λ i. Some (parent_space (transform_in (world i)) (bone i))
  where
    by : (b : Option ℕ) → AgreeOn get other (option_map_or (λ b. reference_read (Bone parent.object b) ∷ []) b []) → option_map (λ bone. transform_in (get (Bone parent.object bone))) b ≡ option_map (λ bone. transform_in (other (Bone parent.object bone))) b
    by None a = refl
    by (Some b) a = ap (λ v. Some (transform_in v)) (All-head (λ r. get r.source ≡ other r.source) (reference_read (Bone parent.object b)) [] a)

world_same : (s : SceneRecord) (get other : Quantity → Value) (o : ObjectId) (found : Option Object) → object_of s o ≡ found → AgreeOn get other (inner_read (Local o) ∷ option_map_or (λ object. parent_reads object.parent) found []) → option_map (λ object. Transform (world_transform get object)) found ≡ option_map (λ object. Transform (world_transform other object)) found
unfolding world_transform
world_same s get other o None is agree = refl
world_same s get other o (Some object) is agree =
    let own = subst (λ id. get (Local id) ≡ other (Local id)) (sym (found_id s o object is)) (All-head (λ r. get r.source ≡ other r.source) (inner_read (Local o)) (parent_reads object.parent) agree) in
    let parent = parent_same get other object.parent (All-tail (λ r. get r.source ≡ other r.source) (inner_read (Local o)) (parent_reads object.parent) agree) in
    λ i. Some (Transform (carried_by (parent i) (transform_in (own i))))

pose_same : (s : SceneRecord) (inputs : FrameInputs) (get other : Quantity → Value) (o : ObjectId) (bone : RestBone) (pose : Channels) → AgreeOn get other (bone_reads s o bone) → pose_transform s inputs get o bone pose ≡ pose_transform s inputs other o bone pose
unfolding pose_transform
pose_same s inputs get other o bone pose agree =
    let driven = eight_same s inputs get other (anim.Object o) (path.Bone bone.name) pose (All-left (λ r. get r.source ≡ other r.source) (driven_reads s (anim.Object o) (map (path.Bone bone.name) channels)) _ agree) in
    let parent = by bone.parent (All-right (λ r. get r.source ≡ other r.source) (driven_reads s (anim.Object o) (map (path.Bone bone.name) channels)) _ agree) in
    λ i. bone_transform (parent i) bone.rest (driven i)
  where
    by : (b : Option ℕ) → AgreeOn get other (option_map_or (λ b. inner_read (Bone o b) ∷ []) b []) → option_map (λ parent. transform_in (get (Bone o parent))) b ≡ option_map (λ parent. transform_in (other (Bone o parent))) b
    by None a = refl
    by (Some b) a = ap (λ v. Some (transform_in v)) (All-head (λ r. get r.source ≡ other r.source) (inner_read (Bone o b)) [] a)

bone_same : (s : SceneRecord) (inputs : FrameInputs) (get other : Quantity → Value) (o : ObjectId) (b : ℕ) (found : Option Object) → AgreeOn get other (option_map_or (bone_reads s o) (option_and_then (λ bones. slice_get bones b) (option_and_then (λ o. option_map (λ a. a.bones) (armature_of s o.kind)) found)) []) → option_and_then (λ object. bone_value s inputs get o b object.kind) found ≡ option_and_then (λ object. bone_value s inputs other o b object.kind) found
bone_same s inputs get other o b None agree = refl
bone_same s inputs get other o b (Some object) agree = by_armature (armature_of s object.kind) agree
  where
    by_pose : (bone : RestBone) → AgreeOn get other (bone_reads s o bone) → (pose : Option Channels) → option_map (λ pose. Transform (pose_transform s inputs get o bone pose)) pose ≡ option_map (λ pose. Transform (pose_transform s inputs other o bone pose)) pose
    by_pose bone a None = refl
    by_pose bone a (Some pose) = ap (λ t. Some (Transform t)) (pose_same s inputs get other o bone pose a)

    by_bone : (bone : Option RestBone) → AgreeOn get other (option_map_or (bone_reads s o) bone []) → option_and_then (λ bone. option_map (λ pose. Transform (pose_transform s inputs get o bone pose)) (pose_of object.kind b)) bone ≡ option_and_then (λ bone. option_map (λ pose. Transform (pose_transform s inputs other o bone pose)) (pose_of object.kind b)) bone
    by_bone None a = refl
    by_bone (Some bone) a = by_pose bone a (pose_of object.kind b)

    by_armature : (a : Option ArmatureData) → AgreeOn get other (option_map_or (bone_reads s o) (option_and_then (λ bones. slice_get bones b) (option_map (λ a. a.bones) a)) []) → option_and_then (λ armature. option_and_then (λ bone. option_map (λ pose. Transform (pose_transform s inputs get o bone pose)) (pose_of object.kind b)) (slice_get armature.bones b)) a ≡ option_and_then (λ armature. option_and_then (λ bone. option_map (λ pose. Transform (pose_transform s inputs other o bone pose)) (pose_of object.kind b)) (slice_get armature.bones b)) a
    by_armature None a = refl
    by_armature (Some armature) a = by_bone (slice_get armature.bones b) a

-- ---- strokes

layer_same : (s : SceneRecord) (inputs : FrameInputs) (cut : Quantity → Bool) (get other : Quantity → Value) (p : ℕ) (pencil : PencilData) (layer : LayerRecord) → AgreeOn get other (layer_reads s p layer) → shown_layer s inputs cut get p pencil layer ≡ shown_layer s inputs cut other p pencil layer
unfolding shown_layer
layer_same s inputs cut get other p pencil layer agree =
    let offset = three_same s inputs get other (anim.Pencil p) (path.Layer layer.name) layer.offset (All-left (λ r. get r.source ≡ other r.source) (driven_reads s (anim.Pencil p) (map (path.Layer layer.name) axes)) _ agree) in
    let deform = by layer.bound (All-right (λ r. get r.source ≡ other r.source) (driven_reads s (anim.Pencil p) (map (path.Layer layer.name) axes)) _ agree) in
    λ i. layer_strokes (option_and_then (slice_get pencil.drawings) (inputs.drawing layer.keys)) (offset i) (deform i)
  where
    by : (b : Option BoneRef) → AgreeOn get other (option_map_or (λ b. reference_read (Bone b.object b.bone) ∷ []) b []) → option_map (bound_deform s cut get) b ≡ option_map (bound_deform s cut other) b
    by None a = refl
    by (Some b) a =
        ap (λ v. Some (deform_unless (cut (Bone b.object b.bone)) (transform_in v) (option_map_or (λ bones. rest_chain bones b.bone) (bones_of s b.object) identity)))
        (All-head (λ r. get r.source ≡ other r.source) (reference_read (Bone b.object b.bone)) [] a)

layers_same : (s : SceneRecord) (inputs : FrameInputs) (cut : Quantity → Bool) (get other : Quantity → Value) (p l : ℕ) (found : Option PencilData) → AgreeOn get other (option_map_or (layer_reads s p) (option_and_then (λ pencil. slice_get pencil.layers l) found) []) → option_and_then (λ pencil. option_map (λ layer. Strokes (shown_layer s inputs cut get p pencil layer)) (slice_get pencil.layers l)) found ≡ option_and_then (λ pencil. option_map (λ layer. Strokes (shown_layer s inputs cut other p pencil layer)) (slice_get pencil.layers l)) found
layers_same s inputs cut get other p l None agree = refl
layers_same s inputs cut get other p l (Some pencil) agree = by (slice_get pencil.layers l) agree
  where
    by : (layer : Option LayerRecord) → AgreeOn get other (option_map_or (layer_reads s p) layer []) → option_map (λ layer. Strokes (shown_layer s inputs cut get p pencil layer)) layer ≡ option_map (λ layer. Strokes (shown_layer s inputs cut other p pencil layer)) layer
    by None a = refl
    by (Some layer) a = ap (λ d. Some (Strokes d)) (layer_same s inputs cut get other p pencil layer a)

joined_same : (get other : Quantity → Value) (p : ℕ) (pencil : PencilData) → AgreeOn get other (map (λ l. inner_read (Layer p l)) (range_with_len 0 (length pencil.layers))) → joined_layers get p pencil ≡ joined_layers other p pencil
unfolding joined_layers
joined_same get other p pencil agree =
    ap (joined_within MAX_RESULT_POINTS)
    (map_same (λ l. strokes_in (get (Layer p l.0))) (λ l. strokes_in (other (Layer p l.0))) (filter (λ l. not l.1.hidden) (enumerate_from 0 pencil.layers))
    (All-filter (λ l. not l.1.hidden) (λ l. strokes_in (get (Layer p l.0)) ≡ strokes_in (other (Layer p l.0))) (enumerate_from 0 pencil.layers)
    (All-enumerate (λ l. strokes_in (get (Layer p l.0)) ≡ strokes_in (other (Layer p l.0))) 0 pencil.layers
    (λ k x e. ap strokes_in
    (All-contains (λ r. get r.source ≡ other r.source) (map (λ l. inner_read (Layer p l)) (range_with_len 0 (length pencil.layers))) (inner_read (Layer p (0 + k))) agree
    (element_map (λ l. inner_read (Layer p l)) (range_with_len 0 (length pencil.layers)) (0 + k)
    (Contains-range 0 (length pencil.layers) k (slice_get_within pencil.layers k x e))))))))

centre_same : (get other : Quantity → Value) (o : ObjectId) (effect : Effect) → AgreeOn get other (effect_reads o effect) → mirror_centre get o effect ≡ mirror_centre other o effect
centre_same get other o (Offset loc scale) agree = refl
centre_same get other o (Mirror mirror) agree = by mirror.centre agree
  where
    by : (c : Option ObjectId) → AgreeOn get other (option_map_or (λ centre. inner_read (World o) ∷ reference_read (World centre) ∷ []) c []) → option_map_or (λ centre. carry (inverse (transform_in (get (World o)))) (transform_in (get (World centre))).loc) c origin ≡ option_map_or (λ centre. carry (inverse (transform_in (other (World o)))) (transform_in (other (World centre))).loc) c origin
    by None a = refl
    by (Some centre) a =
        let own = All-head (λ r. get r.source ≡ other r.source) (inner_read (World o)) (reference_read (World centre) ∷ []) a in
        let far = All-head (λ r. get r.source ≡ other r.source) (reference_read (World centre)) [] (All-tail (λ r. get r.source ≡ other r.source) (inner_read (World o)) (reference_read (World centre) ∷ []) a) in
        λ i. carry (inverse (transform_in (own i))) (transform_in (far i)).loc
centre_same get other o (Array count offset) agree = refl

modified_same : (mode : Mode) (get other : Quantity → Value) (o : ObjectId) (before : ℕ) (m : Modifier) → AgreeOn get other (inner_read (Geom o before) ∷ effect_reads o m.effect) → modified_strokes mode get o before m ≡ modified_strokes mode other o before m
unfolding modified_strokes
modified_same mode get other o before m agree =
    let strokes = All-head (λ r. get r.source ≡ other r.source) (inner_read (Geom o before)) (effect_reads o m.effect) agree in
    let centre = centre_same get other o m.effect (All-tail (λ r. get r.source ≡ other r.source) (inner_read (Geom o before)) (effect_reads o m.effect) agree) in
    λ i. modify_if (is_on mode m) m.effect (centre i) (strokes_in (strokes i))

geometry_same : (s : SceneRecord) (mode : Mode) (get other : Quantity → Value) (object : Object) (n : ℕ) → AgreeOn get other (geometry_reads s object n) → geometry_value s mode get object.id n object.kind ≡ geometry_value s mode other object.id n object.kind
geometry_same s mode get other object zero agree = by object.kind agree
  where
    by : (k : Kind) → AgreeOn get other (geometry_reads s (record object { kind = k }) 0) → geometry_value s mode get object.id 0 k ≡ geometry_value s mode other object.id 0 k
    by kind.Empty a = refl
    by (kind.Armature armature pose) a = refl
    by (kind.Pencil p modifiers) a = by_pencil (slice_get s.pencils p) a
      where
        by_pencil : (pencil : Option PencilData) → AgreeOn get other (option_map_or (λ pencil. map (λ l. inner_read (Layer p l)) (range_with_len 0 (length pencil.layers))) pencil []) → option_map (λ pencil. Strokes (joined_layers get p pencil)) pencil ≡ option_map (λ pencil. Strokes (joined_layers other p pencil)) pencil
        by_pencil None b = refl
        by_pencil (Some pencil) b = ap (λ d. Some (Strokes d)) (joined_same get other p pencil b)
geometry_same s mode get other object (suc n) agree = by object.kind agree
  where
    by_modifier : (m : Option Modifier) → AgreeOn get other (inner_read (Geom object.id n) ∷ option_map_or (λ m. effect_reads object.id m.effect) m []) → option_map (λ m. Strokes (modified_strokes mode get object.id n m)) m ≡ option_map (λ m. Strokes (modified_strokes mode other object.id n m)) m
    by_modifier None b = refl
    by_modifier (Some m) b = ap (λ d. Some (Strokes d)) (modified_same mode get other object.id n m b)

    by : (k : Kind) → AgreeOn get other (geometry_reads s (record object { kind = k }) (suc n)) → geometry_value s mode get object.id (suc n) k ≡ geometry_value s mode other object.id (suc n) k
    by kind.Empty a = refl
    by (kind.Armature armature pose) a = refl
    by (kind.Pencil p modifiers) a = by_modifier (slice_get modifiers n) a

geometries_same : (s : SceneRecord) (mode : Mode) (get other : Quantity → Value) (o : ObjectId) (n : ℕ) (found : Option Object) → object_of s o ≡ found → AgreeOn get other (option_map_or (λ object. geometry_reads s object n) found []) → option_and_then (λ object. geometry_value s mode get o n object.kind) found ≡ option_and_then (λ object. geometry_value s mode other o n object.kind) found
geometries_same s mode get other o n None is agree = refl
geometries_same s mode get other o n (Some object) is agree =
    subst (λ id. geometry_value s mode get id n object.kind ≡ geometry_value s mode other id n object.kind) (found_id s o object is)
    (geometry_same s mode get other object n agree)

-- ---- all of them

-- two functions that agree at what a quantity reads give it the same value
pub value_same : (s : SceneRecord) (mode : Mode) (inputs : FrameInputs) (cut : Quantity → Bool) (get other : Quantity → Value) (q : Quantity) → AgreeOn get other (reads s q) → value_from s mode inputs cut get q ≡ value_from s mode inputs cut other q
value_same s mode inputs cut get other (Chan id p) agree = chan_same s inputs get other (driver_of s id p) agree
value_same s mode inputs cut get other (Local o) agree = local_same s inputs get other o agree (object_of s o) refl
value_same s mode inputs cut get other (World o) agree = world_same s get other o (object_of s o) refl agree
value_same s mode inputs cut get other (Bone o b) agree = bone_same s inputs get other o b (object_of s o) agree
value_same s mode inputs cut get other (Layer p l) agree = layers_same s inputs cut get other p l (slice_get s.pencils p) agree
value_same s mode inputs cut get other (Geom o n) agree = geometries_same s mode get other o n (object_of s o) refl agree

-- The scene that the members give, with nothing about faults in it: where a value gives nothing of its kind, or a name is of
-- nothing, there is a default, which no reader shows.
use Rattle.std.specs.Prelude.{ℕ, suc, ℤ, pos, negsuc, ◌&&◌, List, [], ◌∷◌, codes, map, slice_get, position, Bool, true, false, not, Option, is_some, option_map, unwrap_or, nat_lt, if◌then◌else◌}
use Rattle.std.specs.Option.{option_map_or}
use Rattle.std.specs.Int.{int_min, int_max}
use Rattle.serde_json.specs.Data.{Data, Items, no_items, item}
use Rattle.rig_fixed.specs.Fixed.{unit}
use Rattle.rig_fixed.specs.Vector.{origin}
use Rattle.rig_fixed.specs.declared.rotation.Raw.{Raw}
use Rattle.rig_fixed.specs.declared.vector.V3.{V3}
use Rattle.rig_scene.specs.declared.action.Action.{Action}
use Rattle.rig_scene.specs.declared.action.Curve.{Curve}
use Rattle.rig_scene.specs.declared.action.Interp.{Interp}
use Rattle.rig_scene.specs.declared.action.Interp.TheVariants.{Constant, Linear}
use Rattle.rig_scene.specs.declared.action.Key.{Key}
use Rattle.rig_scene.specs.declared.armature.ArmatureData.{ArmatureData}
use Rattle.rig_scene.specs.declared.armature.RestBone.{RestBone}
use Rattle.rig_scene.specs.declared.channel.Axis.{Axis}
use Rattle.rig_scene.specs.declared.channel.Axis.TheVariants.{X}
use Rattle.rig_scene.specs.declared.channel.Channel.{Channel}
use Rattle.rig_scene.specs.declared.channel.Channel.TheVariants.{LocX}
use Rattle.rig_scene.specs.declared.channel.Channels.{Channels}
use Rattle.rig_scene.specs.declared.driver.Driver.{Driver}
use Rattle.rig_scene.specs.declared.driver.DriverKind.{DriverKind}
use Rattle.rig_scene.specs.declared.driver.DriverKind.TheVariants as kinds
use Rattle.rig_scene.specs.declared.driver.Space.{Space}
use Rattle.rig_scene.specs.declared.driver.Space.TheVariants as space
use Rattle.rig_scene.specs.declared.driver.Variable.{Variable}
use Rattle.rig_scene.specs.declared.driver.Variable.TheVariants.{Property, Transform}
use Rattle.rig_scene.specs.declared.id.AnimId.{AnimId}
use Rattle.rig_scene.specs.declared.id.AnimId.TheVariants as anim
use Rattle.rig_scene.specs.declared.id.ObjectId.{ObjectId}
use Rattle.rig_scene.specs.declared.modifier.Effect.{Effect}
use Rattle.rig_scene.specs.declared.modifier.Effect.TheVariants.{Offset, Mirror, Array}
use Rattle.rig_scene.specs.declared.modifier.Modifier.{Modifier}
use Rattle.rig_scene.specs.declared.object.Kind.{Kind}
use Rattle.rig_scene.specs.declared.object.Kind.TheVariants.{Empty, Armature, Pencil}
use Rattle.rig_scene.specs.declared.object.Object.{Object}
use Rattle.rig_scene.specs.declared.object.Parent.{Parent}
use Rattle.rig_scene.specs.declared.path.Path.{Path}
use Rattle.rig_scene.specs.declared.path.Path.TheVariants.{Own, Bone, Layer}
use Rattle.rig_scene.specs.declared.pencil.BoneRef.{BoneRef}
use Rattle.rig_scene.specs.declared.pencil.Drawing.{Drawing}
use Rattle.rig_scene.specs.declared.pencil.Layer.{Layer as LayerRecord}
use Rattle.rig_scene.specs.declared.pencil.LayerKey.{LayerKey}
use Rattle.rig_scene.specs.declared.pencil.PencilData.{PencilData}
use Rattle.rig_scene.specs.declared.pencil.Stroke.{Stroke}
use Rattle.rig_scene.specs.declared.limits.TheConstants.{MIN_FRAME, MAX_FRAME}
use Rattle.rig_scene.specs.Channel.{channel_named, axis_named}
use Rattle.rig_scene.specs.Scene.{SceneRecord}
use Rattle.rig_scene.specs.Text.{same_text}
use Rattle.rig_scenejson.specs.declared.before.Target.{Target}
use Rattle.rig_scenejson.specs.declared.before.Catalog.{Catalog}
use Rattle.rig_scenejson.specs.declared.before.Rig.{Rig}
use Rattle.rig_scenejson.specs.declared.before.Rig.TheVariants as rigs
use Rattle.rig_scenejson.specs.declared.member.Member.{Member}
use Rattle.rig_scenejson.specs.declared.member.Member.TheVariants as m
use Rattle.rig_scenejson.specs.Tests.{field}
use Rattle.rig_scenejson.specs.Value.{whole_of, fixed_of, text_of, truth_of, items_of, item_count, vector_of, rotation_of}

-- ---- members

abbrev pub has : Member → Data → Bool
has member d = is_some (field member d)

abbrev pub text_at : Member → Data → List ℕ
text_at member d = option_map_or text_of (field member d) []

abbrev pub items_at : Member → Data → Items
items_at member d = option_map_or items_of (field member d) no_items

abbrev pub fixed_at : ℤ → Member → Data → ℤ
fixed_at default member d = option_map_or fixed_of (field member d) default

abbrev pub truth_at : Bool → Member → Data → Bool
truth_at default member d = option_map_or truth_of (field member d) default

abbrev pub vector_at : Member → Data → V3
vector_at member d = option_map_or vector_of (field member d) origin

abbrev pub no_rotation : Raw
no_rotation = record { w = unit; x = pos 0; y = pos 0; z = pos 0 }

abbrev pub rotation_at : Member → Data → Raw
rotation_at member d = option_map_or rotation_of (field member d) no_rotation

-- a frame, which is within its limits
abbrev pub frame_at : Member → Data → ℤ
frame_at member d = option_map_or (λ f. int_max MIN_FRAME (int_min (whole_of f) MAX_FRAME)) (field member d) (pos 0)

-- a number from 0 to the end of 32 bits
abbrev pub small : ℤ → ℕ
small (pos n) = if nat_lt n 4294967296 then n else 0
small (negsuc n) = 0

abbrev pub natural_at : Member → Data → ℕ
natural_at member d = option_map_or (λ n. small (whole_of n)) (field member d) 0

-- each item as what it gives
abbrev pub values : {A : Type 0} → (Data → A) → Items → List A
values value no_items = []
values value (item d ds) = value d ∷ values value ds

-- each item as what it gives at its index
abbrev pub values_from : {A : Type 0} → (ℕ → Data → A) → ℕ → Items → List A
values_from value index no_items = []
values_from value index (item d ds) = value index d ∷ values_from value (suc index) ds

-- ---- channels, paths and ids

abbrev pub channels_given : Data → Channels
channels_given d = record { loc = vector_at m.Loc d; rot = rotation_at m.Rot d; scale = fixed_at unit m.Scale d }

abbrev pub channel_given : Data → Channel
channel_given d = unwrap_or (channel_named (text_at m.Channel d)) LocX

abbrev pub axis_given : Data → Axis
axis_given d = unwrap_or (axis_named (text_at m.Channel d)) X

abbrev pub path_given : Data → Path
path_given d =
    if has m.Bone d then Bone (text_at m.Bone d) (channel_given d)
    else (if has m.Layer d then Layer (text_at m.Layer d) (axis_given d) else Own (channel_given d))

-- whether a record's id is a pencil
abbrev pub names_pencil : Data → Bool
names_pencil d = not (has m.Object d) && has m.Pencil d

-- the name of a record's id
abbrev pub id_name : Data → List ℕ
id_name d = if names_pencil d then text_at m.Pencil d else text_at m.Object d

abbrev pub target_given : Data → Target
target_given d = record { is_pencil = names_pencil d; id = id_name d; path = path_given d }

-- ---- names of a scene

abbrev pub index_of : List (List ℕ) → List ℕ → ℕ
index_of names s = unwrap_or (position (same_text s) names) 0

-- what carries an object of an index
abbrev pub rig_at : Catalog → ℕ → Rig
rig_at c object = unwrap_or (slice_get c.rigs object) rigs.NoArmature

-- the names of the bones of an armature
abbrev pub bones_at : Catalog → ℕ → List (List ℕ)
bones_at c armature = unwrap_or (slice_get c.bones armature) []

abbrev pub rig_bones : Catalog → Rig → List (List ℕ)
rig_bones c rigs.NoArmature = []
rig_bones c rigs.UnknownArmature = []
rig_bones c (rigs.Armature armature) = bones_at c armature

-- the names of the bones of an object, by its name
abbrev pub bones_named : Catalog → List ℕ → List (List ℕ)
bones_named c object = rig_bones c (rig_at c (index_of c.objects object))

abbrev pub object_named : Catalog → List ℕ → ObjectId
object_named c s = record { 0 = index_of c.objects s }

abbrev pub action_given : Catalog → Data → Option ℕ
action_given c d = option_map (λ a. index_of c.actions (text_of a)) (field m.Action d)

-- ---- actions

abbrev pub interp_given : Data → Interp
interp_given d = if same_text (text_at m.Interp d) (codes "constant") then Constant else Linear

abbrev pub key_given : Data → Key
key_given d = record { frame = frame_at m.Frame d; value = fixed_at (pos 0) m.Value d; interp = interp_given d }

abbrev pub curve_given : Data → Curve
curve_given d = record { path = path_given d; keys = values key_given (items_at m.Keys d) }

abbrev pub action_record : Data → Action
action_record d = record { name = text_at m.Name d; curves = values curve_given (items_at m.Curves d) }

-- ---- armatures

abbrev pub bone_given : List (List ℕ) → ℕ → Data → RestBone
bone_given names index d = record {
  name = text_at m.Name d;
  parent = option_map (λ p. index_of names (text_of p)) (field m.Parent d);
  rest = channels_given d;
}

abbrev pub armature_given : Catalog → ℕ → Data → ArmatureData
armature_given c index d = record { name = text_at m.Name d; bones = values_from (bone_given (bones_at c index)) 0 (items_at m.Bones d) }

-- ---- pencils

abbrev pub stroke_given : Data → Stroke
stroke_given d = record { points = values vector_of (items_of d) }

abbrev pub drawing_given : Data → Drawing
drawing_given d = record { strokes = values stroke_given (items_at m.Strokes d) }

abbrev pub layer_key_given : ℕ → Data → LayerKey
layer_key_given index d = record { frame = frame_at m.Frame d; drawing = natural_at m.Drawing d }

abbrev pub bound_given : Catalog → Data → Option BoneRef
bound_given c d =
    option_map (λ a. record { object = object_named c (text_of a); bone = index_of (bones_named c (text_of a)) (text_at m.Bone d) }) (field m.Armature d)

abbrev pub layer_given : Catalog → ℕ → Data → LayerRecord
layer_given c index d = record {
  name = text_at m.Name d;
  hidden = truth_at false m.Hidden d;
  offset = vector_at m.Offset d;
  bound = bound_given c d;
  keys = values_from layer_key_given 0 (items_at m.Keys d);
}

abbrev pub pencil_given : Catalog → ℕ → Data → PencilData
pencil_given c index d = record {
  name = text_at m.Name d;
  action = action_given c d;
  drawings = values drawing_given (items_at m.Drawings d);
  layers = values_from (layer_given c) 0 (items_at m.Layers d);
}

-- ---- objects

-- whether the kind of a record is this word
abbrev pub is_kind : List ℕ → Data → Bool
is_kind word d = same_text (text_at m.Kind d) word

abbrev pub parent_given : Catalog → Data → Option Parent
parent_given c d =
    option_map (λ p. record {
      object = object_named c (text_of p);
      bone = option_map (λ b. index_of (bones_named c (text_of p)) (text_of b)) (field m.ParentBone d);
    }) (field m.Parent d)

abbrev pub at_rest : Channels
at_rest = record { loc = origin; rot = no_rotation; scale = unit }

-- the channels of the record of a pose that names a bone, else those at rest
abbrev pub pose_of_bone : Items → List ℕ → Channels
pose_of_bone no_items bone = at_rest
pose_of_bone (item d ds) bone = if same_text (text_at m.Bone d) bone then channels_given d else pose_of_bone ds bone

abbrev pub effect_given : Catalog → Data → Effect
effect_given c d =
    if is_kind (codes "mirror") d then Mirror (record {
      x = truth_at false m.X d;
      y = truth_at false m.Y d;
      z = truth_at false m.Z d;
      centre = option_map (λ o. object_named c (text_of o)) (field m.Object d);
    })
    else (if is_kind (codes "array") d then Array (natural_at m.Count d) (vector_at m.Offset d) else Offset (vector_at m.Loc d) (fixed_at unit m.Scale d))

abbrev pub modifier_given : Catalog → ℕ → Data → Modifier
modifier_given c index d = record {
  name = text_at m.Name d;
  viewport = truth_at true m.Viewport d;
  render = truth_at true m.Render d;
  effect = effect_given c d;
}

-- an armature object, with a pose for each bone of its armature
abbrev pub armature_kind_given : Catalog → Data → Kind
armature_kind_given c d =
    Armature (index_of c.armatures (text_at m.Data d)) (map (pose_of_bone (items_at m.Pose d)) (bones_at c (index_of c.armatures (text_at m.Data d))))

-- a pencil object, with its stack of modifiers
abbrev pub pencil_kind_given : Catalog → Data → Kind
pencil_kind_given c d = Pencil (index_of c.pencils (text_at m.Data d)) (values_from (modifier_given c) 0 (items_at m.Modifiers d))

abbrev pub kind_given : Catalog → Data → Kind
kind_given c d =
    if is_kind (codes "armature") d then armature_kind_given c d
    else (if is_kind (codes "pencil") d then pencil_kind_given c d else Empty)

abbrev pub object_given : Catalog → ℕ → Data → Object
object_given c index d = record {
  id = record { 0 = index };
  name = text_at m.Name d;
  own = channels_given d;
  action = action_given c d;
  parent = parent_given c d;
  kind = kind_given c d;
}

-- ---- drivers

abbrev pub id_given : Catalog → Data → AnimId
id_given c d = if names_pencil d then anim.Pencil (index_of c.pencils (text_at m.Pencil d)) else anim.Object (object_named c (text_at m.Object d))

abbrev pub space_given : Catalog → Data → Space
space_given c d =
    option_map_or (λ b. space.Pose (index_of (bones_named c (text_at m.Object d)) (text_of b))) (field m.Bone d)
    (if same_text (text_at m.Space d) (codes "local") then space.Local else space.World)

abbrev pub variable_given : Catalog → ℕ → Data → Variable
variable_given c index d =
    if is_kind (codes "transform") d then Transform (object_named c (text_at m.Object d)) (space_given c d) (channel_given d)
    else Property (id_given c d) (path_given d)

abbrev pub driver_kind_given : Data → DriverKind
driver_kind_given d =
    if is_kind (codes "average") d then kinds.Average
    else (if is_kind (codes "sum") d then kinds.Sum else (if is_kind (codes "min") d then kinds.Min else kinds.Max))

abbrev pub driver_given : Catalog → ℕ → Data → Driver
driver_given c index d = record {
  id = id_given c d;
  path = path_given d;
  kind = driver_kind_given d;
  variables = values_from (variable_given c) 0 (items_at m.Variables d);
}

-- ---- the scene

unfoldable pub scene_given : Catalog → Data → SceneRecord
scene_given c d = record {
  actions = values action_record (items_at m.Actions d);
  armatures = values_from (armature_given c) 0 (items_at m.Armatures d);
  pencils = values_from (pencil_given c) 0 (items_at m.Pencils d);
  objects = values_from (object_given c) 0 (items_at m.Objects d);
  drivers = values_from (driver_given c) 0 (items_at m.Drivers d);
  next = item_count (items_at m.Objects d);
}

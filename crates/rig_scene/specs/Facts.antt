-- What a scene promises of its records: one named fact for each condition.
use Rattle.std.specs.Prelude.{◌≡◌, ◌≢◌, ◌<◌, ◌≤◌, ℕ, pos, List, length, slice_get, sum_by, filter, Some, IfSome, IsTrue, Bool, int_le, ⊤}
use Rattle.std.specs.List.{All, AllPairs, list_all, enumerate_from}
use Rattle.rig_scene.specs.declared.action.Action.{Action}
use Rattle.rig_scene.specs.declared.action.Curve.{Curve}
use Rattle.rig_scene.specs.declared.armature.ArmatureData.{ArmatureData}
use Rattle.rig_scene.specs.declared.armature.RestBone.{RestBone}
use Rattle.rig_scene.specs.declared.channel.Channels.{Channels}
use Rattle.rig_scene.specs.declared.id.ObjectId.{ObjectId}
use Rattle.rig_scene.specs.declared.driver.Driver.{Driver}
use Rattle.rig_scene.specs.declared.modifier.Effect.{Effect}
use Rattle.rig_scene.specs.declared.modifier.Effect.TheVariants.{Offset, Mirror, Array}
use Rattle.rig_scene.specs.declared.modifier.Modifier.{Modifier}
use Rattle.rig_scene.specs.declared.object.Kind.TheVariants.{Armature, Pencil}
use Rattle.rig_scene.specs.declared.object.Object.{Object}
use Rattle.rig_scene.specs.declared.object.Parent.{Parent}
use Rattle.rig_scene.specs.declared.pencil.Layer.{Layer}
use Rattle.rig_scene.specs.declared.pencil.PencilData.{PencilData}
use Rattle.rig_scene.specs.declared.limits.TheConstants.{MAX_OBJECTS, MAX_PENCIL_OBJECTS, MAX_ACTIONS, MAX_CURVES, MAX_KEYS, MAX_ARMATURES, MAX_BONES, MAX_POSE_BONES}
use Rattle.rig_scene.specs.declared.limits.TheConstants.{MAX_PENCILS, MAX_LAYERS, MAX_LAYER_KEYS, MAX_DRAWINGS, MAX_POINTS, MAX_MODIFIERS, MAX_ARRAY_COUNT, MAX_DRIVERS, MAX_VARIABLES}
use Rattle.rig_scene.specs.Keys.{are_frames_rising}
use Rattle.rig_scene.specs.Scene.{SceneRecord, object_of}
use Rattle.rig_scene.specs.WellFormed.{is_frame, is_below, curve_count, key_count, drawing_count, point_count, layer_key_count, is_pencil_kind, pose_count, has_path, is_variable}

-- ---- actions

-- the keys of a curve
pub record CurveFacts (c : Curve) : Type 0 where
  pub frames_in_range : All (λ k. IsTrue (is_frame k.frame)) c.keys
  pub frames_rise : IsTrue (are_frames_rising (λ k. k.frame) c.keys)

pub record ActionFacts (a : Action) : Type 0 where
  pub paths_distinct : AllPairs (λ c d. c.path ≢ d.path) a.curves
  pub curves : All CurveFacts a.curves

pub record ActionsFacts (s : SceneRecord) : Type 0 where
  pub count : length s.actions ≤ MAX_ACTIONS
  pub curves : curve_count s.actions ≤ MAX_CURVES
  pub keys : key_count s.actions ≤ MAX_KEYS
  pub names_distinct : AllPairs (λ a b. a.name ≢ b.name) s.actions
  pub each : All ActionFacts s.actions

-- ---- armatures

-- whether the parent of each bone, where it has one, is an earlier bone
abbrev pub have_earlier_parents : List RestBone → Bool
have_earlier_parents bones = list_all (λ (index, bone). is_below index bone.parent) (enumerate_from 0 bones)

pub record ArmatureFacts (a : ArmatureData) : Type 0 where
  pub count : length a.bones ≤ MAX_BONES
  pub names_distinct : AllPairs (λ b c. b.name ≢ c.name) a.bones
  pub earlier_parents : IsTrue (have_earlier_parents a.bones)
  pub scales : All (λ b. IsTrue (int_le (pos 1) b.rest.scale)) a.bones

pub record ArmaturesFacts (s : SceneRecord) : Type 0 where
  pub count : length s.armatures ≤ MAX_ARMATURES
  pub names_distinct : AllPairs (λ a b. a.name ≢ b.name) s.armatures
  pub each : All ArmatureFacts s.armatures

-- ---- what names an object, or a bone of one

-- an object of that id is there
pub record HasObject (s : SceneRecord) (id : ObjectId) : Type 0 where
  pub object : Object
  pub is_object : object_of s id ≡ Some object

-- an armature object of that id is there, whose armature has a bone of that index
pub record HasBone (s : SceneRecord) (id : ObjectId) (bone : ℕ) : Type 0 where
  pub object : Object
  pub is_object : object_of s id ≡ Some object
  pub index : ℕ
  pub pose : List Channels
  pub is_kind : object.kind ≡ Armature index pose
  pub armature : ArmatureData
  pub is_armature : slice_get s.armatures index ≡ Some armature
  pub bone_is_there : bone < length armature.bones

-- ---- pencils

pub record LayerFacts (s : SceneRecord) (p : PencilData) (l : Layer) : Type 0 where
  pub frames_in_range : All (λ k. IsTrue (is_frame k.frame)) l.keys
  pub frames_rise : IsTrue (are_frames_rising (λ k. k.frame) l.keys)
  pub drawings_are_there : All (λ k. k.drawing < length p.drawings) l.keys
  pub bound_bone_is_there : IfSome l.bound (λ b. HasBone s b.object b.bone)

pub record PencilFacts (s : SceneRecord) (p : PencilData) : Type 0 where
  pub action_is_there : IfSome p.action (λ n. n < length s.actions)
  pub strokes_have_points : All (λ d. All (λ k. 0 < length k.points) d.strokes) p.drawings
  pub count : length p.layers ≤ MAX_LAYERS
  pub names_distinct : AllPairs (λ l m. l.name ≢ m.name) p.layers
  pub layers : All (LayerFacts s p) p.layers

pub record PencilsFacts (s : SceneRecord) : Type 0 where
  pub count : length s.pencils ≤ MAX_PENCILS
  pub drawings : drawing_count s.pencils ≤ MAX_DRAWINGS
  pub points : point_count s.pencils ≤ MAX_POINTS
  pub layer_keys : layer_key_count s.pencils ≤ MAX_LAYER_KEYS
  pub names_distinct : AllPairs (λ p q. p.name ≢ q.name) s.pencils
  pub each : All (PencilFacts s) s.pencils

-- ---- objects

pub record ParentFacts (s : SceneRecord) (parent : Parent) : Type 0 where
  pub object_is_there : HasObject s parent.object
  pub bone_is_there : IfSome parent.bone (HasBone s parent.object)

-- an armature object's armature is there, and there is a pose for each of its bones
pub record ArmatureKindFacts (s : SceneRecord) (index : ℕ) (pose : List Channels) : Type 0 where
  pub armature : ArmatureData
  pub is_armature : slice_get s.armatures index ≡ Some armature
  pub poses : length pose ≡ length armature.bones

-- a mirror's centre is there, and an array has at least one copy and not too many
abbrev pub EffectFacts : SceneRecord → Effect → Type 0
EffectFacts s (Offset loc scale) = ⊤
EffectFacts s (Mirror mirror) = IfSome mirror.centre (HasObject s)
EffectFacts s (Array count offset) = (1 ≤ count) × (count ≤ MAX_ARRAY_COUNT)

pub record PencilKindFacts (s : SceneRecord) (index : ℕ) (modifiers : List Modifier) : Type 0 where
  pub pencil_is_there : index < length s.pencils
  pub count : length modifiers ≤ MAX_MODIFIERS
  pub names_distinct : AllPairs (λ m n. m.name ≢ n.name) modifiers
  pub effects : All (λ m. EffectFacts s m.effect) modifiers

pub record ObjectFacts (s : SceneRecord) (o : Object) : Type 0 where
  pub id_below_next : o.id.0 < s.next
  pub action_is_there : IfSome o.action (λ n. n < length s.actions)
  pub parent_is_there : IfSome o.parent (ParentFacts s)
  pub armature : (index : ℕ) (pose : List Channels) → o.kind ≡ Armature index pose → ArmatureKindFacts s index pose
  pub pencil : (index : ℕ) (modifiers : List Modifier) → o.kind ≡ Pencil index modifiers → PencilKindFacts s index modifiers

pub record ObjectsFacts (s : SceneRecord) : Type 0 where
  pub count : length s.objects ≤ MAX_OBJECTS
  pub pencil_objects : length (filter (λ o. is_pencil_kind o.kind) s.objects) ≤ MAX_PENCIL_OBJECTS
  pub pose_bones : sum_by (λ o. pose_count o.kind) s.objects ≤ MAX_POSE_BONES
  pub names_distinct : AllPairs (λ o p. o.name ≢ p.name) s.objects
  pub ids_rise : AllPairs (λ o p. o.id.0 < p.id.0) s.objects
  pub each : All (ObjectFacts s) s.objects

-- ---- drivers

pub record DriverFacts (s : SceneRecord) (d : Driver) : Type 0 where
  pub path_is_there : IsTrue (has_path s d.id d.path)
  pub has_variables : 1 ≤ length d.variables
  pub count : length d.variables ≤ MAX_VARIABLES
  pub variables_are_there : All (λ v. IsTrue (is_variable s v)) d.variables

pub record DriversFacts (s : SceneRecord) : Type 0 where
  pub count : length s.drivers ≤ MAX_DRIVERS
  pub targets_distinct : AllPairs (λ d e. ¬ ((d.id ≡ e.id) × (d.path ≡ e.path))) s.drivers
  pub each : All (DriverFacts s) s.drivers

-- ---- the whole

pub record SceneFacts (s : SceneRecord) : Type 0 where
  pub actions : ActionsFacts s
  pub armatures : ArmaturesFacts s
  pub pencils : PencilsFacts s
  pub objects : ObjectsFacts s
  pub drivers : DriversFacts s

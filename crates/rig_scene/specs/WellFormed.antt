-- The conditions that every scene meets, as tests of its records. An absent record passes; what is named is there.
use Rattle.std.specs.Prelude.{◌≡◌, IsTrue, ℕ, ◌+◌, ◌==◌, ℤ, pos, ◌&&◌, List, [], ◌∷◌, length, map, filter, sum_by, slice_get, Bool, true, false, nat_lt, nat_le, int_le, Option, is_some, option_map, option_and_then}
use Rattle.std.specs.Option.{option_map_or}
use Rattle.std.specs.List.{list_all, list_any}
use Rattle.rig_scene.specs.declared.id.AnimId.{AnimId}
use Rattle.rig_scene.specs.declared.id.AnimId.TheVariants as anim
use Rattle.rig_scene.specs.declared.path.Path.{Path}
use Rattle.rig_scene.specs.declared.path.Path.TheVariants.{Own, Bone, Layer}
use Rattle.rig_scene.specs.declared.id.ObjectId.{ObjectId}
use Rattle.rig_scene.specs.declared.action.Key.{Key}
use Rattle.rig_scene.specs.declared.action.Action.{Action}
use Rattle.rig_scene.specs.declared.armature.RestBone.{RestBone}
use Rattle.rig_scene.specs.declared.armature.ArmatureData.{ArmatureData}
use Rattle.rig_scene.specs.declared.pencil.Drawing.{Drawing}
use Rattle.rig_scene.specs.declared.pencil.LayerKey.{LayerKey}
use Rattle.rig_scene.specs.declared.pencil.BoneRef.{BoneRef}
use Rattle.rig_scene.specs.declared.pencil.PencilData.{PencilData}
use Rattle.rig_scene.specs.declared.modifier.Effect.{Effect}
use Rattle.rig_scene.specs.declared.modifier.Effect.TheVariants.{Offset, Mirror, Array}
use Rattle.rig_scene.specs.declared.object.Kind.{Kind}
use Rattle.rig_scene.specs.declared.object.Kind.TheVariants.{Empty, Armature, Pencil}
use Rattle.rig_scene.specs.declared.object.Parent.{Parent}
use Rattle.rig_scene.specs.declared.object.Object.{Object}
use Rattle.rig_scene.specs.declared.driver.Space.{Space}
use Rattle.rig_scene.specs.declared.driver.Space.TheVariants as space
use Rattle.rig_scene.specs.declared.driver.Variable.{Variable}
use Rattle.rig_scene.specs.declared.driver.Variable.TheVariants.{Property, Transform}
use Rattle.rig_scene.specs.declared.driver.Driver.{Driver}
use Rattle.rig_scene.specs.declared.limits.TheConstants.{MAX_OBJECTS, MAX_PENCIL_OBJECTS, MAX_ACTIONS, MAX_CURVES, MAX_KEYS, MAX_ARMATURES, MAX_BONES, MAX_POSE_BONES}
use Rattle.rig_scene.specs.declared.limits.TheConstants.{MAX_PENCILS, MAX_LAYERS, MAX_LAYER_KEYS, MAX_DRAWINGS, MAX_POINTS, MAX_MODIFIERS, MAX_ARRAY_COUNT}
use Rattle.rig_scene.specs.declared.limits.TheConstants.{MAX_DRIVERS, MAX_VARIABLES, MIN_FRAME, MAX_FRAME}
use Rattle.rig_scene.specs.Distinct.{are_distinct, are_rising}
use Rattle.rig_scene.specs.Id.{same_id}
use Rattle.rig_scene.specs.Keys.{are_frames_rising}
use Rattle.rig_scene.specs.Path.{same_path}
use Rattle.rig_scene.specs.Scene.{SceneRecord, object_of, armature_of}
use Rattle.rig_scene.specs.Text.{same_text}

-- a frame within the limits
abbrev pub is_frame : ℤ → Bool
is_frame f = int_le MIN_FRAME f && int_le f MAX_FRAME

-- an index of a list of so many, or none
abbrev pub is_below : ℕ → Option ℕ → Bool
is_below count index = option_map_or (λ i. nat_lt i count) index true

-- ---- actions

-- the keys of a curve: frames within their limits that rise
abbrev pub are_keys : List Key → Bool
are_keys keys = list_all (λ k. is_frame k.frame) keys && are_frames_rising (λ k. k.frame) keys

-- an action has each path once
abbrev pub is_action : Action → Bool
is_action a = are_distinct same_path (map (λ c. c.path) a.curves) && list_all (λ c. are_keys c.keys) a.curves

abbrev pub curve_count : List Action → ℕ
curve_count actions = sum_by (λ a. length a.curves) actions

abbrev pub key_count : List Action → ℕ
key_count actions = sum_by (λ a. sum_by (λ c. length c.keys) a.curves) actions

-- the actions of a scene
abbrev pub are_actions : List Action → Bool
are_actions actions =
    nat_le (length actions) MAX_ACTIONS && nat_le (curve_count actions) MAX_CURVES && nat_le (key_count actions) MAX_KEYS
    && are_distinct same_text (map (λ a. a.name) actions) && list_all is_action actions

-- ---- armatures

-- bones from an index on: the parent of each is an earlier one, and its scale is at least 1
abbrev pub are_bones_from : ℕ → List RestBone → Bool
are_bones_from index [] = true
are_bones_from index (bone ∷ bones) = is_below index bone.parent && int_le (pos 1) bone.rest.scale && are_bones_from (index + 1) bones

abbrev pub is_armature : ArmatureData → Bool
is_armature a = nat_le (length a.bones) MAX_BONES && are_distinct same_text (map (λ b. b.name) a.bones) && are_bones_from 0 a.bones

-- the armatures of a scene
abbrev pub are_armatures : List ArmatureData → Bool
are_armatures armatures =
    nat_le (length armatures) MAX_ARMATURES && are_distinct same_text (map (λ a. a.name) armatures) && list_all is_armature armatures

-- ---- pencils

-- a stroke has at least one point
abbrev pub is_drawing : Drawing → Bool
is_drawing d = list_all (λ s. nat_lt 0 (length s.points)) d.strokes

-- the keys of a layer: frames within their limits that rise, each with one of so many drawings
abbrev pub are_layer_keys : ℕ → List LayerKey → Bool
are_layer_keys drawings keys =
    list_all (λ k. is_frame k.frame && nat_lt k.drawing drawings) keys && are_frames_rising (λ k. k.frame) keys

abbrev pub is_pencil : ℕ → PencilData → Bool
is_pencil actions p =
    is_below actions p.action && list_all is_drawing p.drawings && nat_le (length p.layers) MAX_LAYERS
    && are_distinct same_text (map (λ l. l.name) p.layers) && list_all (λ l. are_layer_keys (length p.drawings) l.keys) p.layers

abbrev pub drawing_count : List PencilData → ℕ
drawing_count pencils = sum_by (λ p. length p.drawings) pencils

abbrev pub drawing_points : Drawing → ℕ
drawing_points d = sum_by (λ s. length s.points) d.strokes

abbrev pub point_count : List PencilData → ℕ
point_count pencils = sum_by (λ p. sum_by drawing_points p.drawings) pencils

abbrev pub layer_key_count : List PencilData → ℕ
layer_key_count pencils = sum_by (λ p. sum_by (λ l. length l.keys) p.layers) pencils

-- the pencils of a scene of so many actions
abbrev pub are_pencils : ℕ → List PencilData → Bool
are_pencils actions pencils =
    nat_le (length pencils) MAX_PENCILS && nat_le (drawing_count pencils) MAX_DRAWINGS && nat_le (point_count pencils) MAX_POINTS
    && nat_le (layer_key_count pencils) MAX_LAYER_KEYS && are_distinct same_text (map (λ p. p.name) pencils)
    && list_all (is_pencil actions) pencils

-- ---- what names an object or a bone of one

abbrev pub has_object : SceneRecord → ObjectId → Bool
has_object scene id = is_some (object_of scene id)

-- the bones of an armature object
abbrev pub bones_of : SceneRecord → ObjectId → Option (List RestBone)
bones_of scene id = option_and_then (λ o. option_map (λ a. a.bones) (armature_of scene o.kind)) (object_of scene id)

-- whether an object is an armature object that has the bone of an index
abbrev pub has_bone : SceneRecord → ObjectId → ℕ → Bool
has_bone scene id bone = option_map_or (λ bones. nat_lt bone (length bones)) (bones_of scene id) false

-- whether an object is an armature object that has a bone of a name
abbrev pub has_bone_named : SceneRecord → ObjectId → List ℕ → Bool
has_bone_named scene id name = option_map_or (λ bones. list_any (λ b. same_text b.name name) bones) (bones_of scene id) false

-- layers are bound to bones that are there
abbrev pub is_bound : SceneRecord → Option BoneRef → Bool
is_bound scene bound = option_map_or (λ b. has_bone scene b.object b.bone) bound true

abbrev pub are_bound : SceneRecord → Bool
are_bound scene = list_all (λ p. list_all (λ l. is_bound scene l.bound) p.layers) scene.pencils

-- ---- objects

abbrev pub is_parent : SceneRecord → Parent → Bool
is_parent scene parent = has_object scene parent.object && option_map_or (λ b. has_bone scene parent.object b) parent.bone true

-- a mirror's centre is there, and an array has at least one copy and at most so many
abbrev pub is_effect : SceneRecord → Effect → Bool
is_effect scene (Offset loc scale) = true
is_effect scene (Mirror mirror) = option_map_or (has_object scene) mirror.centre true
is_effect scene (Array count offset) = nat_le 1 count && nat_le count MAX_ARRAY_COUNT

-- an armature object has a pose for each bone of its armature; a pencil object has few modifiers, with distinct names
abbrev pub is_kind : SceneRecord → Kind → Bool
is_kind scene Empty = true
is_kind scene (Armature armature pose) = option_map_or (λ a. length pose == length a.bones) (slice_get scene.armatures armature) false
is_kind scene (Pencil pencil modifiers) =
    nat_lt pencil (length scene.pencils) && nat_le (length modifiers) MAX_MODIFIERS
    && are_distinct same_text (map (λ m. m.name) modifiers) && list_all (λ m. is_effect scene m.effect) modifiers

abbrev pub is_object : SceneRecord → Object → Bool
is_object scene o =
    nat_lt o.id.0 scene.next && is_below (length scene.actions) o.action
    && option_map_or (is_parent scene) o.parent true && is_kind scene o.kind

abbrev pub is_pencil_kind : Kind → Bool
is_pencil_kind Empty = false
is_pencil_kind (Armature armature pose) = false
is_pencil_kind (Pencil pencil modifiers) = true

-- the bones of an object of a kind
abbrev pub pose_count : Kind → ℕ
pose_count Empty = 0
pose_count (Armature armature pose) = length pose
pose_count (Pencil pencil modifiers) = 0

-- the objects of a scene
abbrev pub are_objects : SceneRecord → Bool
are_objects scene =
    nat_le (length scene.objects) MAX_OBJECTS
    && nat_le (length (filter (λ o. is_pencil_kind o.kind) scene.objects)) MAX_PENCIL_OBJECTS
    && nat_le (sum_by (λ o. pose_count o.kind) scene.objects) MAX_POSE_BONES
    && are_distinct same_text (map (λ o. o.name) scene.objects)
    && are_rising (λ o p. nat_lt o.id.0 p.id.0) scene.objects
    && list_all (is_object scene) scene.objects

-- ---- drivers

-- whether an id has a path: an object its own channels and those of its bones, a pencil the offsets of its layers
abbrev pub has_path : SceneRecord → AnimId → Path → Bool
has_path scene (anim.Object o) (Own channel) = has_object scene o
has_path scene (anim.Object o) (Bone name channel) = has_bone_named scene o name
has_path scene (anim.Object o) (Layer name axis) = false
has_path scene (anim.Pencil p) (Own channel) = false
has_path scene (anim.Pencil p) (Bone name channel) = false
has_path scene (anim.Pencil p) (Layer name axis) =
    option_map_or (λ pencil. list_any (λ l. same_text l.name name) pencil.layers) (slice_get scene.pencils p) false

-- whether an object has the transform that a space names
abbrev pub has_space : SceneRecord → ObjectId → Space → Bool
has_space scene o space.World = has_object scene o
has_space scene o space.Local = has_object scene o
has_space scene o (space.Pose bone) = has_bone scene o bone

abbrev pub is_variable : SceneRecord → Variable → Bool
is_variable scene (Property id path) = has_path scene id path
is_variable scene (Transform object space channel) = has_space scene object space

abbrev pub is_driver : SceneRecord → Driver → Bool
is_driver scene d =
    has_path scene d.id d.path && nat_le 1 (length d.variables) && nat_le (length d.variables) MAX_VARIABLES
    && list_all (is_variable scene) d.variables

-- whether two drivers drive one channel
abbrev pub same_target : Driver → Driver → Bool
same_target a b = same_id a.id b.id && same_path a.path b.path

-- the drivers of a scene
abbrev pub are_drivers : SceneRecord → Bool
are_drivers scene =
    nat_le (length scene.drivers) MAX_DRIVERS && are_distinct same_target scene.drivers && list_all (is_driver scene) scene.drivers

-- A whole scene. It is closed to proofs that don't say `unfolding is_scene`.
unfoldable pub is_scene : SceneRecord → Bool
is_scene s =
    are_actions s.actions && are_armatures s.armatures && are_pencils (length s.actions) s.pencils && are_bound s
    && are_objects s && are_drivers s

-- a scene with the numbers of its keys and of its layer keys
pub record CountedScene (s : SceneRecord) (keys layer_keys : ℕ) : Type 0 where
  pub is_scene : IsTrue (is_scene s)
  pub counts_keys : keys ≡ key_count s.actions
  pub counts_layer_keys : layer_keys ≡ layer_key_count s.pencils

-- The first pass over a scene: what is wrong with it before any name is looked up. Each record has the list of its tests,
-- in the order of its members; what is tested with what stood before it in its list is told that as `before`.
use Rattle.std.specs.Prelude.{ℕ, ◌+◌, ◌-◌, ℤ, pos, ◌&&◌, ◌||◌, List, [], ◌∷◌, ◌++◌, codes, Bool, true, not, position, Option, Some, None, is_some, nat_le, int_lt, int_le, if◌then◌else◌}
use Rattle.std.specs.Option.{option_map_or}
use Rattle.std.specs.List.{list_any}
use Rattle.serde_json.specs.Data.{Data, Items, no_items, item}
use Rattle.serde_json.specs.Find.{as_array}
use Rattle.rig_fixed.specs.Fixed.{highest}
use Rattle.rig_scene.specs.declared.path.Path.{Path}
use Rattle.rig_scene.specs.declared.limits.TheConstants.{MAX_OBJECTS, MAX_PENCIL_OBJECTS, MAX_ACTIONS, MAX_CURVES, MAX_KEYS, MAX_ARMATURES, MAX_BONES}
use Rattle.rig_scene.specs.declared.limits.TheConstants.{MAX_PENCILS, MAX_LAYERS, MAX_LAYER_KEYS, MAX_DRAWINGS, MAX_POINTS, MAX_MODIFIERS, MAX_ARRAY_COUNT}
use Rattle.rig_scene.specs.declared.limits.TheConstants.{MAX_DRIVERS, MAX_VARIABLES}
use Rattle.rig_scene.specs.Channel.{channel_named, axis_named}
use Rattle.rig_scene.specs.Path.{same_path}
use Rattle.rig_scene.specs.Text.{same_text}
use Rattle.rig_scenejson.specs.declared.fault.Fault.{Fault}
use Rattle.rig_scenejson.specs.declared.fault.Cause.TheVariants.{WrongKind, Duplicate, Unordered, Count, Version}
use Rattle.rig_scenejson.specs.declared.member.Member.TheVariants as m
use Rattle.rig_scenejson.specs.declared.before.CurvesBefore.{CurvesBefore}
use Rattle.rig_scenejson.specs.declared.before.ActionsBefore.{ActionsBefore}
use Rattle.rig_scenejson.specs.declared.before.ArmaturesBefore.{ArmaturesBefore}
use Rattle.rig_scenejson.specs.declared.before.LayersBefore.{LayersBefore}
use Rattle.rig_scenejson.specs.declared.before.PencilsBefore.{PencilsBefore}
use Rattle.rig_scenejson.specs.declared.before.ObjectsBefore.{ObjectsBefore}
use Rattle.rig_scenejson.specs.declared.before.Target.{Target}
use Rattle.rig_scenejson.specs.declared.before.Rig.{Rig}
use Rattle.rig_scenejson.specs.declared.before.Rig.TheVariants as rigs
use Rattle.rig_scenejson.specs.declared.before.Catalog.{Catalog}
use Rattle.rig_scenejson.specs.Tests.{fault, unless, in_member, required, optional, after_field, items_faults, items_after}
use Rattle.rig_scenejson.specs.Value.{whole_of, text_of, items_of, item_count, record_faults, integer_faults, whole_faults, number_faults, frame_faults, truth_faults, name_faults, word_faults, is_among, new_faults, vector_faults}
use Rattle.rig_scenejson.specs.Given.{has, text_at, items_at, is_kind, path_given, target_given}

-- ---- lists and names

-- S2, S10: it isn't an array, or has too few or too many items; then what is wrong with them
abbrev pub list_faults : {B : Type 0} → ℕ → ℕ → (B → Data → List Fault) → (B → Data → B) → B → Data → List Fault
list_faults least most faults next before d =
    option_map_or (λ ds. unless (nat_le least (item_count ds) && nat_le (item_count ds) most) Count ++ items_faults faults next 0 before ds) (as_array d) (fault WrongKind)

-- what stands before the next list of the kind after this one
abbrev pub after_list : {B : Type 0} → (B → Data → B) → B → Data → B
after_list next before d = items_after next before (items_of d)

-- a name that may not stand before it in its list
abbrev pub new_name_faults : List (List ℕ) → Data → List Fault
new_name_faults before d = name_faults d ++ new_faults before d

abbrev pub after_name : List (List ℕ) → Data → List (List ℕ)
after_name before d = before ++ text_of d ∷ []

-- ---- the location, rotation and scale of a record

abbrev pub transform_faults : Data → List Fault
transform_faults d = optional m.Loc (vector_faults 3) d ++ optional m.Rot (vector_faults 4) d ++ optional m.Scale number_faults d

-- ---- paths and ids

-- a member that is looked at only where the test says so
abbrev pub where_true : Bool → List Fault → List Fault
where_true test faults = if test then faults else []

-- with a bone or none, one of the eight words; with a layer, one of the three
abbrev pub path_faults : Data → List Fault
path_faults d =
    optional m.Bone name_faults d
    ++ where_true (not (has m.Bone d)) (optional m.Layer name_faults d)
    ++ required m.Channel (word_faults (λ s. if not (has m.Bone d) && has m.Layer d then is_some (axis_named s) else is_some (channel_named s))) d

-- an object, or a pencil where none is named
abbrev pub id_faults : Data → List Fault
id_faults d = if not (has m.Object d) && has m.Pencil d then required m.Pencil name_faults d else required m.Object name_faults d

-- ---- actions

-- S9: the frame isn't above the one before it
abbrev pub rising_faults : Option ℤ → Data → List Fault
rising_faults before d = unless (option_map_or (λ f. int_lt f (whole_of d)) before true) Unordered

abbrev pub rising_frame_faults : Option ℤ → Data → List Fault
rising_frame_faults before d = frame_faults d ++ rising_faults before d

abbrev pub after_frame : Option ℤ → Data → Option ℤ
after_frame before d = Some (whole_of d)

abbrev pub key_faults : Option ℤ → Data → List Fault
key_faults before d =
    record_faults d ++ required m.Frame (rising_frame_faults before) d ++ required m.Value number_faults d
    ++ optional m.Interp (word_faults (is_among (codes "constant" ∷ codes "linear" ∷ []))) d

abbrev pub after_key : Option ℤ → Data → Option ℤ
after_key before d = after_field m.Frame after_frame before d

-- each path once in an action, S6 at the channel
abbrev pub new_path_faults : List Path → Data → List Fault
new_path_faults before d = path_faults d ++ in_member m.Channel (unless (not (list_any (same_path (path_given d)) before)) Duplicate)

abbrev pub curve_faults : CurvesBefore → Data → List Fault
curve_faults before d =
    record_faults d ++ path_faults d
    ++ in_member m.Channel (unless (not (list_any (same_path (path_given d)) before.paths)) Duplicate)
    ++ optional m.Keys (list_faults 0 before.keys_left key_faults after_key None) d

abbrev pub after_curve : CurvesBefore → Data → CurvesBefore
after_curve before d = record {
  paths = before.paths ++ path_given d ∷ [];
  keys_left = before.keys_left - item_count (items_at m.Keys d);
}

abbrev pub action_faults : ActionsBefore → Data → List Fault
action_faults before d =
    record_faults d ++ required m.Name (new_name_faults before.names) d
    ++ optional m.Curves (list_faults 0 before.curves_left curve_faults after_curve (record { paths = []; keys_left = before.keys_left })) d

abbrev pub after_action : ActionsBefore → Data → ActionsBefore
after_action before d = record {
  names = before.names ++ text_at m.Name d ∷ [];
  curves_left = before.curves_left - item_count (items_at m.Curves d);
  keys_left = (items_after after_curve (record { paths = []; keys_left = before.keys_left }) (items_at m.Curves d)).keys_left;
}

-- ---- armatures

-- the names of the bones before it
abbrev pub bone_faults : List (List ℕ) → Data → List Fault
bone_faults before d =
    record_faults d ++ required m.Name (new_name_faults before) d ++ optional m.Parent name_faults d
    ++ optional m.Loc (vector_faults 3) d ++ optional m.Rot (vector_faults 4) d ++ optional m.Scale (whole_faults (pos 1) highest) d

abbrev pub after_named : List (List ℕ) → Data → List (List ℕ)
after_named before d = before ++ text_at m.Name d ∷ []

abbrev pub armature_faults : ArmaturesBefore → Data → List Fault
armature_faults before d =
    record_faults d ++ required m.Name (new_name_faults before.names) d
    ++ optional m.Bones (list_faults 0 MAX_BONES bone_faults after_named []) d

abbrev pub after_armature : ArmaturesBefore → Data → ArmaturesBefore
after_armature before d = record {
  names = before.names ++ text_at m.Name d ∷ [];
  bones = before.bones ++ items_after after_named [] (items_at m.Bones d) ∷ [];
}

-- ---- pencils

-- the points of an array of strokes: what is no array has none
abbrev pub points_in : Items → ℕ
points_in no_items = 0
points_in (item d ds) = item_count (items_of d) + points_in ds

abbrev pub point_faults : Unit {0} → Data → List Fault
point_faults before d = vector_faults 3 d

abbrev pub after_any : Unit {0} → Data → Unit {0}
after_any before d = before

-- S2, S10: it isn't an array, or has no point; then what is wrong with its points
abbrev pub stroke_faults : Unit {0} → Data → List Fault
stroke_faults before d = list_faults 1 4294967295 point_faults after_any before d

-- the points of all strokes are counted before any is looked at
abbrev pub strokes_faults : ℕ → Data → List Fault
strokes_faults points_left d =
    option_map_or (λ ds. unless (nat_le (points_in ds) points_left) Count ++ items_faults stroke_faults after_any 0 tt ds) (as_array d) (fault WrongKind)

abbrev pub after_strokes : ℕ → Data → ℕ
after_strokes points_left d = points_left - points_in (items_of d)

-- how many points there may still be
abbrev pub drawing_faults : ℕ → Data → List Fault
drawing_faults points_left d = record_faults d ++ optional m.Strokes (strokes_faults points_left) d

abbrev pub after_drawing : ℕ → Data → ℕ
after_drawing points_left d = points_left - points_in (items_at m.Strokes d)

abbrev pub layer_key_faults : Option ℤ → Data → List Fault
layer_key_faults before d = record_faults d ++ required m.Frame (rising_frame_faults before) d ++ required m.Drawing integer_faults d

-- the bone is looked at only with an armature
abbrev pub bound_faults : Data → List Fault
bound_faults d = optional m.Armature name_faults d ++ where_true (has m.Armature d) (required m.Bone name_faults d)

abbrev pub layer_faults : LayersBefore → Data → List Fault
layer_faults before d =
    record_faults d ++ required m.Name (new_name_faults before.names) d ++ optional m.Hidden truth_faults d
    ++ optional m.Offset (vector_faults 3) d ++ optional m.Armature name_faults d
    ++ where_true (has m.Armature d) (required m.Bone name_faults d)
    ++ optional m.Keys (list_faults 0 before.keys_left layer_key_faults after_key None) d

abbrev pub after_layer : LayersBefore → Data → LayersBefore
after_layer before d = record {
  names = before.names ++ text_at m.Name d ∷ [];
  keys_left = before.keys_left - item_count (items_at m.Keys d);
}

abbrev pub pencil_faults : PencilsBefore → Data → List Fault
pencil_faults before d =
    record_faults d ++ required m.Name (new_name_faults before.names) d ++ optional m.Action name_faults d
    ++ optional m.Drawings (list_faults 0 before.drawings_left drawing_faults after_drawing before.points_left) d
    ++ optional m.Layers (list_faults 0 MAX_LAYERS layer_faults after_layer (record { names = []; keys_left = before.keys_left })) d

abbrev pub after_layers : PencilsBefore → Data → LayersBefore
after_layers before d = items_after after_layer (record { names = []; keys_left = before.keys_left }) (items_at m.Layers d)

abbrev pub after_pencil : PencilsBefore → Data → PencilsBefore
after_pencil before d = record {
  names = before.names ++ text_at m.Name d ∷ [];
  layers = before.layers ++ (after_layers before d).names ∷ [];
  drawings_left = before.drawings_left - item_count (items_at m.Drawings d);
  points_left = items_after after_drawing before.points_left (items_at m.Drawings d);
  keys_left = (after_layers before d).keys_left;
}

-- ---- objects

abbrev pub pose_faults : List (List ℕ) → Data → List Fault
pose_faults before d = record_faults d ++ required m.Bone (new_name_faults before) d ++ transform_faults d

abbrev pub after_pose : List (List ℕ) → Data → List (List ℕ)
after_pose before d = before ++ text_at m.Bone d ∷ []

abbrev pub offset_faults : Data → List Fault
offset_faults d = where_true (is_kind (codes "offset") d) (optional m.Loc (vector_faults 3) d ++ optional m.Scale number_faults d)

abbrev pub mirror_faults : Data → List Fault
mirror_faults d =
    where_true (is_kind (codes "mirror") d)
    (optional m.X truth_faults d ++ optional m.Y truth_faults d ++ optional m.Z truth_faults d ++ optional m.Object name_faults d)

abbrev pub array_faults : Data → List Fault
array_faults d = where_true (is_kind (codes "array") d) (required m.Count (whole_faults (pos 1) (pos MAX_ARRAY_COUNT)) d ++ optional m.Offset (vector_faults 3) d)

-- the members that the kind of a modifier has
abbrev pub effect_faults : Data → List Fault
effect_faults d = offset_faults d ++ mirror_faults d ++ array_faults d

abbrev pub modifier_faults : List (List ℕ) → Data → List Fault
modifier_faults before d =
    record_faults d ++ required m.Name (new_name_faults before) d
    ++ required m.Kind (word_faults (is_among (codes "offset" ∷ codes "mirror" ∷ codes "array" ∷ []))) d
    ++ optional m.Viewport truth_faults d ++ optional m.Render truth_faults d ++ effect_faults d

-- one of the kinds; S10 where it is one pencil object too many
abbrev pub object_kind_faults : ℕ → Data → List Fault
object_kind_faults pencils_left d =
    word_faults (is_among (codes "empty" ∷ codes "armature" ∷ codes "pencil" ∷ [])) d
    ++ unless (not (same_text (text_of d) (codes "pencil")) || nat_le 1 pencils_left) Count

-- `data` is looked at only for the kinds that have it
abbrev pub data_faults : Data → List Fault
data_faults d = where_true (is_kind (codes "armature") d || is_kind (codes "pencil") d) (required m.Data name_faults d)

-- `parent_bone` is looked at only with a parent
abbrev pub parent_faults : Data → List Fault
parent_faults d = optional m.Parent name_faults d ++ where_true (has m.Parent d) (optional m.ParentBone name_faults d)

abbrev pub relation_faults : Data → List Fault
relation_faults d = data_faults d ++ optional m.Parent name_faults d ++ where_true (has m.Parent d) (optional m.ParentBone name_faults d)

-- the pose is looked at only for an armature object, the modifiers only for a pencil object
abbrev pub pose_list_faults : Data → List Fault
pose_list_faults d = where_true (is_kind (codes "armature") d) (optional m.Pose (list_faults 0 4294967295 pose_faults after_pose []) d)

abbrev pub modifier_list_faults : Data → List Fault
modifier_list_faults d = where_true (is_kind (codes "pencil") d) (optional m.Modifiers (list_faults 0 MAX_MODIFIERS modifier_faults after_named []) d)

abbrev pub stack_faults : Data → List Fault
stack_faults d = pose_list_faults d ++ modifier_list_faults d

abbrev pub object_faults : ObjectsBefore → Data → List Fault
object_faults before d =
    record_faults d ++ required m.Name (new_name_faults before.names) d ++ required m.Kind (object_kind_faults before.pencils_left) d
    ++ relation_faults d ++ transform_faults d ++ optional m.Action name_faults d ++ stack_faults d

-- which armature an object has, of those of these names
abbrev pub rig_of : List (List ℕ) → Data → Rig
rig_of armatures d =
    if is_kind (codes "armature") d then option_map_or rigs.Armature (position (same_text (text_at m.Data d)) armatures) rigs.UnknownArmature
    else rigs.NoArmature

abbrev pub after_object : List (List ℕ) → ObjectsBefore → Data → ObjectsBefore
after_object armatures before d = record {
  names = before.names ++ text_at m.Name d ∷ [];
  pencils_left = if is_kind (codes "pencil") d then before.pencils_left - 1 else before.pencils_left;
  rigs = before.rigs ++ rig_of armatures d ∷ [];
}

-- ---- drivers

-- the id, then the path
abbrev pub target_faults : Data → List Fault
target_faults d = id_faults d ++ path_faults d

-- the space is looked at only with no bone
abbrev pub space_faults : Data → List Fault
space_faults d = where_true (not (has m.Bone d)) (optional m.Space (word_faults (is_among (codes "world" ∷ codes "local" ∷ []))) d)

abbrev pub transform_variable_faults : Data → List Fault
transform_variable_faults d =
    required m.Object name_faults d ++ optional m.Bone name_faults d ++ required m.Channel (word_faults (λ s. is_some (channel_named s))) d
    ++ space_faults d

abbrev pub variable_faults : Unit {0} → Data → List Fault
variable_faults before d =
    record_faults d ++ required m.Kind (word_faults (is_among (codes "property" ∷ codes "transform" ∷ []))) d
    ++ where_true (is_kind (codes "property") d) (target_faults d) ++ where_true (is_kind (codes "transform") d) (transform_variable_faults d)

-- whether two targets are one channel of one id, by their names
abbrev pub same_target : Target → Target → Bool
same_target a b = (if a.is_pencil then b.is_pencil else not b.is_pencil) && same_text a.id b.id && same_path a.path b.path

-- each channel is driven once, S6 at the channel
abbrev pub new_target_faults : List Target → Data → List Fault
new_target_faults before d = target_faults d ++ in_member m.Channel (unless (not (list_any (same_target (target_given d)) before)) Duplicate)

abbrev pub driver_faults : List Target → Data → List Fault
driver_faults before d =
    record_faults d ++ target_faults d
    ++ in_member m.Channel (unless (not (list_any (same_target (target_given d)) before)) Duplicate)
    ++ required m.Kind (word_faults (is_among (codes "average" ∷ codes "sum" ∷ codes "min" ∷ codes "max" ∷ []))) d
    ++ required m.Variables (list_faults 1 MAX_VARIABLES variable_faults after_any tt) d

abbrev pub after_driver : List Target → Data → List Target
after_driver before d = before ++ target_given d ∷ []

-- ---- the scene

-- S2, S3, S11
abbrev pub version_faults : Data → List Fault
version_faults d = integer_faults d ++ unless (int_le (whole_of d) (pos 1) && int_le (pos 1) (whole_of d)) Version

abbrev pub no_actions : ActionsBefore
no_actions = record { names = []; curves_left = MAX_CURVES; keys_left = MAX_KEYS }

abbrev pub no_armatures : ArmaturesBefore
no_armatures = record { names = []; bones = [] }

abbrev pub no_pencils : PencilsBefore
no_pencils = record { names = []; layers = []; drawings_left = MAX_DRAWINGS; points_left = MAX_POINTS; keys_left = MAX_LAYER_KEYS }

abbrev pub no_objects : ObjectsBefore
no_objects = record { names = []; pencils_left = MAX_PENCIL_OBJECTS; rigs = [] }

-- what stands behind the last record of each list
abbrev pub after_actions : Data → ActionsBefore
after_actions d = items_after after_action no_actions (items_at m.Actions d)

abbrev pub after_armatures : Data → ArmaturesBefore
after_armatures d = items_after after_armature no_armatures (items_at m.Armatures d)

abbrev pub after_pencils : Data → PencilsBefore
after_pencils d = items_after after_pencil no_pencils (items_at m.Pencils d)

-- with armatures of these names
abbrev pub objects_after : List (List ℕ) → Data → ObjectsBefore
objects_after armatures d = items_after (after_object armatures) no_objects (items_at m.Objects d)

abbrev pub after_objects : Data → ObjectsBefore
after_objects d = objects_after (after_armatures d).names d

-- the names of a scene
unfoldable pub catalog_of : Data → Catalog
catalog_of d = record {
  actions = (after_actions d).names;
  armatures = (after_armatures d).names;
  bones = (after_armatures d).bones;
  pencils = (after_pencils d).names;
  layers = (after_pencils d).layers;
  objects = (after_objects d).names;
  rigs = (after_objects d).rigs;
}

-- the tests of each list
abbrev pub actions_faults : Data → List Fault
actions_faults d = optional m.Actions (list_faults 0 MAX_ACTIONS action_faults after_action no_actions) d

abbrev pub armatures_faults : Data → List Fault
armatures_faults d = optional m.Armatures (list_faults 0 MAX_ARMATURES armature_faults after_armature no_armatures) d

abbrev pub pencils_faults : Data → List Fault
pencils_faults d = optional m.Pencils (list_faults 0 MAX_PENCILS pencil_faults after_pencil no_pencils) d

abbrev pub objects_faults : List (List ℕ) → Data → List Fault
objects_faults armatures d = optional m.Objects (list_faults 0 MAX_OBJECTS object_faults (after_object armatures) no_objects) d

abbrev pub drivers_faults : Data → List Fault
drivers_faults d = optional m.Drivers (list_faults 0 MAX_DRIVERS driver_faults after_driver []) d

-- all tests of the first pass
unfoldable pub pass_one : Data → List Fault
pass_one d =
    record_faults d ++ required m.Version version_faults d
    ++ actions_faults d ++ armatures_faults d ++ pencils_faults d ++ objects_faults (after_armatures d).names d ++ drivers_faults d

-- When an edit is refused: for each cause the edits that can have it, with the condition. Each condition is read by itself; where several
-- hold, the first cause in the order of their codes is answered.
use Rattle.std.specs.Prelude.{◌≤◌, ⊤, ℕ, ◌+◌, ◌&&◌, ◌||◌, not, List, length, filter, sum_by, Bool, true, false, if◌then◌else◌, nat_le, int_le, Option, None, Some, is_some, is_none, option_and_then, ℤ, pos}
use Rattle.std.specs.Option.{option_or, option_map_or}
use Rattle.std.specs.List.{list_any, find}
use Rattle.std.specs.Ordering.{int_eq}
use Rattle.rig_fixed.specs.Fixed.{lowest, highest}
use Rattle.rig_scene.specs.declared.driver.Driver.{Driver}
use Rattle.rig_scene.specs.declared.driver.Variable.{Variable}
use Rattle.rig_scene.specs.declared.driver.Variable.TheVariants as variable
use Rattle.rig_scene.specs.declared.id.AnimId.TheVariants as anim
use Rattle.rig_scene.specs.declared.id.ObjectId.{ObjectId}
use Rattle.rig_scene.specs.declared.modifier.Effect.{Effect}
use Rattle.rig_scene.specs.declared.modifier.Effect.TheVariants as effect
use Rattle.rig_scene.specs.declared.object.Kind.{Kind}
use Rattle.rig_scene.specs.declared.object.Kind.TheVariants.{Empty, Armature, Pencil}
use Rattle.rig_scene.specs.declared.object.Object.{Object}
use Rattle.rig_scene.specs.declared.path.Path.{Path}
use Rattle.rig_scene.specs.declared.path.Path.TheVariants.{Own, Bone, Layer}
use Rattle.rig_scene.specs.declared.limits.TheConstants.{MAX_KEYS, MAX_LAYER_KEYS, MAX_DRIVERS, MAX_OBJECTS, MAX_PENCIL_OBJECTS, MAX_POSE_BONES, MAX_MODIFIERS, MAX_ARRAY_COUNT, MAX_VARIABLES}
use Rattle.rig_scene.specs.Drivers.{driver_of}
use Rattle.rig_scene.specs.Id.{same_object, same_id}
use Rattle.rig_scene.specs.Scene.{SceneRecord}
use Rattle.rig_scene.specs.Text.{same_text}
use Rattle.rig_scene.specs.WellFormed.{is_frame, has_path, is_pencil_kind, pose_count, key_count, layer_key_count}
use Rattle.rig_edits.specs.declared.cause.EditCause.{EditCause}
use Rattle.rig_edits.specs.declared.cause.EditCause.TheVariants.{UnknownId, WrongKind, UnknownPath, UnknownPart, OutOfRange, Duplicate, Absent, InUse, Full}
use Rattle.rig_edits.specs.declared.edit.Edit.{Edit}
use Rattle.rig_edits.specs.declared.edit.Edit.TheVariants.{SetValue, SetKey, DeleteKey, SetFlag, MovePoint, SetLayerKey, DeleteLayerKey, SetParent, SetDriver, ClearDriver, AddObject, RemoveObject, AddModifier, RemoveModifier}
use Rattle.rig_edits.specs.declared.edit.Flag.TheVariants.{Switch, Hidden}
use Rattle.rig_edits.specs.declared.edit.IdName.{IdName}
use Rattle.rig_edits.specs.declared.edit.IdName.TheVariants as named
use Rattle.rig_edits.specs.declared.edit.NewEffect.{NewEffect}
use Rattle.rig_edits.specs.declared.edit.NewEffect.TheVariants.{Offset, Mirror, Array}
use Rattle.rig_edits.specs.declared.edit.NewKind.{NewKind}
use Rattle.rig_edits.specs.declared.edit.NewKind.TheVariants as new
use Rattle.rig_edits.specs.declared.edit.NewParent.{NewParent}
use Rattle.rig_edits.specs.declared.edit.NewVariable.{NewVariable}
use Rattle.rig_edits.specs.declared.edit.NewVariable.TheVariants.{Property, Transform}
use Rattle.rig_edits.specs.declared.edit.Whole3.{Whole3}
use Rattle.rig_edits.specs.Named.{action_named, object_named, pencil_named, pencil_index, armature_index, curve_of, layer_named, bone_index, modifier_named, modifiers_of, at_number, id_of}

-- ---- E1: nothing has the name

abbrev pub lacks_object : SceneRecord → List ℕ → Bool
lacks_object s name = is_none (object_named s name)

abbrev pub lacks_id : SceneRecord → IdName → Bool
lacks_id s id = is_none (id_of s id)

abbrev pub lacks_parent : SceneRecord → Option NewParent → Bool
lacks_parent s parent = option_map_or (λ p. lacks_object s p.object) parent false

abbrev pub lacks_variable : SceneRecord → NewVariable → Bool
lacks_variable s (Property id path) = lacks_id s id
lacks_variable s (Transform object named_bone world channel) = lacks_object s object

abbrev pub lacks_data : SceneRecord → NewKind → Bool
lacks_data s new.Empty = false
lacks_data s (new.Armature name) = is_none (armature_index s name)
lacks_data s (new.Pencil name) = is_none (pencil_index s name)

abbrev pub lacks_centre : SceneRecord → NewEffect → Bool
lacks_centre s (Offset loc scale) = false
lacks_centre s (Mirror x y z object) = option_map_or (lacks_object s) object false
lacks_centre s (Array count offset) = false

abbrev pub unknown_id : SceneRecord → Edit → Bool
unknown_id s (SetValue id path value) = lacks_id s id
unknown_id s (SetKey action path frame value interp) = is_none (action_named s action)
unknown_id s (DeleteKey action path frame) = is_none (action_named s action)
unknown_id s (SetFlag (Switch object modifier mode) on) = lacks_object s object
unknown_id s (SetFlag (Hidden pencil layer) on) = is_none (pencil_named s pencil)
unknown_id s (MovePoint pencil drawing stroke point to) = is_none (pencil_named s pencil)
unknown_id s (SetLayerKey pencil layer frame drawing) = is_none (pencil_named s pencil)
unknown_id s (DeleteLayerKey pencil layer frame) = is_none (pencil_named s pencil)
unknown_id s (SetParent object parent) = lacks_object s object || lacks_parent s parent
unknown_id s (SetDriver id path driver) = lacks_id s id || list_any (lacks_variable s) driver.variables
unknown_id s (ClearDriver id path) = lacks_id s id
unknown_id s (AddObject name kind) = lacks_data s kind
unknown_id s (RemoveObject object) = lacks_object s object
unknown_id s (AddModifier object name viewport render effect) = lacks_object s object || lacks_centre s effect
unknown_id s (RemoveModifier object modifier) = lacks_object s object

-- ---- E2: the object or the path is of another kind

abbrev pub is_armature_kind : Kind → Bool
is_armature_kind Empty = false
is_armature_kind (Armature armature pose) = true
is_armature_kind (Pencil pencil modifiers) = false

abbrev pub is_armature_object : SceneRecord → List ℕ → Bool
is_armature_object s name = option_map_or (λ o. is_armature_kind o.kind) (object_named s name) false

abbrev pub is_pencil_object : SceneRecord → List ℕ → Bool
is_pencil_object s name = option_map_or (λ o. is_pencil_kind o.kind) (object_named s name) false

-- objects have channels of their own, armature objects those of bones, and pencils those of layers
abbrev pub can_have : SceneRecord → IdName → Path → Bool
can_have s (named.Object name) (Own channel) = true
can_have s (named.Object name) (Bone bone channel) = is_armature_object s name
can_have s (named.Object name) (Layer layer axis) = false
can_have s (named.Pencil name) (Own channel) = false
can_have s (named.Pencil name) (Bone bone channel) = false
can_have s (named.Pencil name) (Layer layer axis) = true

-- a bone is named of an object without bones
abbrev pub has_no_bones : SceneRecord → List ℕ → Option (List ℕ) → Bool
has_no_bones s object bone = is_some bone && not (is_armature_object s object)

abbrev pub is_parent_boneless : SceneRecord → Option NewParent → Bool
is_parent_boneless s parent = option_map_or (λ p. has_no_bones s p.object p.bone) parent false

abbrev pub is_variable_wrong : SceneRecord → NewVariable → Bool
is_variable_wrong s (Property id path) = not (can_have s id path)
is_variable_wrong s (Transform object bone world channel) = has_no_bones s object bone

abbrev pub wrong_kind : SceneRecord → Edit → Bool
wrong_kind s (SetValue id path value) = not (can_have s id path)
wrong_kind s (SetFlag (Switch object modifier mode) on) = not (is_pencil_object s object)
wrong_kind s (SetParent object parent) = is_parent_boneless s parent
wrong_kind s (SetDriver id path driver) = not (can_have s id path) || list_any (is_variable_wrong s) driver.variables
wrong_kind s (ClearDriver id path) = not (can_have s id path)
wrong_kind s (AddModifier object name viewport render effect) = not (is_pencil_object s object)
wrong_kind s (RemoveModifier object modifier) = not (is_pencil_object s object)
wrong_kind s edit = false

-- ---- E3: the id hasn't got the path's bone or layer

abbrev pub lacks_path : SceneRecord → IdName → Path → Bool
lacks_path s id path = not (option_map_or (λ a. has_path s a path) (id_of s id) false)

abbrev pub lacks_property : SceneRecord → NewVariable → Bool
lacks_property s (Property id path) = lacks_path s id path
lacks_property s (Transform object named_bone world channel) = false

abbrev pub unknown_path : SceneRecord → Edit → Bool
unknown_path s (SetValue id path value) = lacks_path s id path
unknown_path s (SetDriver id path driver) = lacks_path s id path || list_any (lacks_property s) driver.variables
unknown_path s (ClearDriver id path) = lacks_path s id path
unknown_path s edit = false

-- ---- E4: there is no such part

abbrev pub lacks_curve : SceneRecord → List ℕ → Path → Bool
lacks_curve s action path = is_none (option_and_then (λ a. curve_of a path) (action_named s action))

abbrev pub lacks_layer : SceneRecord → List ℕ → List ℕ → Bool
lacks_layer s pencil layer = is_none (option_and_then (λ p. layer_named p layer) (pencil_named s pencil))

abbrev pub lacks_drawing : SceneRecord → List ℕ → ℤ → Bool
lacks_drawing s pencil drawing = is_none (option_and_then (λ p. at_number p.drawings drawing) (pencil_named s pencil))

abbrev pub lacks_point : SceneRecord → List ℕ → ℤ → ℤ → ℤ → Bool
lacks_point s pencil drawing stroke point =
    is_none (option_and_then (λ k. at_number k.points point) (option_and_then (λ d. at_number d.strokes stroke)
    (option_and_then (λ p. at_number p.drawings drawing) (pencil_named s pencil))))

abbrev pub lacks_modifier : SceneRecord → List ℕ → List ℕ → Bool
lacks_modifier s object modifier = is_none (option_and_then (λ o. modifier_named o.kind modifier) (object_named s object))

-- a bone is named that the object hasn't got
abbrev pub lacks_bone : SceneRecord → List ℕ → Option (List ℕ) → Bool
lacks_bone s object bone =
    option_map_or (λ b. is_none (option_and_then (λ o. bone_index s o.kind b) (object_named s object))) bone false

abbrev pub lacks_parent_bone : SceneRecord → Option NewParent → Bool
lacks_parent_bone s parent = option_map_or (λ p. lacks_bone s p.object p.bone) parent false

abbrev pub lacks_transform : SceneRecord → NewVariable → Bool
lacks_transform s (Property id path) = false
lacks_transform s (Transform object bone world channel) = lacks_bone s object bone

abbrev pub unknown_part : SceneRecord → Edit → Bool
unknown_part s (SetKey action path frame value interp) = lacks_curve s action path
unknown_part s (DeleteKey action path frame) = lacks_curve s action path
unknown_part s (SetFlag (Switch object modifier mode) on) = lacks_modifier s object modifier
unknown_part s (SetFlag (Hidden pencil layer) on) = lacks_layer s pencil layer
unknown_part s (MovePoint pencil drawing stroke point to) = lacks_point s pencil drawing stroke point
unknown_part s (SetLayerKey pencil layer frame drawing) = lacks_layer s pencil layer || lacks_drawing s pencil drawing
unknown_part s (DeleteLayerKey pencil layer frame) = lacks_layer s pencil layer
unknown_part s (SetParent object parent) = lacks_parent_bone s parent
unknown_part s (SetDriver id path driver) = list_any (lacks_transform s) driver.variables
unknown_part s (RemoveModifier object modifier) = lacks_modifier s object modifier
unknown_part s edit = false

-- ---- E5: a number is out of its range

abbrev pub is_value : ℤ → Bool
is_value x = int_le lowest x && int_le x highest

abbrev pub is_location : Whole3 → Bool
is_location v = is_value v.x && is_value v.y && is_value v.z

abbrev pub is_effect_in_range : NewEffect → Bool
is_effect_in_range (Offset loc scale) = is_location loc && is_value scale
is_effect_in_range (Mirror x y z object) = true
is_effect_in_range (Array count offset) = int_le (pos 1) count && int_le count (pos MAX_ARRAY_COUNT) && is_location offset

abbrev pub out_of_range : SceneRecord → Edit → Bool
out_of_range s (SetValue id path value) = not (is_value value)
out_of_range s (SetKey action path frame value interp) = not (is_frame frame && is_value value)
out_of_range s (DeleteKey action path frame) = not (is_frame frame)
out_of_range s (MovePoint pencil drawing stroke point to) = not (is_location to)
out_of_range s (SetLayerKey pencil layer frame drawing) = not (is_frame frame)
out_of_range s (DeleteLayerKey pencil layer frame) = not (is_frame frame)
out_of_range s (AddModifier object name viewport render effect) = not (is_effect_in_range effect)
out_of_range s edit = false

-- ---- E6: the name stands there already

abbrev pub duplicate : SceneRecord → Edit → Bool
duplicate s (AddObject name kind) = not (lacks_object s name)
duplicate s (AddModifier object name viewport render effect) = not (lacks_modifier s object name)
duplicate s edit = false

-- ---- E7: there is nothing to take out

-- a curve, or a layer, has a key at a frame
abbrev pub has_key : SceneRecord → List ℕ → Path → ℤ → Bool
has_key s action path frame =
    option_map_or (λ c. list_any (λ k. int_eq k.frame frame) c.keys) (option_and_then (λ a. curve_of a path) (action_named s action)) false

abbrev pub has_layer_key : SceneRecord → List ℕ → List ℕ → ℤ → Bool
has_layer_key s pencil layer frame =
    option_map_or (λ l. list_any (λ k. int_eq k.frame frame) l.keys) (option_and_then (λ p. layer_named p layer) (pencil_named s pencil)) false

abbrev pub has_driver : SceneRecord → IdName → Path → Bool
has_driver s id path = is_some (option_and_then (λ a. driver_of s a path) (id_of s id))

abbrev pub absent : SceneRecord → Edit → Bool
absent s (DeleteKey action path frame) = not (has_key s action path frame)
absent s (DeleteLayerKey pencil layer frame) = not (has_layer_key s pencil layer frame)
absent s (ClearDriver id path) = not (has_driver s id path)
absent s edit = false

-- ---- E8: the object is in use

-- a mirror has the object as its centre
abbrev pub is_centre_of : ObjectId → Effect → Bool
is_centre_of id (effect.Offset loc scale) = false
is_centre_of id (effect.Mirror mirror) = option_map_or (same_object id) mirror.centre false
is_centre_of id (effect.Array count offset) = false

-- a variable names the object
abbrev pub is_read_by : ObjectId → Variable → Bool
is_read_by id (variable.Property a path) = same_id (anim.Object id) a
is_read_by id (variable.Transform object space channel) = same_object id object

-- another object has it as parent, or as the centre of a mirror
abbrev pub is_used_by_object : ObjectId → Object → Bool
is_used_by_object id o =
    not (same_object id o.id)
    && (option_map_or (λ p. same_object id p.object) o.parent false || list_any (λ m. is_centre_of id m.effect) (modifiers_of o.kind))

-- a driver of another id reads it
abbrev pub is_used_by_driver : ObjectId → Driver → Bool
is_used_by_driver id d = not (same_id (anim.Object id) d.id) && list_any (is_read_by id) d.variables

abbrev pub is_in_use : SceneRecord → ObjectId → Bool
is_in_use s id =
    list_any (is_used_by_object id) s.objects
    || list_any (λ p. list_any (λ l. option_map_or (λ b. same_object id b.object) l.bound false) p.layers) s.pencils
    || list_any (is_used_by_driver id) s.drivers

abbrev pub in_use : SceneRecord → Edit → Bool
in_use s (RemoveObject object) = option_map_or (λ o. is_in_use s o.id) (object_named s object) false
in_use s edit = false

-- ---- E9: there is no room for one more

-- so many more beside a count would be above a limit
abbrev pub full_at : ℕ → ℕ → ℕ → Option EditCause
full_at count more limit = if nat_le (count + more) limit then None else Some (Full count limit)

-- the bones of an object of a new kind
abbrev pub new_bones : SceneRecord → NewKind → ℕ
new_bones s new.Empty = 0
new_bones s (new.Armature name) = option_map_or (λ a. length a.bones) (find (λ a. same_text a.name name) s.armatures) 0
new_bones s (new.Pencil name) = 0

abbrev pub pencil_object_count : SceneRecord → ℕ
pencil_object_count s = length (filter (λ o. is_pencil_kind o.kind) s.objects)

abbrev pub pose_bone_count : SceneRecord → ℕ
pose_bone_count s = sum_by (λ o. pose_count o.kind) s.objects

-- no room for an object of a new kind, whatever room there is for objects
abbrev pub full_of_kind : SceneRecord → NewKind → Option EditCause
full_of_kind s new.Empty = None
full_of_kind s (new.Armature name) = full_at (pose_bone_count s) (new_bones s (new.Armature name)) MAX_POSE_BONES
full_of_kind s (new.Pencil name) = full_at (pencil_object_count s) 1 MAX_PENCIL_OBJECTS

-- what replaces another isn't one more
abbrev pub full : SceneRecord → Edit → Option EditCause
full s (SetKey action path frame value interp) =
    if has_key s action path frame then None else full_at (key_count s.actions) 1 MAX_KEYS
full s (SetLayerKey pencil layer frame drawing) =
    if has_layer_key s pencil layer frame then None else full_at (layer_key_count s.pencils) 1 MAX_LAYER_KEYS
full s (SetDriver id path driver) = if has_driver s id path then None else full_at (length s.drivers) 1 MAX_DRIVERS
full s (AddObject name kind) = option_or (full_at (length s.objects) 1 MAX_OBJECTS) (full_of_kind s kind)
full s (AddModifier object name viewport render effect) =
    option_and_then (λ o. full_at (length (modifiers_of o.kind)) 1 MAX_MODIFIERS) (object_named s object)
full s edit = None

-- ---- the answer

-- a cause where its condition holds
abbrev pub when : EditCause → Bool → Option EditCause
when cause holds = if holds then Some cause else None

-- the first cause that holds, none where the edit is accepted
abbrev pub first_cause : SceneRecord → Edit → Option EditCause
first_cause s edit =
    option_or (when UnknownId (unknown_id s edit)) (option_or (when WrongKind (wrong_kind s edit))
    (option_or (when UnknownPath (unknown_path s edit)) (option_or (when UnknownPart (unknown_part s edit))
    (option_or (when OutOfRange (out_of_range s edit)) (option_or (when Duplicate (duplicate s edit))
    (option_or (when Absent (absent s edit)) (option_or (when InUse (in_use s edit)) (full s edit))))))))

-- ---- edits

-- what the types of an edit promise: a driver has variables, and not too many
abbrev pub IsEdit : Edit → Type 0
IsEdit (SetDriver id path driver) = (1 ≤ length driver.variables) × (length driver.variables ≤ MAX_VARIABLES)
IsEdit edit = ⊤

-- The second pass over a scene: names and numbers of drawings that refer to nothing, kinds that an object or a path can't
-- have, and the bones of all objects together. What names there are is in the catalog that the first pass leaves.
use Rattle.std.specs.Prelude.{ℕ, suc, ◌-◌, pos, ◌&&◌, List, [], ◌++◌, codes, length, position, slice_get, Bool, true, false, not, is_some, unwrap_or, nat_lt, nat_le, int_le, int_lt, if◌then◌else◌}
use Rattle.std.specs.Option.{option_map_or}
use Rattle.serde_json.specs.Data.{Data, Items, no_items, item}
use Rattle.rig_scene.specs.declared.limits.TheConstants.{MAX_POSE_BONES}
use Rattle.rig_scene.specs.Text.{same_text}
use Rattle.rig_scenejson.specs.declared.before.Catalog.{Catalog}
use Rattle.rig_scenejson.specs.declared.before.Rig.{Rig}
use Rattle.rig_scenejson.specs.declared.before.Rig.TheVariants as rigs
use Rattle.rig_scenejson.specs.declared.fault.Fault.{Fault}
use Rattle.rig_scenejson.specs.declared.fault.Cause.TheVariants.{UnknownRef, WrongIdKind, Count}
use Rattle.rig_scenejson.specs.declared.member.Member.{Member}
use Rattle.rig_scenejson.specs.declared.member.Member.TheVariants as m
use Rattle.rig_scenejson.specs.Tests.{unless, fault, in_member, in_item, required, optional}
use Rattle.rig_scenejson.specs.Value.{whole_of, text_of, items_of, item_count}
use Rattle.rig_scenejson.specs.Given.{has, text_at, items_at, is_kind, names_pencil, index_of, rig_at, bones_at, bones_named}
use Rattle.rig_scenejson.specs.PassOne.{where_true, after_any}

-- the faults of items, each tested with its index and with what stood before it in its list
abbrev pub each_from : {B : Type 0} → (ℕ → B → Data → List Fault) → (B → Data → B) → ℕ → B → Items → List Fault
each_from faults next index before no_items = []
each_from faults next index before (item d ds) = in_item index (faults index before d) ++ each_from faults next (suc index) (next before d) ds

-- the faults of the items of a list that may be absent
abbrev pub each_faults : {B : Type 0} → Member → (ℕ → B → Data → List Fault) → (B → Data → B) → B → Data → List Fault
each_faults member faults next before d = optional member (λ v. each_from faults next 0 before (items_of v)) d

-- S7: the text is none of these names
abbrev pub known_faults : List (List ℕ) → Data → List Fault
known_faults names d = unless (is_some (position (same_text (text_of d)) names)) UnknownRef

abbrev pub is_armature_rig : Rig → Bool
is_armature_rig rigs.NoArmature = false
is_armature_rig rigs.UnknownArmature = true
is_armature_rig (rigs.Armature armature) = true

-- S8: the object of a name is no armature object
abbrev pub armature_object_faults : Catalog → List ℕ → List Fault
armature_object_faults c object = unless (is_armature_rig (rig_at c (index_of c.objects object))) WrongIdKind

-- S8, then S7: a bone of the object of a name
abbrev pub bone_of_faults : Catalog → List ℕ → Data → List Fault
bone_of_faults c object d = armature_object_faults c object ++ known_faults (bones_named c object) d

-- ---- armatures

-- S7: the parent isn't one of the bones before it
abbrev pub parent_bone_faults : List (List ℕ) → ℕ → Data → List Fault
parent_bone_faults names index d = unless (option_map_or (λ p. nat_lt p index) (position (same_text (text_of d)) names) false) UnknownRef

abbrev pub bone_references : List (List ℕ) → ℕ → Unit {0} → Data → List Fault
bone_references names index before d = optional m.Parent (parent_bone_faults names index) d

abbrev pub armature_references : Catalog → ℕ → Unit {0} → Data → List Fault
armature_references c index before d = each_faults m.Bones (bone_references (bones_at c index)) after_any tt d

-- ---- pencils

-- S7: there is no drawing of this number
abbrev pub drawing_reference : ℕ → Data → List Fault
drawing_reference drawings d = unless (int_le (pos 0) (whole_of d) && int_lt (whole_of d) (pos drawings)) UnknownRef

abbrev pub layer_key_references : ℕ → ℕ → Unit {0} → Data → List Fault
layer_key_references drawings index before d = required m.Drawing (drawing_reference drawings) d

-- S7, then S8: there is no object of the name, or it is no armature object
abbrev pub armature_references_of : Catalog → Data → List Fault
armature_references_of c a = known_faults c.objects a ++ armature_object_faults c (text_of a)

-- S7, then S8 at the armature; then S7 at the bone
abbrev pub layer_references : Catalog → ℕ → ℕ → Unit {0} → Data → List Fault
layer_references c drawings index before d =
    optional m.Armature (armature_references_of c) d
    ++ where_true (has m.Armature d) (required m.Bone (known_faults (bones_named c (text_at m.Armature d))) d)
    ++ each_faults m.Keys (layer_key_references drawings) after_any tt d

abbrev pub pencil_references : Catalog → ℕ → Unit {0} → Data → List Fault
pencil_references c index before d =
    optional m.Action (known_faults c.actions) d
    ++ each_faults m.Layers (layer_references c (item_count (items_at m.Drawings d))) after_any tt d

-- ---- objects

-- the names of the bones of the armature that a record's `data` names
abbrev pub data_bones : Catalog → Data → List (List ℕ)
data_bones c d = option_map_or (bones_at c) (position (same_text (text_at m.Data d)) c.armatures) []

-- S7, then S10 where its bones are too many beside those of the objects before it
abbrev pub armature_data_references : Catalog → ℕ → Data → List Fault
armature_data_references c bones_left d =
    required m.Data (known_faults c.armatures) d ++ in_member m.Data (unless (nat_le (length (data_bones c d)) bones_left) Count)

abbrev pub data_references : Catalog → ℕ → Data → List Fault
data_references c bones_left d =
    where_true (is_kind (codes "armature") d)
    (armature_data_references c bones_left d)
    ++ where_true (is_kind (codes "pencil") d) (required m.Data (known_faults c.pencils) d)

abbrev pub pose_references : List (List ℕ) → ℕ → Unit {0} → Data → List Fault
pose_references bones index before d = required m.Bone (known_faults bones) d

abbrev pub modifier_references : Catalog → ℕ → Unit {0} → Data → List Fault
modifier_references c index before d = where_true (is_kind (codes "mirror") d) (optional m.Object (known_faults c.objects) d)

-- the references of a pose, and of a stack of modifiers
abbrev pub pose_list_references : Catalog → Data → List Fault
pose_list_references c d = each_faults m.Pose (pose_references (data_bones c d)) after_any tt d

abbrev pub modifier_list_references : Catalog → Data → List Fault
modifier_list_references c d = each_faults m.Modifiers (modifier_references c) after_any tt d

-- how many bones there may still be
abbrev pub object_references : Catalog → ℕ → ℕ → Data → List Fault
object_references c index bones_left d =
    data_references c bones_left d ++ optional m.Parent (known_faults c.objects) d
    ++ where_true (has m.Parent d) (optional m.ParentBone (bone_of_faults c (text_at m.Parent d)) d)
    ++ optional m.Action (known_faults c.actions) d
    ++ where_true (is_kind (codes "armature") d) (pose_list_references c d)
    ++ where_true (is_kind (codes "pencil") d) (modifier_list_references c d)

abbrev pub after_bones : Catalog → ℕ → Data → ℕ
after_bones c bones_left d = if is_kind (codes "armature") d then bones_left - length (data_bones c d) else bones_left

-- ---- drivers

abbrev pub id_references : Catalog → Data → List Fault
id_references c d = if names_pencil d then required m.Pencil (known_faults c.pencils) d else required m.Object (known_faults c.objects) d

-- the names of the layers of the pencil of a name
abbrev pub layers_named : Catalog → List ℕ → List (List ℕ)
layers_named c pencil = unwrap_or (slice_get c.layers (index_of c.pencils pencil)) []

-- S8 at the channel for a kind that the id can't have, else S7 at the bone or the layer
abbrev pub path_references : Catalog → Data → List Fault
path_references c d =
    if names_pencil d
    then (if not (has m.Bone d) && has m.Layer d then required m.Layer (known_faults (layers_named c (text_at m.Pencil d))) d else in_member m.Channel (fault WrongIdKind))
    else (if has m.Bone d
    then (if is_armature_rig (rig_at c (index_of c.objects (text_at m.Object d))) then required m.Bone (known_faults (bones_named c (text_at m.Object d))) d else in_member m.Channel (fault WrongIdKind))
    else where_true (has m.Layer d) (in_member m.Channel (fault WrongIdKind)))

abbrev pub variable_references : Catalog → ℕ → Unit {0} → Data → List Fault
variable_references c index before d =
    where_true (is_kind (codes "property") d) (id_references c d ++ path_references c d)
    ++ where_true (is_kind (codes "transform") d)
    (required m.Object (known_faults c.objects) d ++ optional m.Bone (bone_of_faults c (text_at m.Object d)) d)

abbrev pub driver_references : Catalog → ℕ → Unit {0} → Data → List Fault
driver_references c index before d =
    id_references c d ++ path_references c d ++ each_faults m.Variables (variable_references c) after_any tt d

-- ---- the scene

unfoldable pub pass_two : Catalog → Data → List Fault
pass_two c d =
    each_faults m.Armatures (armature_references c) after_any tt d
    ++ each_faults m.Pencils (pencil_references c) after_any tt d
    ++ each_faults m.Objects (object_references c) (after_bones c) MAX_POSE_BONES d
    ++ each_faults m.Drivers (driver_references c) after_any tt d

-- What is wrong with an edit of a script: for each word the tests of its members, in their order. A whole number of an edit is any of 64 bits.
use Rattle.std.specs.Prelude.{ℕ, ◌==◌, ◌&&◌, ◌||◌, not, List, [], ◌∷◌, ◌++◌, codes, Bool, if◌then◌else◌}
use Rattle.std.specs.Option.{option_map_or}
use Rattle.serde_json.specs.Data.{Data, Items}
use Rattle.serde_json.specs.Find.{as_array}
use Rattle.rig_scene.specs.declared.limits.TheConstants.{MAX_VARIABLES}
use Rattle.rig_scene.specs.Text.{same_text}
use Rattle.rig_scenejson.specs.declared.fault.Cause.TheVariants.{WrongKind}
use Rattle.rig_scenejson.specs.declared.fault.Fault.{Fault}
use Rattle.rig_scenejson.specs.declared.member.Member.TheVariants as m
use Rattle.rig_scenejson.specs.Given.{has, text_at, is_kind}
use Rattle.rig_scenejson.specs.PassOne.{where_true, id_faults, path_faults, list_faults, target_faults, transform_variable_faults, variable_faults, after_any}
use Rattle.rig_scenejson.specs.Tests.{fault, required, optional, items_faults}
use Rattle.rig_scenejson.specs.Value.{integer_faults, item_count, name_faults, word_faults, truth_faults, is_among}

-- the words of edits
abbrev pub edit_words : List (List ℕ)
edit_words =
    codes "set" ∷ codes "key" ∷ codes "unkey" ∷ codes "flag" ∷ codes "point" ∷ codes "hold" ∷ codes "unhold" ∷ codes "parent" ∷ codes "driver"
    ∷ codes "undriver" ∷ codes "add" ∷ codes "remove" ∷ codes "modify" ∷ codes "unmodify" ∷ []

-- whether an edit has a word
abbrev pub is_edit : List ℕ → Data → Bool
is_edit word d = same_text (text_at m.Edit d) word

-- items that are whole numbers
abbrev pub whole_items_faults : Items → List Fault
whole_items_faults ds = items_faults (λ before. integer_faults) (λ before item. before) 0 (tt {0}) ds

-- S2: it isn't an array of three; then those of its items, each a whole number
abbrev pub whole3_faults : Data → List Fault
whole3_faults d = option_map_or (λ ds. if item_count ds == 3 then whole_items_faults ds else fault WrongKind) (as_array d) (fault WrongKind)

abbrev pub interp_faults : Data → List Fault
interp_faults d = optional m.Interp (word_faults (is_among (codes "constant" ∷ codes "linear" ∷ []))) d

-- an edit of a layer where no object is named but a pencil is
abbrev pub is_of_layer : Data → Bool
is_of_layer d = not (has m.Object d) && has m.Pencil d

abbrev pub set_faults : Data → List Fault
set_faults d = id_faults d ++ path_faults d ++ required m.Value integer_faults d

abbrev pub key_faults : Data → List Fault
key_faults d =
    required m.Action name_faults d ++ path_faults d ++ required m.Frame integer_faults d ++ required m.Value integer_faults d ++ interp_faults d

abbrev pub unkey_faults : Data → List Fault
unkey_faults d = required m.Action name_faults d ++ path_faults d ++ required m.Frame integer_faults d

abbrev pub hidden_faults : Data → List Fault
hidden_faults d = required m.Pencil name_faults d ++ required m.Layer name_faults d ++ required m.On truth_faults d

abbrev pub switch_faults : Data → List Fault
switch_faults d =
    required m.Object name_faults d ++ required m.Modifier name_faults d
    ++ required m.Switch (word_faults (is_among (codes "viewport" ∷ codes "render" ∷ []))) d ++ required m.On truth_faults d

abbrev pub flag_faults : Data → List Fault
flag_faults d = if is_of_layer d then hidden_faults d else switch_faults d

abbrev pub point_faults : Data → List Fault
point_faults d =
    required m.Pencil name_faults d ++ required m.Drawing integer_faults d ++ required m.Stroke integer_faults d
    ++ required m.Point integer_faults d ++ required m.To whole3_faults d

abbrev pub hold_faults : Data → List Fault
hold_faults d =
    required m.Pencil name_faults d ++ required m.Layer name_faults d ++ required m.Frame integer_faults d ++ required m.Drawing integer_faults d

abbrev pub unhold_faults : Data → List Fault
unhold_faults d = required m.Pencil name_faults d ++ required m.Layer name_faults d ++ required m.Frame integer_faults d

-- the parent, and its bone, which is looked at only with it
abbrev pub new_parent_faults : Data → List Fault
new_parent_faults d = optional m.Parent name_faults d ++ where_true (has m.Parent d) (optional m.Bone name_faults d)

abbrev pub parent_faults : Data → List Fault
parent_faults d =
    required m.Object name_faults d ++ optional m.Parent name_faults d ++ where_true (has m.Parent d) (optional m.Bone name_faults d)

abbrev pub driver_faults : Data → List Fault
driver_faults d =
    id_faults d ++ path_faults d
    ++ required m.Kind (word_faults (is_among (codes "average" ∷ codes "sum" ∷ codes "min" ∷ codes "max" ∷ []))) d
    ++ required m.Variables (list_faults 1 MAX_VARIABLES variable_faults after_any tt) d

-- those of a variable behind its kind
abbrev pub kind_of_variable_faults : Data → List Fault
kind_of_variable_faults d =
    where_true (is_kind (codes "property") d) (target_faults d) ++ where_true (is_kind (codes "transform") d) (transform_variable_faults d)

abbrev pub undriver_faults : Data → List Fault
undriver_faults d = id_faults d ++ path_faults d

-- the data is looked at only for the kinds that have it
abbrev pub add_faults : Data → List Fault
add_faults d =
    required m.Object name_faults d ++ required m.Kind (word_faults (is_among (codes "empty" ∷ codes "armature" ∷ codes "pencil" ∷ []))) d
    ++ where_true (is_kind (codes "armature") d || is_kind (codes "pencil") d) (required m.Data name_faults d)

-- the members that the kind of a modifier has
abbrev pub offset_faults : Data → List Fault
offset_faults d = optional m.Loc whole3_faults d ++ optional m.Scale integer_faults d

abbrev pub mirror_faults : Data → List Fault
mirror_faults d = optional m.X truth_faults d ++ optional m.Y truth_faults d ++ optional m.Z truth_faults d ++ optional m.Centre name_faults d

abbrev pub array_faults : Data → List Fault
array_faults d = required m.Count integer_faults d ++ optional m.Offset whole3_faults d

abbrev pub effect_faults : Data → List Fault
effect_faults d =
    if is_kind (codes "mirror") d then mirror_faults d else (if is_kind (codes "array") d then array_faults d else offset_faults d)

abbrev pub modify_faults : Data → List Fault
modify_faults d =
    required m.Object name_faults d ++ required m.Name name_faults d
    ++ required m.Kind (word_faults (is_among (codes "offset" ∷ codes "mirror" ∷ codes "array" ∷ []))) d
    ++ optional m.Viewport truth_faults d ++ optional m.Render truth_faults d ++ effect_faults d

abbrev pub unmodify_faults : Data → List Fault
unmodify_faults d = required m.Object name_faults d ++ required m.Modifier name_faults d

-- those of its members, by its word
abbrev pub member_faults : Data → List Fault
member_faults d =
    if is_edit (codes "set") d then set_faults d
    else (if is_edit (codes "key") d then key_faults d
    else (if is_edit (codes "unkey") d then unkey_faults d
    else (if is_edit (codes "flag") d then flag_faults d
    else (if is_edit (codes "point") d then point_faults d
    else (if is_edit (codes "hold") d then hold_faults d
    else (if is_edit (codes "unhold") d then unhold_faults d
    else (if is_edit (codes "parent") d then parent_faults d
    else (if is_edit (codes "driver") d then driver_faults d
    else (if is_edit (codes "undriver") d then undriver_faults d
    else (if is_edit (codes "add") d then add_faults d
    else (if is_edit (codes "remove") d then required m.Object name_faults d
    else (if is_edit (codes "modify") d then modify_faults d
    else unmodify_faults d))))))))))))

-- S1, S2, S4 at the word, then those of its members
abbrev pub edit_faults : Data → List Fault
edit_faults d = required m.Edit (word_faults (is_among edit_words)) d ++ member_faults d
